-- What `order` prints: of each two of many lists whether the second allows all that the first allows, and
-- what shows it.
use Rattle.std.specs.Prelude.{◌≡◌, ⊤, ℕ, List, ◌++◌, All, Ok, codes, decimal}
use Rattle.std.specs.List.{flat_map}
use Rattle.csp_model.specs.Validity.{IsValidCheck}
use Rattle.csp_model.specs.declared.policy.PolicyList.{PolicyList}
use Rattle.csp_order.specs.Relations.{IsOrder}
use Rattle.csp_order.specs.declared.relation.Because.{Because}
use Rattle.csp_order.specs.declared.relation.Because.TheVariants as because
use Rattle.csp_order.specs.declared.relation.Relation.{Relation}
use Rattle.csp_proof.specs.Spelling.{proof_text}
use Rattle.csp_proof.specs.WellFormed.{IsWellFormed}
use Rattle.csp_request.specs.Requests.{check_of}
use Rattle.csp_output.specs.Comparisons.{description_of}
use Rattle.csp_output.specs.declared.built.Built.{Built}
use Rattle.csp_output.specs.declared.status.Status.TheVariants.{Clean}

-- numbers, with a space before each
abbrev pub numbers_text : List ℕ → List ℕ
numbers_text numbers = flat_map (λ n. codes " " ++ decimal n) numbers

-- the end of a pair's line, and the proof or the check behind it
abbrev pub because_text : Because → List ℕ
because_text (because.Proof proof) = codes " yes proof\n" ++ proof_text proof
because_text (because.Through lists) = codes " yes through" ++ (numbers_text lists ++ codes "\n")
because_text (because.Check asked) = codes " no\n" ++ (description_of asked ++ codes "\n")

-- the numbers of the two lists, and what is said of them
abbrev pub relation_text : Relation → List ℕ
relation_text r = decimal r.first ++ (codes " " ++ (decimal r.second ++ because_text r.because))

-- where a check is told, its description reads back to the check
abbrev pub IsReadBack : Because → Type 0
IsReadBack (because.Proof proof) = ⊤
IsReadBack (because.Through lists) = ⊤
IsReadBack (because.Check asked) = check_of (description_of asked) ≡ Ok asked

-- The text is that of a relation for each two lists, each with its reason. Several are right: a proof may be
-- made in many ways, and a chain and a check chosen.
pub record IsOrdering (lists : List PolicyList) (built : Built) : Type 0 where
  pub relations : List Relation
  pub order : IsOrder lists relations
  pub read_back : All (λ (r : Relation). IsReadBack r.because) relations
  pub status : built.status ≡ Clean
  pub text : built.text ≡ flat_map relation_text relations

-- A word of private contracts: the proof has a text, and the check is valid.
abbrev pub IsWritable : Because → Type 0
IsWritable (because.Proof proof) = IsWellFormed proof
IsWritable (because.Through lists) = ⊤
IsWritable (because.Check asked) = IsValidCheck asked
