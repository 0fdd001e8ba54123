-- Trees that show the pairs of all shapes are a proof.
use Rattle.std.proofs.Common.{arith, ◌≡◌, ◌∙◌, sym, ap, subst, refl, ℕ, ◌+◌, ◌*◌, ◌<◌, ◌≤◌, ◌^◌, List, [], ◌∷◌, ◌++◌, length, map, take, append-nil}
use Rattle.std.specs.Prelude.{None, IsTrue}
use Rattle.std.specs.List.{flat_map}
use Rattle.std.proofs.lemmas.List.{take_more}
use Rattle.std.proofs.lemmas.List.Concat.{flat_map-append}
use Rattle.std.proofs.Math.Nat.{mul-le-mul_left}
use Rattle.csp_model.specs.Policies.{policy_limit}
use Rattle.csp_facts.specs.Numbers.{number, shape_count}
use Rattle.csp_facts.specs.Shapes.{is_shape}
use Rattle.csp_facts.specs.declared.shape.Shape.{Shape}
use Rattle.csp_proof.specs.Accepts.{Lists, bad_from}
use Rattle.csp_proof.specs.Pairs.{Pair, enforced, pairs, shapes}
use Rattle.csp_proof.specs.WellFormed.{AreTrees, line_behind}
use Rattle.csp_proof.specs.declared.proof.Format.{Format}
use Rattle.csp_proof.specs.declared.proof.Format.TheVariants.{Two}
use Rattle.csp_proof.specs.declared.proof.Proof.{Proof}
use Rattle.csp_proof.specs.declared.proof.Tree.{Tree}
use Rattle.csp_facts.proofs.Listed.{at_number}
use Rattle.csp_compare.specs.Answers.{SharesNodes, IsPrinted}
use Rattle.csp_compare.specs.Drafts.{Shows, Adds, at_shape}

-- the pairs of the first shapes, so many, with policies of these numbers
abbrev pub pairs_of : List ℕ → ℕ → List Pair
pairs_of policies count = flat_map (λ (s : Shape). map (at_shape s) policies) (take count shapes)

pub shows_none : (lists : Lists) (policies : List ℕ) → Shows lists (pairs_of policies 0) []
shows_none lists policies = record { formed = tt; accepted = λ more last. refl }

pairs_more : (policies : List ℕ) (kind : Shape) → IsTrue (is_shape kind) → number kind < shape_count → pairs_of policies (number kind + 1) ≡ pairs_of policies (number kind) ++ map (at_shape kind) policies
pairs_more policies kind is small =
    let of_shape = λ (s : Shape). map (at_shape s) policies in
    let within : number kind < length shapes = small in
    let front = take (number kind) shapes in
    ap (flat_map of_shape) (take_more shapes (number kind) kind within ∙ ap (λ (s : Shape). front ++ s ∷ []) (at_number kind is small))
    ∙ flat_map-append of_shape front (kind ∷ []) ∙ ap (λ (ps : List Pair). flat_map of_shape front ++ ps) (append-nil (of_shape kind))

pub shows_more : (lists : Lists) (policies : List ℕ) (kind : Shape) (n : ℕ) (old new : List Tree) → IsTrue (is_shape kind) → number kind ≡ n → n < shape_count
    → Shows lists (pairs_of policies n) old → Adds lists (map (at_shape kind) policies) old new → Shows lists (pairs_of policies (n + 1)) new
shows_more lists policies kind n old new is here small shows adds =
    subst (λ (m : ℕ). Shows lists (pairs_of policies (m + 1)) new) here
    (subst (λ (ps : List Pair). Shows lists ps new) (sym (pairs_more policies kind is (subst (λ (m : ℕ). m < shape_count) (sym here) small)))
    (adds.shows (pairs_of policies (number kind)) (subst (λ (m : ℕ). Shows lists (pairs_of policies m) old) (sym here) shows)))

all_shapes : take shape_count shapes ≡ shapes
all_shapes = refl

pub printed : (lists : Lists) (policies : List ℕ) (trees : List Tree) (proof : Proof) → policies ≡ enforced lists.second → Shows lists (pairs_of policies shape_count) trees
    → proof.format ≡ Two → proof.trees ≡ trees → proof.last_line ≡ line_behind trees → SharesNodes trees → IsPrinted lists.first lists.second proof
printed lists policies trees proof are shows format same last_line shares =
    let all = subst (λ (ns : List ℕ). Shows lists (pairs_of ns shape_count) trees) are shows in
    let accepted : bad_from lists trees proof.last_line (pairs lists.second) trees ≡ None =
    subst (λ (ts : List Tree). bad_from lists ts proof.last_line (pairs lists.second) trees ≡ None) (append-nil trees) (all.accepted [] proof.last_line) in
    record {
      formed = record {
        trees = subst (λ (f : Format). AreTrees f [] proof.trees) (sym format) (subst (AreTrees Two []) (sym same) all.formed);
        last_line = last_line ∙ ap line_behind (sym same);
      };
      format = format;
      shares = subst SharesNodes (sym same) shares;
      accepted = subst (λ (ts : List Tree). bad_from lists ts proof.last_line (pairs lists.second) ts ≡ None) (sym same) accepted;
    }

-- there is room for the trees of one shape more
pub room_left : (trees policies count : ℕ) → trees ≡ count * policies → count < shape_count → policies ≤ policy_limit → trees + policies < 2 ^ 32
room_left trees policies count are few small = let most = mul-le-mul_left count small in omega arith
