-- Of readable lists each policy is said by its sentences, where the vocabulary is that of both lists.
use Rattle.std.proofs.Common.{arith, ◌≡◌, ℕ, ◌<◌, zero, suc, List, [], ◌∷◌, ◌++◌, length, get_or, All}
use Rattle.std.specs.Prelude.{Contains}
use Rattle.std.specs.List.{flat_map, filter_map}
use Rattle.std.proofs.lemmas.List.Elements.{Contains-append_left, Contains-append_right, All-weaker, All-contains_itself}
use Rattle.csp_model.specs.DecideVerdict.{allows}
use Rattle.csp_model.specs.Policies.{IsReadable, IsReadablePolicy}
use Rattle.csp_model.specs.Validity.{IsValidCheck}
use Rattle.csp_model.specs.declared.check.Check.{Check}
use Rattle.csp_model.specs.declared.policy.Directive.{Directive}
use Rattle.csp_model.specs.declared.policy.Policy.{Policy}
use Rattle.csp_model.specs.declared.policy.PolicyList.{PolicyList}
use Rattle.csp_model.specs.declared.source.Hash.{Hash}
use Rattle.csp_facts.specs.Vocabulary.{hash_of_source, hashes_of, vocabulary_hashes}
use Rattle.csp_facts.proofs.VocabularyDistinct.{Contains-distinct}
use Rattle.csp_facts.specs.Shapes.{HasShape}
use Rattle.csp_facts.specs.declared.shape.Shape.{Shape}
use Rattle.csp_formula.specs.Compiled.{HasHashesOf, policy_sentence}
use Rattle.csp_formula.specs.Values.{is_true_for}
use Rattle.csp_proof.specs.Accepts.{IsSaid, AreSaid}

pub within_flat : {A B : Type 0} (f : A → List B) (xs : List A) (k : ℕ) (d : A) (b : B) → k < length xs → Contains (f (get_or xs k d)) b → Contains (flat_map f xs) b
within_flat f [] k d b within has = absurd (omega arith)
within_flat f (x ∷ xs) zero d b within has = Contains-append_left (f x) (flat_map f xs) b has
within_flat f (x ∷ xs) (suc k) d b within has = Contains-append_right (f x) (flat_map f xs) b (within_flat f xs k d b (omega arith) has)

abbrev pub hashes_in_directive : Directive → List Hash
hashes_in_directive d = filter_map hash_of_source d.sources

abbrev pub hashes_in_policy : Policy → List Hash
hashes_in_policy p = flat_map hashes_in_directive p.directives

-- the hashes of a policy of the list are among these
pub listed : (hashes : List Hash) (list : PolicyList) → ((h : Hash) → Contains (hashes_of list) h → Contains hashes h) → (k : ℕ) (d : Policy) → k < length list.policies → HasHashesOf hashes (get_or list.policies k d)
listed hashes list among k d within = λ j e inside.
    let policy = get_or list.policies k d in
    let directive = get_or policy.directives j e in
    All-weaker (Contains (hashes_in_directive directive)) (Contains hashes)
    (λ h has. among h (within_flat hashes_in_policy list.policies k d h within (within_flat hashes_in_directive policy.directives j e h inside has)))
    (hashes_in_directive directive) (All-contains_itself (hashes_in_directive directive))

-- what is proved of each policy that is readable
abbrev pub AllSaid : Type 0
AllSaid = (policy : Policy) (kind : Shape) (hashes : List Hash) (asked : Check)
    → IsReadablePolicy policy → HasHashesOf hashes policy → IsValidCheck asked → HasShape asked kind
    → is_true_for hashes asked (policy_sentence policy kind hashes) ≡ allows policy asked

said : AllSaid → (hashes : List Hash) (list : PolicyList) → IsReadable list → ((h : Hash) → Contains (hashes_of list) h → Contains hashes h) → All (IsSaid hashes) list.policies
said law hashes list readable among k d within kind asked has valid =
    law (get_or list.policies k d) kind hashes asked (readable.each k d within) (listed hashes list among k d within) valid has

pub are_said : AllSaid → (first second : PolicyList) → IsReadable first → IsReadable second → AreSaid first second
are_said law first second one two =
    let joined = hashes_of first ++ hashes_of second in
    let hashes = vocabulary_hashes first second in
    record {
      by_first = said law hashes first one (λ h has. (Contains-distinct joined h).1 (Contains-append_left (hashes_of first) (hashes_of second) h has));
      by_second = said law hashes second two (λ h has. (Contains-distinct joined h).1 (Contains-append_right (hashes_of first) (hashes_of second) h has));
    }
