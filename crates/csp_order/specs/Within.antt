-- Lists of which one refuses all that another refuses, as far as literals tell: a proof for the other is one for
-- it too.
use Rattle.std.specs.Prelude.{◌≡◌, ℕ, true, false, List, map, Option, Some, None, IsTrue, ⊤, slice_get}
use Rattle.csp_facts.specs.declared.atom.Literal.{Literal}
use Rattle.csp_formula.specs.Compiled.{policy_sentence}
use Rattle.csp_formula.specs.Sentences.{Sentence, any_of}
use Rattle.csp_formula.specs.Surely.{surely}
use Rattle.csp_model.specs.declared.policy.Directive.{Directive}
use Rattle.csp_model.specs.declared.policy.Policy.{Policy}
use Rattle.csp_model.specs.declared.policy.PolicyList.{PolicyList}
use Rattle.csp_model.specs.declared.source.Hash.{Hash}
use Rattle.csp_facts.specs.Shapes.{is_shape}
use Rattle.csp_facts.specs.declared.shape.Shape.{Shape}

-- where literals surely make the other sentence false, they make this one false, and where they make this one
-- true, the other
pub record Narrows (one other : Sentence) : Type 0 where
  pub refuses : (literals : List Literal) → surely literals other ≡ Some false → surely literals one ≡ Some false
  pub allows : (literals : List Literal) → surely literals one ≡ Some true → surely literals other ≡ Some true

-- both policies count or neither does, and so it is of what they say of each shape
pub record IsPolicyWithin (one other : Policy) : Type 0 where
  pub disposition : one.disposition ≡ other.disposition
  pub narrows : (kind : Shape) → IsTrue (is_shape kind) → (hashes : List Hash)
      → Narrows (policy_sentence one kind hashes) (policy_sentence other kind hashes)

-- there are both, and the relation holds, or there is neither
abbrev pub AreBoth : {A : Type 0} → (A → A → Type 0) → Option A → Option A → Type 0
AreBoth {A} R None None = ⊤
AreBoth {A} R (Some x) (Some y) = R x y
AreBoth {A} R None (Some y) = ⊥
AreBoth {A} R (Some x) None = ⊥

-- the lists have as many policies, and each of the one is within that of the other
abbrev pub IsWithin : PolicyList → PolicyList → Type 0
IsWithin one other =
    (place : ℕ) → AreBoth IsPolicyWithin (slice_get one.policies place) (slice_get other.policies place)

-- Words of private contracts

-- a disjunction of what the tokens say is within that of what the others say, whatever they say
abbrev pub IsPart : List (List ℕ) → List (List ℕ) → Type 0
IsPart tokens others =
    (says : List ℕ → Sentence) → Narrows (any_of (map says tokens)) (any_of (map says others))

abbrev pub HasPartOf : Directive → Directive → Type 0
HasPartOf one other = IsPart one.tokens other.tokens

abbrev pub HasTokensOf : Directive → Directive → Type 0
HasTokensOf one other = one.tokens ≡ other.tokens

-- the directives of the one, place by place, have parts of the tokens of the other's
abbrev pub AreParts : List Directive → List Directive → Type 0
AreParts ones others = (place : ℕ) → AreBoth HasPartOf (slice_get ones place) (slice_get others place)
