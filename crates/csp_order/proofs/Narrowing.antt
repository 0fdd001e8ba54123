-- What is within another: disjunctions of parts, the answers of lists of tokens, policies.
use Rattle.std.proofs.Common.{arith, below_more, ◌≡◌, ◌∙◌, sym, ap, subst, refl, ℕ, ◌+◌, ◌<◌, zero, suc, Bool, true, false, List, [], ◌∷◌, map, All, inl, inr}
use Rattle.std.specs.Prelude.{Option, Some, None, ◌⊎◌, slice_get, IsTrue}
use Rattle.std.proofs.lemmas.List.Elements.{All-head, All-tail}
use Rattle.std.proofs.lemmas.Simd.{map-map}
use Rattle.csp_formula.specs.Compiled.{fetch_sentence, inline_sentence}
use Rattle.csp_formula.specs.Questions.{answer_of_list, list_answer, said_by_list, shape_asked}
use Rattle.csp_formula.specs.Sentences.{Sentence, Known, Either, any_of}
use Rattle.csp_formula.specs.Sources.{list_sentence, source_sentence}
use Rattle.csp_formula.specs.Surely.{maybe_or, surely}
use Rattle.csp_formula.specs.declared.question.ListQuestion.{ListQuestion}
use Rattle.csp_model.specs.Policies.{IsReadablePolicy}
use Rattle.csp_model.specs.Reading.{source_of}
use Rattle.csp_model.specs.declared.check.FetchRule.{FetchRule}
use Rattle.csp_model.specs.declared.check.FetchRule.TheVariants as rule
use Rattle.csp_model.specs.declared.check.InlineKind.{InlineKind}
use Rattle.csp_model.specs.declared.policy.Directive.{Directive}
use Rattle.csp_model.specs.declared.policy.Policy.{Policy}
use Rattle.csp_model.specs.declared.source.Hash.{Hash}
use Rattle.csp_model.specs.declared.source.Source.{Source}
use Rattle.csp_model.specs.declared.url.Origin.{Origin}
use Rattle.csp_facts.specs.Numbers.{number}
use Rattle.csp_facts.specs.Shapes.{is_shape}
use Rattle.csp_facts.specs.declared.shape.Shape.{Shape}
use Rattle.csp_facts.proofs.Apart.{one_shape}
use Rattle.csp_order.specs.Within.{Narrows, AreBoth, HasPartOf, HasTokensOf, AreParts}

-- Values

or_false : (a b : Option Bool) → maybe_or a b ≡ Some false → (a ≡ Some false) × (b ≡ Some false)
or_false (Some true) b is = cc is
or_false (Some false) b is = (refl, is)
or_false None (Some true) is = cc is
or_false None (Some false) is = cc is
or_false None None is = cc is

or_true : (a b : Option Bool) → maybe_or a b ≡ Some true → (a ≡ Some true) ⊎ (b ≡ Some true)
or_true (Some true) b is = inl refl
or_true (Some false) b is = inr is
or_true None (Some true) is = inr refl
or_true None (Some false) is = cc is
or_true None None is = cc is

both_false : (a b : Option Bool) → a ≡ Some false → b ≡ Some false → maybe_or a b ≡ Some false
both_false (Some true) b h k = cc h
both_false (Some false) b h k = k
both_false None b h k = cc h

left_true : (a b : Option Bool) → a ≡ Some true → maybe_or a b ≡ Some true
left_true (Some true) b h = refl
left_true (Some false) b h = cc h
left_true None b h = cc h

right_true : (a b : Option Bool) → b ≡ Some true → maybe_or a b ≡ Some true
right_true (Some true) b h = refl
right_true (Some false) b h = h
right_true None (Some true) h = refl
right_true None (Some false) h = cc h
right_true None None h = cc h

-- Sentences

pub narrows_self : (s : Sentence) → Narrows s s
narrows_self s = record { refuses = λ ls is. is; allows = λ ls is. is }

narrows_same : (one other : Sentence) → one ≡ other → Narrows one other
narrows_same one other is = subst (Narrows one) is (narrows_self one)

pub narrows_as : (one other here there : Sentence) → here ≡ one → there ≡ other → Narrows one other → Narrows here there
narrows_as one other here there is at n = subst (λ (s : Sentence). Narrows s there) (sym is) (subst (Narrows one) (sym at) n)

narrows_both : (s one other : Sentence) → Narrows one other → Narrows (Either s one) (Either s other)
narrows_both s one other n = record {
  refuses = λ ls is.
      let parts = or_false (surely ls s) (surely ls other) is in
      both_false (surely ls s) (surely ls one) parts.0 (n.refuses ls parts.1);
  allows = λ ls is. elim (or_true (surely ls s) (surely ls one) is) [
    | inl first ↦ left_true (surely ls s) (surely ls other) first
    | inr rest ↦ right_true (surely ls s) (surely ls other) (n.allows ls rest)
  ];
}

narrows_more : (s one other : Sentence) → Narrows one other → Narrows one (Either s other)
narrows_more s one other n = record {
  refuses = λ ls is. n.refuses ls (or_false (surely ls s) (surely ls other) is).1;
  allows = λ ls is. right_true (surely ls s) (surely ls other) (n.allows ls is);
}

-- Tokens

abbrev pub said : (List ℕ → Sentence) → List (List ℕ) → Sentence
said says tokens = any_of (map says tokens)

pub one_taken : (says : List ℕ → Sentence) (token other : List ℕ) (behind later others rest : List (List ℕ)) → rest ≡ token ∷ behind → others ≡ other ∷ later → token ≡ other
    → Narrows (said says behind) (said says later) → Narrows (said says rest) (said says others)
one_taken says token other behind later others rest cut left same n =
    narrows_as (said says (token ∷ behind)) (said says (token ∷ later)) (said says rest) (said says others) (ap (said says) cut)
    (ap (said says) left ∙ ap (λ (t : List ℕ). said says (t ∷ later)) (sym same))
    (narrows_both (says token) (said says behind) (said says later) n)

pub one_passed : (says : List ℕ → Sentence) (other : List ℕ) (later others rest : List (List ℕ)) → others ≡ other ∷ later
    → Narrows (said says rest) (said says later) → Narrows (said says rest) (said says others)
one_passed says other later others rest left n =
    narrows_as (said says rest) (said says (other ∷ later)) (said says rest) (said says others) refl (ap (said says) left)
    (narrows_more (says other) (said says rest) (said says later) n)

-- Directives, of which the sources are what the tokens mean

abbrev pub IsRead : Directive → Type 0
IsRead d = d.sources ≡ map source_of d.tokens

-- what a place of a list of directives has is read
abbrev pub IsReadAt : Option Directive → Type 0
IsReadAt None = Unit {0}
IsReadAt (Some d) = IsRead d

pub read_at : (ds : List Directive) (place : ℕ) → All IsRead ds → IsReadAt (slice_get ds place)
read_at [] place read = tt
read_at (d ∷ ds) zero read = All-head IsRead d ds read
read_at (d ∷ ds) (suc place) read = read_at ds place (All-tail IsRead d ds read)

said_within : (R : Directive → Directive → Type 0) (x y : Option Directive) (f g : List Source → Sentence) → AreBoth R x y → IsReadAt x → IsReadAt y
    → ((d e : Directive) → IsRead d → IsRead e → R d e → Narrows (f d.sources) (g e.sources)) → Narrows (said_by_list x f) (said_by_list y g)
said_within R None None f g both here there each = narrows_self (Known true)
said_within R (Some d) (Some e) f g both here there each = each d e here there both
said_within R None (Some e) f g both here there each = absurd both
said_within R (Some d) None f g both here there each = absurd both

list_of_tokens : (self : Origin) (kind : Shape) (d : Directive) → IsRead d → list_sentence self kind d.sources ≡ said (λ t. source_sentence self kind (source_of t)) d.tokens
list_of_tokens self kind d read =
    ap (list_sentence self kind) read ∙ ap any_of (map-map (source_sentence self kind) source_of d.tokens)

decides_alone : (self : Origin) (hashes : List Hash) (q : ListQuestion) (sources : List Source) → q.rule ≡ rule.List → answer_of_list self hashes q sources ≡ list_sentence self (shape_asked q) sources
decides_alone self hashes q sources is =
    ap (λ (by : FetchRule). fetch_sentence by hashes sources q.parser_inserted (list_sentence self (shape_asked q) sources)) is

module _ (one other : Policy) (origin : one.origin ≡ other.origin) (ours : IsReadablePolicy one) (theirs : IsReadablePolicy other) (hashes : List Hash) where
  pub listed_within : (q : ListQuestion) → q.rule ≡ rule.List → AreParts one.directives other.directives → Narrows (list_answer one hashes q) (list_answer other hashes q)
  listed_within q is parts =
      let kind = shape_asked q in
      said_within HasPartOf (slice_get one.directives q.place) (slice_get other.directives q.place) (answer_of_list one.origin hashes q) (answer_of_list other.origin hashes q)
      (parts q.place) (read_at one.directives q.place ours.read) (read_at other.directives q.place theirs.read)
      (λ d e here there part.
      let says = λ (t : List ℕ). source_sentence one.origin kind (source_of t) in
      narrows_as (said says d.tokens) (said says e.tokens) (answer_of_list one.origin hashes q d.sources) (answer_of_list other.origin hashes q e.sources)
      (decides_alone one.origin hashes q d.sources is ∙ list_of_tokens one.origin kind d here)
      (decides_alone other.origin hashes q e.sources is ∙ ap (λ (o : Origin). list_sentence o kind e.sources) (sym origin) ∙ list_of_tokens one.origin kind e there)
      (part says))

  same_sources : (d e : Directive) → IsRead d → IsRead e → HasTokensOf d e → d.sources ≡ e.sources
  same_sources d e here there same = here ∙ ap (map source_of) same ∙ sym there

  pub listed_same : (q : ListQuestion) → AreBoth HasTokensOf (slice_get one.directives q.place) (slice_get other.directives q.place) → Narrows (list_answer one hashes q) (list_answer other hashes q)
  listed_same q both =
      said_within HasTokensOf (slice_get one.directives q.place) (slice_get other.directives q.place) (answer_of_list one.origin hashes q) (answer_of_list other.origin hashes q)
      both (read_at one.directives q.place ours.read) (read_at other.directives q.place theirs.read)
      (λ d e here there same. narrows_same (answer_of_list one.origin hashes q d.sources) (answer_of_list other.origin hashes q e.sources)
      (ap (λ (o : Origin). answer_of_list o hashes q d.sources) origin ∙ ap (answer_of_list other.origin hashes q) (same_sources d e here there same)))

  pub inline_same : (place : ℕ) (which : InlineKind) → AreBoth HasTokensOf (slice_get one.directives place) (slice_get other.directives place)
      → Narrows (said_by_list (slice_get one.directives place) (inline_sentence which)) (said_by_list (slice_get other.directives place) (inline_sentence which))
  inline_same place which both =
      said_within HasTokensOf (slice_get one.directives place) (slice_get other.directives place) (inline_sentence which) (inline_sentence which)
      both (read_at one.directives place ours.read) (read_at other.directives place theirs.read)
      (λ d e here there same. narrows_same (inline_sentence which d.sources) (inline_sentence which e.sources) (ap (inline_sentence which) (same_sources d e here there same)))

-- Shapes

pub shape_more : (P : Shape → Type 0) (kind : Shape) (n : ℕ) → IsTrue (is_shape kind) → number kind ≡ n → P kind
    → ((s : Shape) → IsTrue (is_shape s) → number s < n → P s) → (s : Shape) → IsTrue (is_shape s) → number s < n + 1 → P s
shape_more P kind n listed is here before s of less =
    below_more (λ (k : ℕ). (t : Shape) → IsTrue (is_shape t) → number t ≡ k → P t) n
    (λ k small t at same. before t at (omega arith))
    (λ t at same. subst P (one_shape kind t listed at (is ∙ sym same)) here)
    (number s) less s of refl
