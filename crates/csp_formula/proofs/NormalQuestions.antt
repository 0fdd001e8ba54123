-- What a question leaves out changes no answer: redirects where no path is compared, what inserted a script, and an empty list.
use Rattle.std.proofs.Common.{◌≡◌, ◌∙◌, sym, ap, ap₂, ℕ, refl, Bool, true, false, ◌&&◌, List, [], ◌∷◌, Option, Some, None}
use Rattle.std.specs.Prelude.{is_some, slice_get, not, if◌then◌else◌}
use Rattle.std.specs.List.{list_any}
use Rattle.std.proofs.lemmas.Bool.{or_left, or_right}
use Rattle.csp_model.specs.DecideTokens.{has_keyword}
use Rattle.csp_model.specs.Fetch.{fetch_rule}
use Rattle.csp_model.specs.Governing.{Governor, governor}
use Rattle.csp_model.specs.Names.{group_directive}
use Rattle.csp_model.specs.declared.check.FetchRule.{FetchRule}
use Rattle.csp_model.specs.declared.check.FetchRule.TheVariants as rule
use Rattle.csp_model.specs.declared.check.Group.{Group}
use Rattle.csp_model.specs.declared.policy.Directive.{Directive}
use Rattle.csp_model.specs.declared.policy.Policy.{Policy}
use Rattle.csp_model.specs.declared.source.Hash.{Hash}
use Rattle.csp_model.specs.declared.source.Keyword.TheVariants as keyword
use Rattle.csp_model.specs.declared.source.PathPart.TheVariants as path_part
use Rattle.csp_model.specs.declared.source.Source.{Source}
use Rattle.csp_model.specs.declared.source.Source.TheVariants as source
use Rattle.csp_model.specs.declared.url.Origin.{Origin}
use Rattle.csp_model.specs.declared.url.Scheme.{Scheme}
use Rattle.csp_facts.specs.declared.shape.Shape.TheVariants as shape
use Rattle.csp_formula.specs.Compiled.{nonces_sentence, integrity_sentence, fetch_sentence, group_sentence, said_by}
use Rattle.csp_formula.specs.Questions.{has_path, is_dynamic, list_question, answer_of_list, list_answer, matches_nothing, of_list, question_sentence, said_by_list, shape_asked}
use Rattle.csp_formula.specs.Sentences.{Sentence, Known, Either, any_of}
use Rattle.csp_formula.specs.Sources.{list_sentence, source_sentence}
use Rattle.csp_formula.specs.declared.question.ListQuestion.{ListQuestion}
use Rattle.csp_formula.specs.declared.question.ShapeQuestion.TheVariants as asks

-- Redirects

module _ (self : Origin) (r q : Bool) where
  source_same : (scheme : Scheme) (s : Source) → (has_path s ≡ true → r ≡ q)
      → source_sentence self (shape.Form (Some scheme) r) s ≡ source_sentence self (shape.Form (Some scheme) q) s
  source_same scheme source.Star same = refl
  source_same scheme (source.SchemeOnly part) same = refl
  source_same scheme (source.Hosted part host port path_part.Absent) same = refl
  source_same scheme (source.Hosted part host port (path_part.Exact pieces)) same = rw (same refl) refl
  source_same scheme (source.Hosted part host port (path_part.Prefix pieces)) same = rw (same refl) refl
  source_same scheme (source.Word word) same = refl
  source_same scheme (source.Nonce value) same = refl
  source_same scheme (source.Digest hash) same = refl
  source_same scheme (source.Other token) same = refl

  plain_same : (s : Source) → source_sentence self (shape.Form None r) s ≡ source_sentence self (shape.Form None q) s
  plain_same source.Star = refl
  plain_same (source.SchemeOnly part) = refl
  plain_same (source.Hosted part host port path) = refl
  plain_same (source.Word word) = refl
  plain_same (source.Nonce value) = refl
  plain_same (source.Digest hash) = refl
  plain_same (source.Other token) = refl

  plain_list : (sources : List Source) → list_sentence self (shape.Form None r) sources ≡ list_sentence self (shape.Form None q) sources
  plain_list [] = refl
  plain_list (s ∷ sources) = ap₂ Either (plain_same s) (plain_list sources)

  some_list : (scheme : Scheme) (sources : List Source) → (list_any has_path sources ≡ true → r ≡ q)
      → list_sentence self (shape.Form (Some scheme) r) sources ≡ list_sentence self (shape.Form (Some scheme) q) sources
  some_list scheme [] same = refl
  some_list scheme (s ∷ sources) same =
      ap₂ Either (source_same scheme s (λ t. same (or_left (has_path s) (list_any has_path sources) t)))
      (some_list scheme sources (λ t. same (or_right (has_path s) (list_any has_path sources) t)))

both : (a b : Bool) → b ≡ true → (a && b) ≡ a
both true b e = e
both false b e = refl

listed : (self : Origin) (scheme : Option Scheme) (redirected : Bool) (sources : List Source)
    → list_sentence self (shape.Form scheme (redirected && (is_some scheme && list_any has_path sources))) sources
    ≡ list_sentence self (shape.Form scheme redirected) sources
listed self None redirected sources = plain_list self (redirected && false) redirected sources
listed self (Some scheme) redirected sources =
    let has = list_any has_path sources in
    some_list self (redirected && has) redirected scheme sources (both redirected has)

-- What inserted a script

by_keyword : (b parser : Bool) (said : Sentence) → (if b then Known (not (parser && b)) else said) ≡ (if b then Known (not parser) else said)
by_keyword true parser said = ap (λ (p : Bool). Known (not p)) (both parser true refl)
by_keyword false parser said = refl

parsed : (by : FetchRule) (hashes : List Hash) (sources : List Source) (parser : Bool) (said : Sentence)
    → fetch_sentence by hashes sources (parser && is_dynamic by sources) said ≡ fetch_sentence by hashes sources parser said
parsed rule.Script hashes sources parser said =
    ap (λ (last : Sentence). any_of (nonces_sentence sources ∷ integrity_sentence hashes sources ∷ last ∷ []))
    (by_keyword (has_keyword keyword.StrictDynamic sources) parser said)
parsed rule.Style hashes sources parser said = refl
parsed rule.List hashes sources parser said = refl

same_answer : (self : Origin) (by : FetchRule) (hashes : List Hash) (scheme : Option Scheme) (redirected parser : Bool) (place : ℕ) (sources : List Source)
    → answer_of_list self hashes (list_question place by scheme redirected parser sources) sources
    ≡ fetch_sentence by hashes sources parser (list_sentence self (shape.Form scheme redirected) sources)
same_answer self by hashes scheme redirected parser place sources =
    ap (fetch_sentence by hashes sources (parser && is_dynamic by sources)) (listed self scheme redirected sources)
    ∙ parsed by hashes sources parser (list_sentence self (shape.Form scheme redirected) sources)

-- what is asked of the list that governs is what the policy says of the group
pub governed_answer : (policy : Policy) (group : Group) (hashes : List Hash) (scheme : Option Scheme) (redirected parser : Bool) (place : ℕ) (g : Governor) (q : ListQuestion)
    → q ≡ list_question place (fetch_rule group g.name) scheme redirected parser g.directive.sources
    → slice_get policy.directives place ≡ Some g.directive → governor policy (group_directive group) ≡ Some g
    → list_answer policy hashes q ≡ group_sentence policy group (shape.Form scheme redirected) parser hashes
governed_answer policy group hashes scheme redirected parser place g q is stands governs =
    let by = fetch_rule group g.name in
    let asked = list_question place by scheme redirected parser g.directive.sources in
    ap (list_answer policy hashes) is
    ∙ ap (λ (o : Option Directive). said_by_list o (answer_of_list policy.origin hashes asked)) stands
    ∙ same_answer policy.origin by hashes scheme redirected parser place g.directive.sources
    ∙ sym (ap (λ (o : Option Governor). said_by o (λ f. fetch_sentence (fetch_rule group f.name) hashes f.directive.sources parser
    (list_sentence policy.origin (shape.Form scheme redirected) f.directive.sources))) governs)

-- Empty lists

known_answer : (policy : Policy) (hashes : List Hash) (q : ListQuestion) (by : FetchRule) (sources : List Source) → q.rule ≡ by
    → list_answer policy hashes q ≡ answer_of_list policy.origin hashes q sources
    → question_sentence policy hashes (if matches_nothing by sources then asks.Known false else asks.Listed q) ≡ list_answer policy hashes q
known_answer policy hashes q rule.List [] e says =
    sym (says ∙ ap (λ (r : FetchRule). fetch_sentence r hashes [] q.parser_inserted (list_sentence policy.origin (shape_asked q) [])) e)
known_answer policy hashes q rule.List (s ∷ sources) e says = refl
known_answer policy hashes q rule.Style sources e says = refl
known_answer policy hashes q rule.Script sources e says = refl

-- what is asked of the list at its place is answered as by the list
pub normal_answer : (policy : Policy) (hashes : List Hash) (q : ListQuestion) (d : Directive) → slice_get policy.directives q.place ≡ Some d
    → question_sentence policy hashes (of_list q d.sources) ≡ list_answer policy hashes q
normal_answer policy hashes q d stands =
    known_answer policy hashes q q.rule d.sources refl (ap (λ (o : Option Directive). said_by_list o (answer_of_list policy.origin hashes q)) stands)
