-- The test of two questions decides whether they are equal.
use Rattle.std.proofs.Common.{◌≡◌, Bool, true, false, Option, Some, None, ap, refl}
use Rattle.std.specs.Bool.{Decides}
use Rattle.std.specs.Option.{option_eq}
use Rattle.std.proofs.lemmas.Bool.Decides.{Decides-and, Decides-eqb}
use mathlib.Core.Bool.{beq}
use denote.Enum.Bare.{sameb, same_true, true_same}
use Rattle.csp_model.specs.contracts.check.FetchRule.{the_type as rules_of}
use Rattle.csp_model.specs.contracts.check.InlineKind.{the_type as inline_kinds}
use Rattle.csp_model.specs.contracts.url.Scheme.{the_type as schemes}
use Rattle.csp_model.specs.declared.check.FetchRule.{FetchRule}
use Rattle.csp_model.specs.declared.check.InlineKind.{InlineKind}
use Rattle.csp_model.specs.declared.url.Scheme.{Scheme}
use Rattle.csp_formula.specs.contracts.question.ListQuestionPartialEq.TheImpl as list_questions
use Rattle.csp_formula.specs.contracts.question.ShapeQuestionPartialEq.TheImpl as questions
use Rattle.csp_formula.specs.declared.question.ListQuestion.{ListQuestion}
use Rattle.csp_formula.specs.declared.question.ShapeQuestion.{ShapeQuestion}
use Rattle.csp_formula.specs.declared.question.ShapeQuestion.TheVariants as asks

rule_decides : (a b : FetchRule) → Decides (sameb rules_of a b) (a ≡ b)
rule_decides a b = (same_true rules_of tt a b, true_same rules_of a b)

inline_decides : (a b : InlineKind) → Decides (sameb inline_kinds a b) (a ≡ b)
inline_decides a b = (same_true inline_kinds tt a b, true_same inline_kinds a b)

scheme_decides : (a b : Scheme) → Decides (sameb schemes a b) (a ≡ b)
scheme_decides a b = (same_true schemes tt a b, true_same schemes a b)

maybe_decides : (a b : Option Scheme) → Decides (option_eq (sameb schemes) a b) (a ≡ b)
maybe_decides None None = (λ e. refl, λ is. refl)
maybe_decides (Some a) (Some b) = let d = scheme_decides a b in (λ e. ap Some (d.0 e), λ is. d.1 (cc is))
maybe_decides a b = (λ e. cc e, λ is. cc is)

flag_decides : (a b : Bool) → Decides (beq a b) (a ≡ b)
flag_decides true true = (λ e. refl, λ is. refl)
flag_decides false false = (λ e. refl, λ is. refl)
flag_decides a b = (λ e. cc e, λ is. cc is)

from_parts : (a b : ListQuestion) → a.place ≡ b.place → a.rule ≡ b.rule → a.scheme ≡ b.scheme → a.redirected ≡ b.redirected
    → a.is_ancestor ≡ b.is_ancestor → a.parser_inserted ≡ b.parser_inserted → a ≡ b
from_parts a b e f g h i j = rw (e, f, g, h, i, j) refl

list_decides : (a b : ListQuestion) → Decides ((list_questions.ghosts).eq a b) (a ≡ b)
list_decides a b =
    let flags = Decides-and _ _ (flag_decides a.redirected b.redirected) (Decides-and _ _ (flag_decides a.is_ancestor b.is_ancestor) (flag_decides a.parser_inserted b.parser_inserted)) in
    let all = Decides-and _ _ (Decides-eqb a.place b.place) (Decides-and _ _ (rule_decides a.rule b.rule) (Decides-and _ _ (maybe_decides a.scheme b.scheme) flags)) in (
      λ e. let h = all.0 e in from_parts a b h.0 h.1.0 h.1.1.0 h.1.1.1.0 h.1.1.1.1.0 h.1.1.1.1.1,
      λ is. all.1 (ap (λ q. q.place) is, (ap (λ q. q.rule) is, (ap (λ q. q.scheme) is, (ap (λ q. q.redirected) is, (ap (λ q. q.is_ancestor) is, ap (λ q. q.parser_inserted) is))))),
    )

pub same_decides : (a b : ShapeQuestion) → Decides ((questions.ghosts).eq a b) (a ≡ b)
same_decides (asks.Known b) (asks.Known c) = let d = flag_decides b c in (λ e. ap asks.Known (d.0 e), λ is. d.1 (cc is))
same_decides (asks.Listed q) (asks.Listed r) = let d = list_decides q r in (λ e. ap asks.Listed (d.0 e), λ is. d.1 (cc is))
same_decides (asks.Inline n k) (asks.Inline m l) =
    let d = Decides-and _ _ (Decides-eqb n m) (inline_decides k l) in
    (λ e. let h = d.0 e in rw (h.0, h.1) refl, λ is. d.1 (cc is, cc is))
same_decides a b = (λ e. cc e, λ is. cc is)
