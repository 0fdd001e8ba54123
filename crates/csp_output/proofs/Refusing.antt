-- A policy that doesn't allow a check blocks it by the directive that governs.
use Rattle.std.proofs.Common.{◌≡◌, true, false, ◌&&◌, cond, List, Option, Some, None, is_none, refl, sym, ap, ◌∙◌, inl, inr, ◌⊎◌}
use Rattle.std.proofs.lemmas.Bool.{false≢true}
use Rattle.csp_model.specs.DecideNavigation.{is_report}
use Rattle.csp_model.specs.DecideVerdict.{allows}
use Rattle.csp_model.specs.Governing.{Governor, governor}
use Rattle.csp_model.specs.Reading.{first_of}
use Rattle.csp_model.specs.Verdict.{effective_name}
use Rattle.csp_model.specs.declared.check.Check.{Check}
use Rattle.csp_model.specs.declared.policy.Policy.{Policy}
use Rattle.csp_why.specs.Allowances.{allowances}
use Rattle.csp_why.specs.Displacement.{displacement}
use Rattle.csp_why.specs.Reasons.{acting, asks_sandbox, governed_reason, reason, reason_by, is_allowing}
use Rattle.csp_why.specs.declared.reason.Allowance.{Allowance}
use Rattle.csp_why.specs.declared.reason.Near.{Near}
use Rattle.csp_why.specs.declared.reason.Reason.TheVariants.{Blocks}
use Rattle.csp_why.specs.declared.reason.Obstacle.{Obstacle}
use Rattle.csp_why.proofs.Decided.{reason_decided}

blocks_by : (p : Policy) (asked : Check) (displaced : Option Obstacle) (g : Governor) (o : Option Allowance)
    → is_allowing (governed_reason p asked displaced g o) ≡ false
    → (near : List Near) × (governed_reason p asked displaced g o ≡ Blocks g.name near)
blocks_by p asked displaced g None refused = (_, refl)
blocks_by p asked displaced g (Some a) refused = absurd (false≢true (sym refused))

blocks_where : (p : Policy) (asked : Check) (g : Governor) (o : Option Governor) → is_allowing (reason_by p asked o) ≡ false
    → (o ≡ None) ⊎ (o ≡ Some g) → (near : List Near) × (reason_by p asked o ≡ Blocks g.name near)
blocks_where p asked g o refused (inl none) = absurd (false≢true (sym refused ∙ ap (λ x. is_allowing (reason_by p asked x)) none))
blocks_where p asked g o refused (inr some) =
    let displaced = displacement asked g.name g.directive.sources in
    let made = blocks_by p asked displaced g (first_of (allowances p.origin asked (is_none displaced) g))
    (ap (λ x. is_allowing (reason_by p asked x)) (sym some) ∙ refused) in
    (made.0, ap (reason_by p asked) some ∙ made.1)

acting_cases : (p : Policy) (asked : Check) (g : Governor) → governor p (effective_name asked) ≡ Some g
    → (acting p asked ≡ None) ⊎ (acting p asked ≡ Some g)
acting_cases p asked g some =
    elim (asks_sandbox asked && is_report p.disposition) as (λ b.
    (cond b None (governor p (effective_name asked)) ≡ None) ⊎ (cond b None (governor p (effective_name asked)) ≡ Some g)) [
      | true ↦ inl refl
      | false ↦ inr some
    ]

pub refused_reason : (p : Policy) (asked : Check) (g : Governor) → governor p (effective_name asked) ≡ Some g
    → allows p asked ≡ false → (near : List Near) × (reason p asked ≡ Blocks g.name near)
refused_reason p asked g some refused =
    blocks_where p asked g (acting p asked) (reason_decided p asked ∙ refused) (acting_cases p asked g some)
