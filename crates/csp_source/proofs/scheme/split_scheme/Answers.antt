use Rattle.std.proofs.Common.{◌≡◌, ◌∙◌, ◌&&◌, sym, ap, true, false, take, drop, nat_eq}
use Rattle.std.specs.Prelude.{codes}
use Rattle.std.specs.List.{starts_with}
use Rattle.csp_model.specs.Grammar.{is_scheme}
use Rattle.csp_source.proofs.HostLaws.{and_false}
use Rattle.csp_source.proofs.SchemeEnds.{letters_are, after_is, scheme_there, no_colon, no_scheme}
use Rattle.csp_source.proofs.scheme.split_scheme.Goals.{else-starts_with-via-then-starts_with+else-is_scheme, else-starts_with-via-else-starts_with}
use Rattle.csp_source.proofs.scheme.split_scheme.Goals as goal

pub returns-in_default-clause-parts : goal.returns-in_default-clause-parts
returns-in_default-clause-parts c = no_colon c.args.token.now c.in_default.ensures

pub returns-then-is_scheme-clause-parts : goal.returns-then-is_scheme-clause-parts
returns-then-is_scheme-clause-parts c =
    let at = c.in-Some.at in
    let token = c.args.token.now in
    let front = c.split_at.ensures.front in
    let back = c.split_at.ensures.back in
    let ends : starts_with nat_eq (drop at token) (codes "://") ≡ true = ap (λ t. starts_with nat_eq t (codes "://")) (sym back) ∙ sym c.starts_with.ensures.value ∙ c.if-starts_with.true in
    let good : is_scheme (take at token) ≡ true = ap is_scheme (sym front) ∙ sym c.is_scheme.ensures ∙ c.if-is_scheme.true in
    (scheme_there at token good ends, front ∙ sym (letters_are at token good ends), c.split_at-then-is_scheme.ensures.back ∙ ap (drop 3) (back ∙ sym (after_is at token good ends)))

pub returns-else-starts_with-clause-parts : goal.returns-else-starts_with-clause-parts
returns-else-starts_with-clause-parts c =
    let at = c.in-Some.at in
    let token = c.args.token.now in
    let front = c.split_at.ensures.front in
    let back = c.split_at.ensures.back in
    let starts : starts_with nat_eq (drop at token) (codes "://") ≡ c.starts_with.result = ap (λ t. starts_with nat_eq t (codes "://")) (sym back) ∙ sym c.starts_with.ensures.value in
    no_scheme token at c.in-Some.ensures (elim c.else-starts_with.branch [
      | else-starts_with-via-then-starts_with+else-is_scheme w ↦
          let good : is_scheme (take at token) ≡ false = ap is_scheme (sym front) ∙ sym w.is_scheme.ensures ∙ w.if-is_scheme.false in
          ap (λ b. starts_with nat_eq (drop at token) (codes "://") && b) good ∙ and_false (starts_with nat_eq (drop at token) (codes "://"))
      | else-starts_with-via-else-starts_with w ↦ ap (λ b. b && is_scheme (take at token)) (starts ∙ w.if-starts_with.false)
    ])
