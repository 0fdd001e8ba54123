use Rattle.std.proofs.Common.{arith, ◌≡◌, ◌∙◌, sym, ap, refl, Bool, true, false, not, cond, ◌||◌}
use Rattle.std.proofs.lemmas.Grind.{common_steps}
use Rattle.csp_model.specs.Ascii.{words}
use Rattle.csp_model.specs.Policies.{is_for_meta}
use Rattle.csp_policy.specs.Types.{Directive, CaselessName, Standing}
use Rattle.csp_policy.specs.Room.{directive_with}
use Rattle.csp_policy.specs.Standings.{standing_said}
use Rattle.csp_policy.specs.declared.fate.Fate.TheVariants.{Empty, Dropped}
use Rattle.csp_policy.specs.declared.fate.Reason.TheVariants.{NotAscii}
use Rattle.csp_policy.proofs.Fated.{chosen, fate_none, fate_seen, knows_none, knows_some}
use Rattle.csp_policy.proofs.directive.stand.Goals as goal

said_so : (ascii : Bool) → standing_said (cond ascii Standing.Empty (Standing.Dropped NotAscii)) ≡ cond ascii Empty (Dropped NotAscii)
said_so true = refl
said_so false = refl

pub returns-in_default-clause-fate : goal.returns-in_default-clause-fate
returns-in_default-clause-fate c before knows =
    ap standing_said c.without_directive.ensures ∙ said_so _ ∙ fate_none c.args.meta before c.args.piece.now c.in_default.ensures.directive

pub returns-in_default-clause-seen : goal.returns-in_default-clause-seen
returns-in_default-clause-seen c before knows =
    knows_none c.args.seen.now before c.args.piece.now c.in_default.ensures.directive knows

pub returns-then-not-is_first-clause-fate : goal.returns-then-not-is_first-clause-fate
returns-then-not-is_first-clause-fate c before knows =
    let d : Directive = directive_with c.in-Some.name.now (words c.in-Some.text.now) in
    let key : CaselessName = record { bytes = c.in-Some.name } in
    let later = c.if-not-is_first.true in
    let seen : not c.in_ok-is_first.is_first ≡ true = grind (arith, common_steps, later) in
    sym (fate_seen c.args.seen.now key c.args.meta before c.args.piece.now d c.in_ok-is_first.is_first (not c.args.meta || is_for_meta d)
    c.in-Some.ensures.directive refl c.in_ok-is_first.ensures.added refl knows
    ∙ ap (λ b. chosen b (not c.args.meta || is_for_meta d) d) seen)

pub returns-then-not-is_first-clause-seen : goal.returns-then-not-is_first-clause-seen
returns-then-not-is_first-clause-seen c before knows =
    let d : Directive = directive_with c.in-Some.name.now (words c.in-Some.text.now) in
    let key : CaselessName = record { bytes = c.in-Some.name } in
    knows_some c.args.seen.now c.insert.new.self key before c.args.piece.now d c.in_ok-is_first.is_first c.in-Some.ensures.directive refl
    c.in_ok-is_first.ensures.updates.0 c.in_ok-is_first.ensures.added knows

pub returns-then-not-is_kept-clause-fate : goal.returns-then-not-is_kept-clause-fate
returns-then-not-is_kept-clause-fate c before knows =
    let d : Directive = directive_with c.in-Some.name.now (words c.in-Some.text.now) in
    let key : CaselessName = record { bytes = c.in-Some.name } in
    let first = c.if-not-is_first.false in
    let new : not c.in_ok-is_first.is_first ≡ false = grind (arith, common_steps, first) in
    let kept = c.is_kept.ensures in
    let lost = c.if-not-is_kept.true in
    let stays : (not c.args.meta || is_for_meta d) ≡ false = grind (arith, common_steps, kept, lost) in
    sym (fate_seen c.args.seen.now key c.args.meta before c.args.piece.now d c.in_ok-is_first.is_first false
    c.in-Some.ensures.directive refl c.in_ok-is_first.ensures.added stays knows
    ∙ ap (λ b. chosen b false d) new)

pub returns-then-not-is_kept-clause-seen : goal.returns-then-not-is_kept-clause-seen
returns-then-not-is_kept-clause-seen c before knows =
    let d : Directive = directive_with c.in-Some.name.now (words c.in-Some.text.now) in
    let key : CaselessName = record { bytes = c.in-Some.name } in
    knows_some c.args.seen.now c.insert.new.self key before c.args.piece.now d c.in_ok-is_first.is_first c.in-Some.ensures.directive refl
    c.in_ok-is_first.ensures.updates.0 c.in_ok-is_first.ensures.added knows

pub returns-clause-fate : goal.returns-clause-fate
returns-clause-fate c before knows =
    let d : Directive = directive_with c.in-Some.name.now (words c.in-Some.text.now) in
    let key : CaselessName = record { bytes = c.in-Some.name } in
    let first = c.if-not-is_first.false in
    let new : not c.in_ok-is_first.is_first ≡ false = grind (arith, common_steps, first) in
    let kept = c.is_kept.ensures in
    let told = c.if-not-is_kept.false in
    let stays : (not c.args.meta || is_for_meta d) ≡ true = grind (arith, common_steps, kept, told) in
    sym (fate_seen c.args.seen.now key c.args.meta before c.args.piece.now d c.in_ok-is_first.is_first true
    c.in-Some.ensures.directive refl c.in_ok-is_first.ensures.added stays knows
    ∙ ap (λ b. chosen b true d) new)

pub returns-clause-seen : goal.returns-clause-seen
returns-clause-seen c before knows =
    let d : Directive = directive_with c.in-Some.name.now (words c.in-Some.text.now) in
    let key : CaselessName = record { bytes = c.in-Some.name } in
    knows_some c.args.seen.now c.insert.new.self key before c.args.piece.now d c.in_ok-is_first.is_first c.in-Some.ensures.directive refl
    c.in_ok-is_first.ensures.updates.0 c.in_ok-is_first.ensures.added knows
