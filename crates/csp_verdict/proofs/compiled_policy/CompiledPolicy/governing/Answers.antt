use Rattle.std.proofs.Common.{◌≡◌, ap, ◌∙◌}
use Rattle.std.specs.Option.{option_copied}
use Rattle.csp_model.specs.Governing.{governor}
use Rattle.csp_model.specs.declared.policy.Policy.{Policy}
use Rattle.csp_verdict.specs.Entries.{entry_of}
use Rattle.csp_verdict.proofs.Entries.{entry_at, nothing_governs, own_governs}
use Rattle.csp_verdict.proofs.compiled_policy.CompiledPolicy.governing.Goals as goal

pub returns-in_err-name : goal.returns-in_err-name
returns-in_err-name c =
    let p = c.self.inside.policy.now in
    let es = c.self.inside.entries.items in
    let x : c.index.result.now ≡ entry_of p c.args.effective = entry_at p es c.args.effective _ c.self.invariant.entries c.index.ensures in
    ap option_copied c.from_residual.ensures ∙ nothing_governs p c.args.effective _ x c.in_err-name.was
    ∙ ap (λ (q : Policy). governor q c.args.effective) c.self.view_is

pub returns : goal.returns
returns c =
    let p = c.self.inside.policy.now in
    let es = c.self.inside.entries.items in
    let x : c.index.result.now ≡ entry_of p c.args.effective = entry_at p es c.args.effective _ c.self.invariant.entries c.index.ensures in
    let y : c.index-2.result.now ≡ entry_of p c.in_ok-name.name = entry_at p es c.in_ok-name.name _ c.self.invariant.entries c.index-2.ensures in
    c.as_ref.ensures.value ∙ own_governs p c.args.effective c.in_ok-name.name _ _ x c.in_ok-name.was y
    ∙ ap (λ (q : Policy). governor q c.args.effective) c.self.view_is
