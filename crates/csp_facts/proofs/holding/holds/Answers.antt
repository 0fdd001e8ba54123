use Rattle.std.proofs.Common.{rules, ◌≡◌, [], sym, ◌∙◌}
use Rattle.std.proofs.lemmas.Bool.Decides.{Decides-at}
use Rattle.csp_model.specs.Parts.{checked_url}
use Rattle.csp_model.specs.declared.check.Check.TheVariants as check
use Rattle.csp_facts.specs.Holding.{on_part, holds}
use Rattle.csp_facts.proofs.HoldingDecided.{holds_by_url, holds_decides}
use Rattle.csp_facts.proofs.holding.holds.Goals as goal

pub returns-in-IntegrityOutside-clause-fact : goal.returns-in-IntegrityOutside-clause-fact
returns-in-IntegrityOutside-clause-fact c =
    let value : c.is_some_and-in-IntegrityOutside.result ≡ holds c.args.vocabulary.now.hashes c.args.check.now c.args.atom.now = search rules in
    Decides-at c.is_some_and-in-IntegrityOutside.result _ value (holds_decides c.args.vocabulary.now.hashes c.args.check.now c.args.atom.now)

pub returns-in_default : goal.returns-in_default
returns-in_default c =
    let hashes = c.args.vocabulary.now.hashes in
    let asked = c.args.check.now in
    let atom = c.args.atom.now in
    let of_url : c.is_some_and-in_default.result ≡ on_part (checked_url asked) (λ there. holds [] (check.Base there) atom) = search rules in
    let value = of_url ∙ sym (holds_by_url hashes asked atom c.in_default.not-NonceIs c.in_default.not-IntegrityHas c.in_default.not-IntegrityOutside c.in_default.not-DigestIs) in
    record { value = value; fact = Decides-at c.is_some_and-in_default.result _ value (holds_decides hashes asked atom) }
