use Rattle.std.proofs.Common.{◌∙◌, ap, subst, List, OnOk}
use Rattle.csp_policy.specs.Types.{Policy, Delivery}
use Rattle.csp_policy.specs.Reads.{ReadsOn}
use Rattle.csp_policy.proofs.Delivering.{by_delivery, policies_as}
use Rattle.csp_policy.proofs.reader.Reader.add_header.Goals as goal

pub returns-in-InHeader : goal.returns-in-InHeader
returns-in-InHeader c =
    subst (λ (ps : List Policy). OnOk c.add_policies.result (ReadsOn c.args.self.now c.add_policies.new.self ps))
    (ap (λ (d : Delivery). policies_as c.args.origin.now d c.args.value.now) c.in-InHeader.ensures ∙ by_delivery c.args.origin.now c.args.name.now c.args.value.now)
    c.add_policies.ensures
