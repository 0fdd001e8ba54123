use Rattle.std.proofs.Common.{refl}
use Rattle.csp_compare.proofs.Sharing.{made_same}
use Rattle.csp_compare.proofs.draft.Draft.share.Goals as goal

pub invariant_of-self-2 : goal.invariant_of-self-2
invariant_of-self-2 c = made_same c.self.inside _ c.args.tree c.push.new.self c.self.invariant refl c.in_ok-push.ensures.ok
