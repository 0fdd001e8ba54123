use Rattle.std.proofs.Common.{refl, subst, sym, arith, List}
use Rattle.csp_proof.specs.declared.proof.Tree.{Tree}
use Rattle.csp_compare.specs.Drafts.{HasNone}
use Rattle.csp_compare.proofs.Sharing.{made_nodes, made_more}
use Rattle.csp_compare.proofs.draft.Draft.put.Goals as goal

pub invariant_of-self : goal.invariant_of-self
invariant_of-self c = made_more c.self.inside c.self.inside.trees c.note.new.by_count c.self.invariant refl c.note.ensures.kept

pub invariant_of-self-in_err-push : goal.invariant_of-self-in_err-push
invariant_of-self-in_err-push c = made_more c.self.inside c.push.new.self c.note.new.by_count c.self.invariant c.in_err-push.ensures.err c.note.ensures.kept

pub invariant_of-self-2 : goal.invariant_of-self-2
invariant_of-self-2 c =
    made_nodes c.self.inside _ c.args.nodes c.len-count.result c.len-number.result c.push.new.self c.note.new.by_count c.self.invariant refl c.in_ok-push.ensures.ok
    (subst (λ (ts : List Tree). HasNone ts c.args.nodes) (sym c.self.view_is) c.requires.none) c.len-count.ensures (omega arith) c.len-number.ensures c.note.ensures.kept c.in_ok-note.ensures.noted
