use Rattle.std.proofs.Common.{sym, subst}
use Rattle.csp_search.specs.Asking.{StandsOn}
use Rattle.csp_search.specs.Questions.{asked_atoms}
use Rattle.csp_search.proofs.Trees.{root}
use Rattle.csp_search.proofs.probing.probe_at.Goals.{in-Some, in_default}
use Rattle.csp_search.proofs.probing.probe_at.Goals as goal

pub take_open-requires : goal.take_open-requires
take_open-requires c = record {
  asked = c.requires.asked;
  branch = rw c.requires.root (root c.args.walker.now.atoms (asked_atoms c.args.asked.question));
  room = c.requires.room;
}

pub refuse_second-requires : goal.refuse_second-requires
refuse_second-requires c =
    let asked = c.args.asked in
    elim c.match-port.branch [
      | in-Some w ↦ subst (StandsOn asked) (sym w.walker-is) w.take_open.ensures.stands
      | in_default w ↦ subst (StandsOn asked) (sym w.walker-is) (record {
        asked = c.requires.asked;
        branch = rw c.requires.root (root c.args.walker.now.atoms (asked_atoms asked.question));
        room = c.requires.room;
      })
    ]
