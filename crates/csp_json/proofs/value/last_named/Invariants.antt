use Rattle.std.proofs.Common.{◌≡◌, ◌≤◌, length, take}
use Rattle.serde_json.specs.Data.{no_members}
use Rattle.serde_json.specs.Find.{get_member}
use Rattle.csp_json.specs.View.{members_view}
use Rattle.csp_json.proofs.value.last_named.Given as goal

-- no member from here on has the name
abbrev pub invariant-loop-left : goal.invariant-loop-left
invariant-loop-left l =
    (get_member l.name (members_view l.members.items no_members)
    ≡ get_member l.name (members_view (take l.left l.members.items) no_members))
    × (l.left ≤ length l.members.items)

abbrev pub decreases-loop-left : goal.decreases-loop-left
decreases-loop-left l = l.left
