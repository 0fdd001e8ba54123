use Rattle.std.proofs.Common.{◌≡◌, ◌*◌, length}
use Rattle.csp_compare.proofs.Ending.{pairs_of}
use Rattle.csp_compare.specs.Drafts.{Shows}
use Rattle.csp_compare.specs.Comparisons.{AreKnown, lists_of}
use Rattle.csp_compare.proofs.comparison.Comparison.answer.Given as goal

abbrev pub invariant-loop-number : goal.invariant-loop-number
invariant-loop-number l =
    (l.walker ≡ l.fn.walker) × Shows (lists_of l.self) (pairs_of l.self.policies.items l.number) l.draft
    × AreKnown l.self l.draft l.known × (length l.draft ≡ l.number * length l.self.policies.items)
