use Rattle.std.proofs.Common.{rules, arith, ◌≡◌, length, string_bytes, false}
use Rattle.std.specs.String.{string_len}
use Rattle.std.proofs.lemmas.Bool.Decides.{same_from_decides, Decides-at}
use Rattle.csp_model.proofs.Deciding.{no}
use Rattle.csp_model.proofs.EndLaws.{beyond_Decides}
use Rattle.csp_model.proofs.PathFronts.{not_beyond_by_views}
use Rattle.csp_model.proofs.path.Path.goes_beyond.Goals as goal

pub returns-else-len-clause-beyond : goal.returns-else-len-clause-beyond
returns-else-len-clause-beyond c =
    let own : string_len c.self.inside.text ≡ length (string_bytes c.self.inside.text) = search rules in
    let other : string_len c.front.inside.text ≡ length (string_bytes c.front.inside.text) = search rules in
    rw (← c.self.view_is, ← c.front.view_is)
    (Decides-at _ false (search rules) (no (not_beyond_by_views _ _ c.self.invariant c.front.invariant (omega arith))))

pub returns-else-len-clause-value : goal.returns-else-len-clause-value
returns-else-len-clause-value c = same_from_decides _ _ (returns-else-len-clause-beyond c) (beyond_Decides c.args.self.now c.args.front.now)
