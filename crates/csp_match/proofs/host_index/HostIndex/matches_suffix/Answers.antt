use Rattle.std.proofs.Common.{◌≡◌, ◌∙◌, sym, ◌+◌, ◌-◌, length, take, drop, take_all, arith, length-drop}
use Rattle.csp_match.proofs.SuffixLaws.{suffix_found, suffix_missing, short_parts}
use Rattle.csp_match.proofs.host_index.HostIndex.matches_suffix.Goals as goal

pub returns-then-matches_under : goal.returns-then-matches_under
returns-then-matches_under c =
    let domain = c.args.domain.now in
    let at = c.loop-at.at in
    let tail : take (length domain - (at + 1)) (drop (at + 1) domain) ≡ drop (at + 1) domain = take_all _ _ (omega (arith, length-drop (at + 1) domain)) in
    let some = rw (c.under.ensures.host, tail) at (sym c.matches_under.ensures ∙ c.if-matches_under.true) in
    sym (suffix_found domain at c.args.asked.now c.args.self.now (omega arith) c.if-domain-at-eq46.true some)

pub returns : goal.returns
returns c =
    let targets = c.self.inside.targets in
    let longest = c.self.inside.longest_suffix in
    let short = rw c.self.view_is at (short_parts longest targets c.self.invariant.entries c.self.invariant.short) in
    sym (suffix_missing c.args.domain.now longest c.saturating_sub-first.result c.args.asked.now c.args.self.now short (omega arith)
    (λ k d low high is. c.loop-at.invariant k d low (omega arith) is))
