use Rattle.std.proofs.Common.{◌≡◌, ◌∙◌, sym, ap, subst, ◌≤◌, All, List, map}
use Rattle.std.specs.List.{list_any}
use Rattle.csp_match.specs.Types.{HostKey, SchemePort}
use Rattle.csp_match.specs.Entries.{entry_parts, Entry, IsEntry}
use Rattle.csp_match.specs.Keys.{IsHostKey, key_length}
use Rattle.csp_match.proofs.AnyLaws.{all_given}
use Rattle.csp_match.proofs.BuildLaws.{HasSame, pathless_eq, same_parts, same_pathless, pathless_hosts}
use Rattle.csp_match.proofs.host_index.HostIndex.new.Goals as goal

pub invariant_of-result : goal.invariant_of-result
invariant_of-result c =
    let entries = c.args.entries.items in
    let targets = c.new-targets.result in
    let longest = c.longest_suffix-longest_suffix.result in
    let given = c.new-targets.ensures.given in
    let short = rw c.as_slice.ensures.value at c.longest_suffix-longest_suffix.ensures in
    let ways = c.without_repeats-ways.result.items in
    let made = rw c.as_slice-2.ensures.pairs at c.in_ok-host_ways.ensures in
    let all : HasSame pathless_eq c.in_ok-host_ways.field-0.items ways = (c.without_repeats-ways.ensures.given, c.without_repeats-ways.ensures.kept) in
    let few = rw made at all in
    let bare_each : HasSame pathless_eq ways c.new-2.result = (c.new-2.ensures.given, c.new-2.ensures.kept) in
    let each : All IsEntry targets = all_given IsEntry entries targets given c.requires in
    let is_key = λ (e : HostKey × SchemePort). IsHostKey e.0 in
    let is_short = λ (e : Entry). key_length e.0 ≤ longest in
    let kept : targets ≡ c.in_ok-new.field-0 = sym c.in_ok-new.ensures in
    record {
      entries = subst (All IsEntry) kept each;
      hosts = all_given is_key ways c.new-2.result bare_each.0 (all_given is_key _ ways few.0 (pathless_hosts targets each));
      short = subst (All is_short) kept (all_given is_short entries targets given short);
      pathless = λ p. same_pathless targets ways c.new-2.result few bare_each p ∙ ap (λ (ts : List Entry). list_any (λ s. p s.host s.scheme s.port) (map entry_parts ts)) kept;
    }

pub returns : goal.returns
returns c p =
    ap (λ (ts : List Entry). list_any p (map entry_parts ts)) c.in_ok-new.ensures
    ∙ same_parts c.args.entries.items c.new-targets.result (c.new-targets.ensures.given, c.new-targets.ensures.kept) p
