use Rattle.std.proofs.Common.{◌≡◌, map, take, All}
use Rattle.csp_match.specs.Entries.{entry_parts, IsEntry}
use Rattle.csp_match.specs.Split.{host_sources}
use Rattle.csp_match.proofs.index.entries.Given as goal

abbrev pub invariant-loop-source : goal.invariant-loop-source
invariant-loop-source l = record {
  parts : map entry_parts l.made.items ≡ host_sources (take l.source-index l.sources);
  each : All IsEntry l.made.items;
}
