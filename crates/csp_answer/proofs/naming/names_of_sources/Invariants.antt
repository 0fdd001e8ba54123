use Rattle.std.proofs.Common.{take}
use Rattle.std.specs.List.{AllZip}
use Rattle.csp_answer.specs.Naming.{IsSourceNamed}
use Rattle.csp_answer.proofs.naming.names_of_sources.Given as goal

abbrev pub invariant-loop-source : goal.invariant-loop-source
invariant-loop-source l = AllZip (IsSourceNamed l.names l.origin) (take l.source-index l.sources) l.named
