use Rattle.std.proofs.Common.{take}
use Rattle.csp_facts.proofs.VocabularySeen.{Knows}
use Rattle.csp_formulas.proofs.HashSources.{hashes_in}
use Rattle.csp_formulas.proofs.tokens.hash_sources.Given as goal

abbrev pub invariant-loop-source : goal.invariant-loop-source
invariant-loop-source l = Knows l.hashes (hashes_in (take l.source-index l.sources))
