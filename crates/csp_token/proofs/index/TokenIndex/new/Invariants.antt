use Rattle.std.proofs.Common.{take}
use Rattle.csp_token.specs.Index.{IsIndexOf}
use Rattle.csp_token.proofs.index.TokenIndex.new.Given as goal

-- the index is that of the sources so far
abbrev pub invariant-loop-source : goal.invariant-loop-source
invariant-loop-source l = IsIndexOf (take l.source-index l.source-items) l.keywords l.nonces l.pairs l.digests
