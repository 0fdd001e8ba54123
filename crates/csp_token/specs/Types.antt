-- The declared types that this crate's files name, passed on from one place. Declares nothing.
pub use Rattle.csp_model.specs.declared.check.{Digest.Digest, Digests.Digests}
pub use Rattle.csp_model.specs.declared.source.{Algorithm.Algorithm, Hash.Hash, Keyword.Keyword}
pub use Rattle.csp_model.specs.declared.source.{Source.Source}
pub use Rattle.csp_token.specs.declared.digest.{Algorithms.Algorithms}
pub use Rattle.csp_token.specs.declared.hash_sets.{DigestSets.DigestSets, PairSets.PairSets}
pub use Rattle.csp_token.specs.declared.keyword.{Keywords.Keywords}
