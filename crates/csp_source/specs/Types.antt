-- The declared types that this crate's files name, passed on from one place. Declares nothing.
pub use Rattle.csp_model.specs.declared.source.{Algorithm.Algorithm, Hash.Hash, HostPart.HostPart}
pub use Rattle.csp_model.specs.declared.source.{Keyword.Keyword, PathPart.PathPart, PortPart.PortPart}
pub use Rattle.csp_model.specs.declared.source.{Source.Source}
