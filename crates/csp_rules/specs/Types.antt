-- The declared types that this crate's files name, passed on from one place. Declares nothing.
pub use Rattle.csp_model.specs.declared.check.{Capability.Capability, Digests.Digests, Group.Group}
pub use Rattle.csp_model.specs.declared.check.{InlineKind.InlineKind}
pub use Rattle.csp_model.specs.declared.policy.{Policy.Policy}
pub use Rattle.csp_model.specs.declared.source.{Hash.Hash, HostPart.HostPart, PathPart.PathPart}
pub use Rattle.csp_model.specs.declared.source.{PortPart.PortPart, Source.Source}
pub use Rattle.csp_model.specs.declared.url.{Host.Host, Origin.Origin, Scheme.Scheme, Url.Url}
