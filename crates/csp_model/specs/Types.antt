-- The declared types that this crate's files name, passed on from one place. Declares nothing.
pub use Rattle.csp_model.specs.declared.check.{Capability.Capability, Check.Check, CheckPart.CheckPart}
pub use Rattle.csp_model.specs.declared.check.{Digest.Digest, Digests.Digests, FetchRule.FetchRule}
pub use Rattle.csp_model.specs.declared.check.{Group.Group, InlineKind.InlineKind}
pub use Rattle.csp_model.specs.declared.destination.{Destination.Destination}
pub use Rattle.csp_model.specs.declared.memory.{Memory.Memory}
pub use Rattle.csp_model.specs.declared.name.{Name.Name}
pub use Rattle.csp_model.specs.declared.policy.{Directive.Directive, Disposition.Disposition, Policy.Policy}
pub use Rattle.csp_model.specs.declared.policy.{PolicyList.PolicyList}
pub use Rattle.csp_model.specs.declared.source.{Algorithm.Algorithm, Hash.Hash, HostPart.HostPart}
pub use Rattle.csp_model.specs.declared.source.{Keyword.Keyword, PathPart.PathPart, PortPart.PortPart}
pub use Rattle.csp_model.specs.declared.source.{Source.Source}
pub use Rattle.csp_model.specs.declared.url.{Host.Host, Origin.Origin, Scheme.Scheme, Url.Url}
pub use Rattle.csp_model.specs.declared.verdict.{Described.Described, Item.Item, Verdict.Verdict}
pub use Rattle.csp_model.specs.declared.verdict.{Violation.Violation}
