-- The declared types that this crate's files name, passed on from one place. Declares nothing.
pub use Rattle.csp_model.specs.declared.name.{Name.Name}
pub use Rattle.csp_model.specs.declared.policy.{Directive.Directive, Policy.Policy}
pub use Rattle.csp_model.specs.declared.source.{HostPart.HostPart, PathPart.PathPart, PortPart.PortPart}
pub use Rattle.csp_model.specs.declared.source.{Source.Source}
pub use Rattle.csp_model.specs.declared.url.{Host.Host, Origin.Origin, Url.Url}
pub use Rattle.csp_match.specs.declared.hosted_url.{HostedUrl.HostedUrl}
pub use Rattle.csp_match.specs.declared.host_key.{HostKey.HostKey}
pub use Rattle.csp_match.specs.declared.host_source.{PortKey.PortKey, Target.Target, SchemePort.SchemePort}
pub use Rattle.csp_match.specs.declared.path_key.{PathKind.PathKind}
