-- The declared types that this crate's files name, passed on from one place. Declares nothing.
pub use Rattle.csp_model.specs.declared.url.{Host.Host, Origin.Origin, Scheme.Scheme, Url.Url}
pub use Rattle.csp_url.specs.declared.error.{OriginError.OriginError, Part.Part, PartsError.PartsError}
pub use Rattle.csp_url.specs.declared.error.{UrlError.UrlError}
pub use Rattle.csp_url.specs.declared.strip.{ShownUrl.ShownUrl}
