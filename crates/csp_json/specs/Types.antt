-- The declared types that this crate's files name, passed on from one place. Declares nothing.
pub use Rattle.csp_json.specs.declared.error.{JsonError.JsonError}
pub use Rattle.csp_json.specs.declared.value.{Value.Value}
