-- The declared types that this crate's files name, passed on from one place. Declares nothing.
pub use Rattle.csp_model.specs.declared.name.{Name.Name}
pub use Rattle.csp_model.specs.declared.policy.{Directive.Directive, Disposition.Disposition, Policy.Policy}
pub use Rattle.csp_model.specs.declared.policy.{PolicyList.PolicyList}
pub use Rattle.csp_model.specs.declared.source.{Source.Source}
pub use Rattle.csp_model.specs.declared.url.{Origin.Origin}
pub use Rattle.csp_policy.specs.declared.caseless_name.{CaselessName.CaselessName}
pub use Rattle.csp_policy.specs.declared.directive.{Standing.Standing}
pub use Rattle.csp_policy.specs.declared.error.{BlockError.BlockError}
pub use Rattle.csp_policy.specs.declared.fate.{Fate.Fate, Piece.Piece, Reason.Reason}
pub use Rattle.csp_policy.specs.declared.lines.{HeaderLine.HeaderLine}
pub use Rattle.csp_policy.specs.declared.pieces.{Pieces.Pieces}
pub use Rattle.csp_policy.specs.declared.reader.{Reader.Reader}
pub use Rattle.csp_policy.specs.declared.serialized.{Delivery.Delivery, SerializedPolicy.SerializedPolicy}
