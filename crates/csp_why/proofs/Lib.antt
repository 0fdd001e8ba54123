pub mod Alone
pub mod Decided
pub mod Finding
pub mod Governed
pub mod Mended
pub mod MissingSource
pub mod NamedDigests
pub mod WrongPart
