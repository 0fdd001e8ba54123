pub mod Listed
pub mod Types
