pub mod Schemes
pub mod Spelling
pub mod Types
