pub mod Spelling
pub mod WellFormed
pub mod Texts
pub mod Reading
pub mod Places
pub mod Pairs
pub mod Accepts
