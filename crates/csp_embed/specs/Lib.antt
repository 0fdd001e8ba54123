pub mod AllowFrom
pub mod Decisions
