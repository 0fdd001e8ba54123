pub mod Asking
pub mod Candidates
pub mod Governed
pub mod Thinnings
pub mod Tidied
