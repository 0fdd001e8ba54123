pub mod Algorithms
pub mod Entries
pub mod Governed
pub mod IsCompiled
pub mod Listed
pub mod Reported
pub mod Stops
