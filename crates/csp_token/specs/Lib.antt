pub mod Algorithms
pub mod Digests
pub mod Index
pub mod Integrity
pub mod Keywords
pub mod Types
