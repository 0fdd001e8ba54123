pub mod Entries
pub mod ItemGoverned
pub mod ItemsReported
pub mod ItemsSoFar
pub mod NamedDigests
