pub mod ListedDecided
pub mod Redirected
