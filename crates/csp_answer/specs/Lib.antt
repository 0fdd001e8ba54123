pub mod Answers
pub mod Deciding
pub mod Naming
pub mod Asking
pub mod Growing
pub mod Policies
pub mod Tables
