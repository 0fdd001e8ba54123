pub mod Answers
pub mod Questions
pub mod Asking
pub mod Leaves
pub mod Branches
