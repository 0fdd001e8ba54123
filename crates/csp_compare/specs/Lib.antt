pub mod Answers
pub mod Comparisons
pub mod Differences
pub mod Drafts
