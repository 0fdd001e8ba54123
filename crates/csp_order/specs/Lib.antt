pub mod Answers
pub mod Chains
pub mod Pairs
pub mod Relations
pub mod Trials
pub mod Ways
pub mod Within
