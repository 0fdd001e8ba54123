pub mod Delivering
pub mod Fated
pub mod FirstWord
pub mod Firsts
pub mod Joined
pub mod LinesSoFar
pub mod NamedHeader
pub mod PrintedLines
pub mod ReadPolicies
pub mod Readable
pub mod Seen
pub mod Shortened
mod Determined
mod LineEnds
mod OneText
mod Sound
mod Telling
mod Written
