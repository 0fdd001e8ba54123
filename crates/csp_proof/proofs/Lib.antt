pub mod LineTexts
pub mod Numbers
pub mod UrlParts
pub mod Cuts
pub mod AtomsRead
pub mod LinesRead
pub mod LineBytes
pub mod Steps
pub mod Whole
pub mod FirstLines
pub mod Refused
pub mod Ends
pub mod CasesRead
mod Examples
pub mod Included
pub mod ReadableSaid
