pub mod Hashed
pub mod Forms
pub mod Named
pub mod Turns
pub mod Untold
pub mod OnlyCheck
pub mod RequestTurns
mod ReadOnce
pub mod Parts
mod CheckBack
mod DigestsBack
mod FileBack
mod NamesBack
mod PrintedJson
mod PrintedText
mod TextBack
mod UrlBack
