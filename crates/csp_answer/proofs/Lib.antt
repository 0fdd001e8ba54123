pub mod Adding
pub mod Among
pub mod Amounts
pub mod Answered
pub mod AskedParts
pub mod Finding
pub mod Hashes
pub mod ListedSoFar
pub mod ListsNamed
pub mod Members
pub mod NamesIn
pub mod NamesOf
pub mod Parts
pub mod Rules
pub mod Sorting
pub mod SourcesAmount
pub mod Walking
pub mod WordsNamed
mod Digests
mod ValidAtoms
mod Named
mod Pieces
mod SoFar
mod SameAnswer
pub mod SameQuestions
mod AskedBefore
mod SameKinds
