pub mod HashSources
pub mod LeftOver
pub mod LeftParts
