pub mod Formulas
pub mod HashSets
pub mod Residuals
