pub mod OnlyOne
pub mod Upholding
