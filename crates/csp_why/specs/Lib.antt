pub mod Allowances
pub mod Displacement
pub mod Laws
pub mod Missing
pub mod Near
pub mod Reasons
pub mod Words
