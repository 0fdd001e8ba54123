pub mod Alone
pub mod Covering
pub mod Making
pub mod Once
pub mod Parts
pub mod Splitting
pub mod Taking
pub mod Through
