pub mod Fresh
pub mod Pairs
pub mod Parts
pub mod Picks
pub mod Said
pub mod Urls
