pub mod Arrays
pub mod Json
pub mod Types
pub mod View
