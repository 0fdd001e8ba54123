pub mod Cells
pub mod Inside
