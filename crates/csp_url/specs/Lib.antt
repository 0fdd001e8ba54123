pub mod Origins
pub mod Parts
pub mod Reading
pub mod Texts
pub mod Types
