pub mod Cells
pub mod Encoding
pub mod Parts
