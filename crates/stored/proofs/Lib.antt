pub mod Widths
pub mod Rows
pub mod Back
pub mod Boxes
pub mod Fresh
