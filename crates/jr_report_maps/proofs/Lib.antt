pub mod Cells
pub mod Lists
mod Marking
pub mod Pieces
mod Rows
pub mod Sweeping
