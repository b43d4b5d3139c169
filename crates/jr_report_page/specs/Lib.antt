pub mod Cells
pub mod Escapes
pub mod Heads
pub mod Raw
pub mod Rows
pub mod Settings
pub mod Status
