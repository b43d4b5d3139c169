pub mod Bads
pub mod Blocks
pub mod Json
pub mod Written
