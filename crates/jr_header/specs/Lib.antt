pub mod Chunks
pub mod Hashers
pub mod Own
pub mod Served
