pub mod Spots
pub mod Ways
