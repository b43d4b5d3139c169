pub mod Halts
pub mod Judging
pub mod Parts
pub mod Stops
