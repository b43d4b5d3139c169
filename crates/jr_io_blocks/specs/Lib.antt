pub mod Cached
pub mod Failures
pub mod Holds
pub mod Moves
pub mod Parts
pub mod Regions
pub mod Sectors
