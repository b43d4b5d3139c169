pub mod Flown
pub mod Overwritten
