pub mod Weights
pub mod Portions
pub mod Steps
