pub mod Crews
pub mod Ends
pub mod Runs
pub mod Turns
pub mod Whole
pub mod Working
