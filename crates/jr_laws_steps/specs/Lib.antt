pub mod Choosing
pub mod Counts
pub mod Drawn
pub mod Idle
pub mod Nexts
