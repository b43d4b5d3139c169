pub mod Left
pub mod NextRound
pub mod Told
pub mod Untried
