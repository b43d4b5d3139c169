pub mod After
pub mod Bads
pub mod Tallies
pub mod Tallying
