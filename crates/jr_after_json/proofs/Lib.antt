pub mod Members
pub mod Overs
