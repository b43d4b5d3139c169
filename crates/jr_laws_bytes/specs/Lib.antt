pub mod BadVerdicts
pub mod Checks
pub mod Clean
pub mod Memory
