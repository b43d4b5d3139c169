pub mod Findings
pub mod Laws
pub mod Ledgers
pub mod Parts
pub mod Storage
pub mod Writes
