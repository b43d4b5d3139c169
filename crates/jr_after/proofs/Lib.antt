pub mod Courses
pub mod Told
pub mod LedgerLemmas
pub mod Narrow
pub mod SectorLemmas
mod WorkedCuts
