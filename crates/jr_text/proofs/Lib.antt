pub mod Checks
pub mod CutLemmas
pub mod Grouping
pub mod LineLemmas
pub mod NumberLemmas
pub mod Pass
mod Rows
