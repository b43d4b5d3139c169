pub mod Ledgers
pub mod Marks
pub mod Parts
pub mod Raced
pub mod Unfinished
pub mod WriteEnds
