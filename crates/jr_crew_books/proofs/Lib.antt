pub mod BookLemmas
pub mod Comparing
pub mod Following
pub mod Settling
pub mod Noting
pub mod Tables
