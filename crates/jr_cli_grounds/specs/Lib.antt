pub mod Afters
pub mod Grounds
pub mod JobRefusals
pub mod Ledgers
pub mod Outcomes
pub mod Taken
pub mod Wanted
pub mod Ways
