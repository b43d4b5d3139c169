pub mod Asking
pub mod Clearing
pub mod Numbering
pub mod PartLemmas
