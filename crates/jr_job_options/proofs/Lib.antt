pub mod CutLemmas
pub mod LookupLemmas
pub mod OptionLemmas
pub mod Rows
pub mod ShapeLemmas
