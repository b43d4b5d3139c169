pub mod KeptLemmas
pub mod MarkLemmas
pub mod PlaceLemmas
