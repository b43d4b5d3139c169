pub mod OverlapLemmas
pub mod TwinLemmas
