pub mod MoveLemmas
pub mod RegionLemmas
