pub mod EngineLemmas
pub mod ToReadLemmas
