pub mod DraftLemmas
pub mod FileLemmas
pub mod LimitLemmas
pub mod ListLemmas
pub mod SeedLemmas
pub mod SplitLemmas
