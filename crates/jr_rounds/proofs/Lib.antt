pub mod JsonLemmas
mod OriginalLemmas
pub mod RoundLemmas
pub mod SeedLemmas
pub mod SumLemmas
pub mod TextLemmas
