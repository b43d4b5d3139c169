pub mod DrawFacts
pub mod PassLaw
