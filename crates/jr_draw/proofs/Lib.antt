pub mod ComingFacts
pub mod WordLaws
