pub mod FlagFacts
pub mod LevelFacts
pub mod MarkFacts
pub mod RunFacts
pub mod WordFacts
