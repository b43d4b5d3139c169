pub mod CourseLemmas
pub mod FinishedLaws
pub mod Halts
pub mod IndexLaws
pub mod PassLemmas
pub mod PhaseLaws
pub mod RoundLemmas
