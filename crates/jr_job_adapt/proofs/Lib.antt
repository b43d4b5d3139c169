pub mod AnswerLemmas
pub mod StepLemmas
pub mod WalkLemmas
