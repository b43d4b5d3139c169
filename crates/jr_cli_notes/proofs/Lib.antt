pub mod CommonLemmas
pub mod FirstOfMost
pub mod WordLemmas
mod WorkedCommon
