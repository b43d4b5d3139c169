mod ReferenceWords
pub mod WordLemmas
