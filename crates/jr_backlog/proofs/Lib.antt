pub mod KeptFacts
pub mod OrderedKeys
pub mod RoundFacts
pub mod WalkedFacts
