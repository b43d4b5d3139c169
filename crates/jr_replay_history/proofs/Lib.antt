pub mod KeyLemmas
pub mod MarkLemmas
pub mod PartLemmas
pub mod RaceLemmas
pub mod UnfinishedLemmas
pub mod WriteEndLemmas
