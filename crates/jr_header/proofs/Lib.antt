pub mod ChunkLemmas
pub mod Differences
pub mod Lengths
mod OwnHeaders
mod Generated
pub mod Headers
pub mod Laws
pub mod Patterns
pub mod Rulings
pub mod Verdicts
mod WorkedBlocks
