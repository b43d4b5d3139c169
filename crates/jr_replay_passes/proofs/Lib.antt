pub mod LegalMoves
pub mod Moves
pub mod RankLemmas
