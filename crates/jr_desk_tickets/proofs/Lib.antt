pub mod HandingLaunches
pub mod HandingLists
pub mod HandingMoves
pub mod HandingReads
pub mod OwnTickets
