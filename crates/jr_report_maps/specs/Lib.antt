pub mod BadBlocks
pub mod Firsts
pub mod Maps
pub mod Marked
pub mod Spans
pub mod Sweeps
pub mod Told
pub mod WrongBlocks
