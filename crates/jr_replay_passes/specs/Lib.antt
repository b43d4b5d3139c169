pub mod Agendas
pub mod Counts
pub mod Laws
pub mod Passes
