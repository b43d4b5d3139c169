pub mod CellLemmas
pub mod HiddenLemmas
pub mod RawLemmas
pub mod RowLemmas
pub mod SumLemmas
