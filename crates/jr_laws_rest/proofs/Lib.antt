mod DrawnRows
mod Rows
mod RowLaws
mod TriedLaws
