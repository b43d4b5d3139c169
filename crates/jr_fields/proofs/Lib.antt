pub mod FieldLemmas
