pub mod ShownLemmas
mod WriterLemmas
