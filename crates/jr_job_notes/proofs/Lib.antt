mod FirstLemmas
mod NoteLemmas
mod OrderLemmas
