mod LeftLemmas
