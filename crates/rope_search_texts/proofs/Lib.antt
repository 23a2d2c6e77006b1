pub mod GrowingLemmas
