pub mod SparseSetLemmas
pub mod SlotLemmas
pub mod NameLemmas
mod Examples
