pub mod ContentLemmas
pub mod SliceLemmas
pub mod ExpandLemmas
pub mod PieceLemmas
pub mod SpanLemmas
pub mod PushLemmas
pub mod LengthLemmas
pub mod ShortLemmas
pub mod ToldLemmas
pub mod EditingLemmas
pub mod BuildingLemmas
mod LeftLemmas
mod ChunkLemmas
mod AloneLemmas
mod FirstLemmas
mod SubstitutionLemmas
