pub mod ChunkLemmas
pub mod PieceLemmas
pub mod SeenLemmas
pub mod SearcherLaws
