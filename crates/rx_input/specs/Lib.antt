pub mod Cursors
pub mod Chunks
pub mod Inputs
pub mod Searchers
pub mod Lending
pub mod Ranges
