pub mod Search
pub mod Anchoring
pub mod SparseSets
pub mod Groups
pub mod Slots
pub mod Captured
pub mod Lending
