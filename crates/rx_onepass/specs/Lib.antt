pub mod Edges
pub mod Alone
pub mod Caches
