pub mod Halves
pub mod Matches
