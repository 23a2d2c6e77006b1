pub mod Matches
pub mod Templates
pub mod Told
pub mod Pieces
pub mod Left
pub mod Parts
pub mod Laws
pub mod Substitutions
