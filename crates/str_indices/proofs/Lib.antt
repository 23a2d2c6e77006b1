pub mod Blocks
pub mod Spread
pub mod Tested
pub mod Indices
pub mod Vectors
pub mod Chunks
pub mod Words
pub mod FirstLanes
pub mod Joined
pub mod Places
pub mod Units
pub mod Order
pub mod Parts
pub mod Behind
pub mod FirstBreaks
pub mod TextLaws
mod Examples
