pub mod Faults
pub mod Sources
pub mod Device
pub mod ReadBuffer
pub mod WriteBuffer
pub mod Utf8Judge
