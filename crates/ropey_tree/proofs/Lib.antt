mod Examples
pub mod Totals
pub mod InRow
pub mod Running
pub mod Halving
pub mod Heights
pub mod Descents
pub mod Texts
pub mod CuttingLaws
pub mod Pieces
pub mod Packing
pub mod Rows
pub mod Joining
pub mod Splitting
pub mod Levels
mod Marks
pub mod Ends
pub mod OverSeams
pub mod Editing
pub mod Merging
pub mod Filling
