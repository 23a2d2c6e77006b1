pub mod Helpers
pub mod CharacterLaws
pub mod RowLaws
pub mod FirstLaws
pub mod FitLaws
pub mod TargetLaws
pub mod StartLaws
pub mod LengthLaws
pub mod ListLaws
pub mod SourceLaws
pub mod SubsetLaws
mod Examples
