pub mod Changes
pub mod FirstGroups
pub mod Replacement
pub mod Text
