pub mod Editing
pub mod Making
pub mod Pieces
pub mod Written
pub mod Copying
pub mod ReadLemmas
pub mod Utf8Fronts
