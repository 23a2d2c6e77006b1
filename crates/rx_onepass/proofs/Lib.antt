pub mod MarkLaws
pub mod CarryLaws
pub mod AloneLaws
pub mod EdgeLaws
pub mod WayLaws
