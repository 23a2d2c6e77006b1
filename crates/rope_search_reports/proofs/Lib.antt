pub mod TextPlaces
pub mod BareLemmas
pub mod MatchLemmas
pub mod NextLemmas
pub mod PassLemmas
pub mod ColumnLemmas
pub mod BreakLemmas
pub mod FinderLemmas
pub mod RowLemmas
pub mod LineLemmas
pub mod PlaceLemmas
pub mod PartLemmas
pub mod ReplaceLemmas
pub mod SpotLemmas
pub mod SpotsInLines
pub mod WalkLemmas
pub mod OwnLemmas
pub mod FewLemmas
pub mod GroupLemmas
pub mod AmongLemmas
pub mod SpliceLemmas
pub mod ChangeLemmas
pub mod WeaveLemmas
pub mod MadeLemmas
mod TouchLemmas
mod SpanLemmas
pub mod TurnLemmas
pub mod PutLemmas
pub mod ReplacementLemmas
pub mod ReportLaws
pub mod TextExamples
pub mod PositionExamples
pub mod ReportExamples
mod ReplacementExamples
mod BoundaryLemmas
mod TellerLemmas
mod StartLemmas
mod ColumnPlaces
mod ChunkColumns
mod UnitLemmas
mod AcrossLemmas
mod KeptLemmas
mod BackLemmas
mod FurtherLemmas
mod ListedLemmas
mod FirstLemmas
mod CrossLemmas
