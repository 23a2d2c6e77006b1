pub mod EscapedLaws
pub mod MatchLaws
