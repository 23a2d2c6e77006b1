-- Texts, their UTF-8 and their lines.
pub use Rattle.rope_search_changes.specs.Text.{IsText, bytes_of, Encodes, line_count}
