-- Escaped texts: words of `regex_cursor`, for the crates above.
pub use Rattle.regex_cursor.specs.Escaping.{SpellsText, escaped_bytes}
