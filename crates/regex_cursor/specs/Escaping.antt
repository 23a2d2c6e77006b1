-- Escaped texts: words of `rx_escape`, for the crates above.
pub use Rattle.rx_escape.specs.Escaped.{SpellsText, escaped_bytes}
