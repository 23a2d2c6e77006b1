-- Why a text is refused as a pattern: words of `regex_cursor`, for the crates above.
pub use Rattle.regex_cursor.specs.Explaining.{IsRefusedAs, SpellsSome}
pub use Rattle.regex_cursor.specs.Explaining.{Settings, default_settings}
pub use Rattle.regex_cursor.specs.Explaining.{Refusal, Reason, TooLong, Nesting, Outside}
pub use Rattle.regex_cursor.specs.Explaining.{Mistake, OpenGroup, NoOpenGroup, NothingToRepeat, Count, LargeCount, CountOrder, Escape, Scalar, OpenClass, ClassItem, RangeOrder, GroupHead, RepeatedName, Dot}
