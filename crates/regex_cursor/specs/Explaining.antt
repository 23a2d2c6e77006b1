-- Why a text is refused as a pattern: words of `rx_grammar`, for the crates above.
pub use Rattle.rx_grammar.specs.Refusals.{IsRefusedAs, SpellsSome}
pub use Rattle.rx_grammar.specs.Settings.{Settings, default_settings}
pub use Rattle.rx_grammar.specs.declared.refusals.Refusal.{Refusal}
pub use Rattle.rx_grammar.specs.declared.refusals.Reason.{Reason}
pub use Rattle.rx_grammar.specs.declared.refusals.Reason.TheVariants.{TooLong, Nesting, Outside}
pub use Rattle.rx_grammar.specs.declared.refusals.Mistake.{Mistake}
pub use Rattle.rx_grammar.specs.declared.refusals.Mistake.TheVariants.{OpenGroup, NoOpenGroup}
pub use Rattle.rx_grammar.specs.declared.refusals.Mistake.TheVariants.{NothingToRepeat, Count}
pub use Rattle.rx_grammar.specs.declared.refusals.Mistake.TheVariants.{LargeCount, CountOrder}
pub use Rattle.rx_grammar.specs.declared.refusals.Mistake.TheVariants.{Escape, Scalar, Dot}
pub use Rattle.rx_grammar.specs.declared.refusals.Mistake.TheVariants.{OpenClass, ClassItem}
pub use Rattle.rx_grammar.specs.declared.refusals.Mistake.TheVariants.{RangeOrder, GroupHead}
pub use Rattle.rx_grammar.specs.declared.refusals.Mistake.TheVariants.{RepeatedName}
