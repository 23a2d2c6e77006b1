-- What a text counts in each unit, and the chunk that contains an index.
pub use Rattle.ropey_tree.specs.declared.counts.Counts.{Counts}
pub use Rattle.ropey_tree.specs.declared.counts.By.{By}
pub use Rattle.ropey_tree.specs.declared.counts.By.TheVariants.{Bytes, Chars, Units, Breaks}
pub use Rattle.ropey_tree.specs.Counts.{counts_of, amount}
pub use Rattle.ropey_walk.specs.Standing.{StandsAt}
