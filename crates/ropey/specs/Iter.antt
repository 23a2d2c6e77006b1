-- What the iterators over a rope give, in the words of slices.
pub use Rattle.ropey_walk.specs.TwoWay.{TwoWay, turned, before_item, GivesNext, GivesPrev}
pub use Rattle.ropey_walk.specs.Lines.{line_pieces, lines_of}
pub use Rattle.ropey_walk.specs.Iter.{GivesItem, GivesLine, GivesChunk, PassesFirst, StandsBefore, StandsBeforeBreak, CutsNoCrLf}
