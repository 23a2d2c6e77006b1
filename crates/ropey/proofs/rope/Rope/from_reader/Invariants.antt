-- What came is the text that is built and, behind it, a part of a character.
use Rattle.ropey.proofs.ReadLemmas.{IsReading}
use Rattle.ropey.proofs.rope.Rope.from_reader.Given as goal

abbrev pub invariant-loop : goal.invariant-loop
invariant-loop g l = IsReading (g.R.Read.remaining l.fn.reader) (g.R.Read.remaining l.reader) l.builder l.window l.counter
