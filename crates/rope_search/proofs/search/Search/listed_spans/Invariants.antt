-- The spans of the lines so far.
use Rattle.std.proofs.Common.{min, length}
use Rattle.ropey.specs.Chunks.{text_of}
use Rattle.rope_search.proofs.ListedReplacingLemmas.{AreSpansSoFar}
use Rattle.rope_search.proofs.search.Search.listed_spans.Given as goal

abbrev pub invariant-loop-line : goal.invariant-loop-line
invariant-loop-line l = AreSpansSoFar (text_of l.text) l.self.finder l.fn.from (min l.fn.to (length l.self.rows.items)) l.line l.spans.items
