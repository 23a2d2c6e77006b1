-- The spans so far.
use Rattle.std.proofs.Common.{◌≡◌, ◌++◌, map, take}
use Rattle.ropey.specs.Chunks.{text_of}
use Rattle.rope_search.specs.ListedReplacing.{listed_span}
use Rattle.rope_search.proofs.listed_matches.add_spans.Given as goal

abbrev pub invariant-loop-columns : goal.invariant-loop-columns
invariant-loop-columns l =
    l.spans.items ≡ l.fn.spans.items ++ map (listed_span (text_of l.text) l.line_idx) (take l.columns-index l.row)
