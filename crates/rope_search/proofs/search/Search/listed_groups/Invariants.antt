-- The groups of the lines so far, and how many rows may still be made.
use Rattle.std.proofs.Common.{◌≡◌, ◌+◌, ◌≤◌, min, length}
use Rattle.ropey.specs.Chunks.{text_of}
use Rattle.rope_search.proofs.ListedReplacingLemmas.{AreGroupsSoFar, lines_left}
use Rattle.rope_search.proofs.search.Search.listed_groups.Given as goal

abbrev pub invariant-loop-line : goal.invariant-loop-line
invariant-loop-line l =
    let rows = l.fn.self.rows.items in
    let end = min l.fn.to (length rows) in
    (l.self.finder ≡ l.fn.self.finder) × (l.self.rows.items ≡ rows)
    × AreGroupsSoFar (text_of l.text) l.fn.self.finder l.fn.from end l.line l.groups.items
    × (l.tick.count + lines_left rows l.line end ≤ l.fn.tick.count + lines_left rows l.fn.from end)
    × (l.fn.tick.count ≤ l.tick.count) × (l.tick.wholes ≡ l.fn.tick.wholes)
