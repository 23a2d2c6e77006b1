use Rattle.std.proofs.Common.{ℕ, ◌≡◌, ◌++◌, [], length, get_or, drop}
use Rattle.rx_utf8.specs.Subsets.{is_place, lists_of, sources}
use Rattle.rx_utf8.proofs.entries.set_sources.Given as goal

-- the remaining entries complete the lists
abbrev pub invariant-loop-entry : goal.invariant-loop-entry
invariant-loop-entry l = record {
  len : length l.lists.items ≡ 256;
  lists : (b : ℕ) → get_or (lists_of l.lists.items) b [] ++ sources (is_place l.end l.states) (drop l.entry-index l.entries) b
      ≡ sources (is_place l.end l.states) l.entries b;
}
