use Rattle.std.proofs.Common.{ℕ, ◌+◌, ◌*◌, ◌<◌, length}
use Rattle.rx_dfa.specs.Tables.{HoldsBy}
use Rattle.rx_dfa.specs.Caches.{KeepNumbers}
use Rattle.rx_dfa.specs.DenseTables.{AreKnown, HaveRows, IsKnownAt}
use Rattle.rx_dfa.proofs.cache.Cache.fill_row.Given as goal

-- the entries of the row so far are known
abbrev pub invariant-loop-column : goal.invariant-loop-column
invariant-loop-column l = record {
  made : HoldsBy l.automaton l.self;
  number : l.number < length l.self.states;
  kept : KeepNumbers l.fn.self.states l.self.states;
  before : AreKnown l.self l.number;
  row : (column : ℕ) → column < l.column → IsKnownAt l.self.table (l.number * l.self.width + column);
  rows : HaveRows l.fn.self l.self;
}
