use Rattle.std.proofs.Common.{ℕ, ◌≡◌, ◌<◌, ◌≤◌, ◌&&◌, ◌++◌, [], ◌∷◌, nat_le, nat_lt, cond, length, get_or}
use Rattle.rx_utf8.specs.Subsets.{lists_of}
use Rattle.rx_utf8.proofs.entries.push_source.Given as goal

-- the lists of the bytes so far have the state
abbrev pub invariant-loop-byte : goal.invariant-loop-byte
invariant-loop-byte l = record {
  len : length l.lists.items ≡ 256;
  none : l.fn.range.last < l.fn.range.first → l.byte ≤ l.fn.range.first;
  lists : (b : ℕ) → get_or (lists_of l.lists.items) b []
      ≡ get_or (lists_of l.fn.lists.items) b [] ++ cond (nat_le l.fn.range.first b && nat_lt b l.byte) (l.source ∷ []) [];
}
