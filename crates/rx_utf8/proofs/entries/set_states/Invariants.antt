use Rattle.std.proofs.Common.{ℕ, ◌≡◌, ◌&&◌, ◌||◌, nat_lt, length, get_or, drop, false}
use Rattle.rx_utf8.specs.Subsets.{in_some, lists_of}
use Rattle.rx_utf8.proofs.entries.set_states.Given as goal

-- the remaining sets complete the states
abbrev pub invariant-loop-set : goal.invariant-loop-set
invariant-loop-set l = record {
  len : length l.states.items ≡ length l.fn.states.items;
  states : (s : ℕ) → (get_or l.states.items s false || (nat_lt s (length l.fn.states.items) && in_some (lists_of (drop l.set-index l.sets)) s))
      ≡ (nat_lt s (length l.fn.states.items) && in_some (lists_of l.sets) s);
}
