use Rattle.std.proofs.Common.{ℕ, ◌≡◌, ◌&&◌, ◌||◌, nat_lt, length, get_or, drop, false}
use Rattle.rx_walks.specs.Reversed.{has}
use Rattle.rx_utf8.proofs.entries.insert.Given as goal

-- the remaining numbers complete the states
abbrev pub invariant-loop-number : goal.invariant-loop-number
invariant-loop-number l = record {
  len : length l.states.items ≡ length l.fn.states.items;
  states : (s : ℕ) → (get_or l.states.items s false || (nat_lt s (length l.fn.states.items) && has (drop l.number-index l.numbers) s))
      ≡ (get_or l.fn.states.items s false || (nat_lt s (length l.fn.states.items) && has l.numbers s));
}
