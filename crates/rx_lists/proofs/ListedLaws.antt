-- Lists of matches that are built from their start on.
use Rattle.std.proofs.Common.{ℕ, zero, suc, ◌+◌, ◌<◌, ◌≤◌, true, false, List, subst, arith}
use Rattle.rx_walks.specs.Machines.{Machine, Outcome}
use Rattle.rx_walks.specs.Leading.{LeadsToMatch}
use Rattle.rx_walks.specs.Listings.{Listing, over, no_start, listed}

module _ {Q N : Type 0} (m : Machine Q N) (begins : ℕ → ℕ → Type 0) (fresh : ℕ → N) (q : Q) where
  -- after the offset at which the last match ended it doesn't matter that one did
  pub behind_end : {from i : ℕ} {ms : List (Outcome N)} → from < i → Listing m begins fresh q false from i ms → Listing m begins fresh q true from i ms
  behind_end past (over never) = over never
  behind_end past (no_start never on) = no_start never (behind_end (omega (arith, past)) on)
  behind_end past (listed b follows not on) = listed b follows (λ after at end. omega (arith, past, at)) on

  -- offsets at which no start counts are skipped
  pub none_between : (n : ℕ) {from i : ℕ} {ms : List (Outcome N)} → ((j : ℕ) → i ≤ j → j < i + n → begins from j → LeadsToMatch m q j → ⊥) → Listing m begins fresh q false from (i + n) ms → Listing m begins fresh q false from i ms
  none_between zero {from = from} {i = i} {ms = ms} never on = subst (λ j. Listing m begins fresh q false from j ms) (omega arith) on
  none_between (suc n) {from = from} {i = i} {ms = ms} never on =
      no_start (never i (omega arith) (omega arith)) (none_between n (λ j above below. never j (omega (arith, above)) (omega (arith, below))) (subst (λ j. Listing m begins fresh q false from j ms) (omega arith) on))
