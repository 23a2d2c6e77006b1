-- The number of items that an iterator has left fits a machine word.
use Rattle.std.proofs.Common.{◌≡◌, ℕ, ◌+◌, ◌<◌, ◌^◌, Bool, true, false, arith}
use Rattle.std.specs.Iterator.{size}
use Rattle.rx_input.specs.Searchers.{items_at_most}
use Rattle.rx_walks.specs.Iterating.{MatchesLeft}
use Rattle.rx_chunk.specs.Iterating.{EndsAhead, left_behind, matches_left}
use Rattle.rx_chunk.proofs.IterLaws.{fewer_are_left}

pub few_items : (is_over has_matched : Bool) (ahead : ℕ) → ahead < 2 ^ 63
    → items_at_most is_over has_matched ahead < 2 ^ 64
few_items true has_matched ahead low = omega arith
few_items false true ahead low = omega (arith, low)
few_items false false ahead low = omega (arith, low)

-- and so does one more for the last part
pub few_parts : (has_matched : Bool) (ahead : ℕ) → ahead < 2 ^ 63 → items_at_most false has_matched ahead + 1 < 2 ^ 64
few_parts true ahead low = omega (arith, low)
few_parts false ahead low = omega (arith, low)

-- after a match fewer are left
pub fewer_behind : (m : MatchesLeft) (end : ℕ) → m.is_over ≡ false → EndsAhead m.last_end m.search end → size (matches_left (left_behind m end)) < size (matches_left m)
fewer_behind m end on ends = fewer_are_left.behind m end on ends

-- and after the end
pub fewer_over : (m n : MatchesLeft) → m.is_over ≡ false → n.is_over ≡ true → size (matches_left n) < size (matches_left m)
fewer_over m n on over = fewer_are_left.over m n on over
