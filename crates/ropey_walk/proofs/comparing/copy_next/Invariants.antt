-- What was copied and what is left are the next bytes.
use Rattle.std.proofs.Common.{◌≡◌, ◌≤◌, ◌-◌, ◌++◌, [], length, take}
use Rattle.ropey_walk.specs.Chunks.{IsRopeText}
use Rattle.ropey_walk.specs.Comparing.{bytes_left}
use Rattle.ropey_walk.proofs.comparing.copy_next.Given as goal

abbrev pub invariant-loop-at : goal.invariant-loop-at
invariant-loop-at l =
    (l.at ≤ length l.initial.block) × (length l.block ≡ length l.initial.block)
    × (bytes_left l.fn.part l.initial.chunks ≡ take l.at l.block ++ bytes_left l.rest l.chunks)
    × (l.rest ≡ [] → l.chunks.ahead ≡ []) × IsRopeText l.chunks.ahead

abbrev pub decreases-loop-at : goal.decreases-loop-at
decreases-loop-at l = length l.initial.block - l.at
