-- The rests of both texts are ordered as they are.
use Rattle.std.proofs.Common.{◌≡◌, [], length}
use Rattle.std.specs.Cmp.Lexicographic.{slice_cmp}
use Rattle.std.specs.Ordering.{nat_cmp}
use Rattle.ropey_walk.specs.Chunks.{IsRopeText}
use Rattle.ropey_walk.specs.Comparing.{slice_bytes, bytes_left}
use Rattle.ropey_walk.proofs.comparing.compare.Given as goal

abbrev pub invariant-loop-left_chunks : goal.invariant-loop-left_chunks
invariant-loop-left_chunks l =
    (slice_cmp nat_cmp (slice_bytes l.fn.left) (slice_bytes l.fn.right)
    ≡ slice_cmp nat_cmp (bytes_left l.left_part l.left_chunks) (bytes_left l.right_part l.right_chunks))
    × (l.left_part ≡ [] → l.left_chunks.ahead ≡ []) × (l.right_part ≡ [] → l.right_chunks.ahead ≡ [])
    × IsRopeText l.left_chunks.ahead × IsRopeText l.right_chunks.ahead

abbrev pub decreases-loop-left_chunks : goal.decreases-loop-left_chunks
decreases-loop-left_chunks l = length (bytes_left l.left_part l.left_chunks)
