-- The hasher got the blocks so far, and what is left follows them.
use Rattle.std.proofs.Common.{◌≡◌, ◌*◌, [], drop, map}
use Rattle.std.specs.Fork.{slice_chunk}
use Rattle.std.specs.List.{fold, range_with_len}
use Rattle.ropey_walk.specs.Chunks.{IsRopeText}
use Rattle.ropey_walk.specs.Comparing.{slice_bytes, bytes_left}
use Rattle.ropey_walk.proofs.comparing.RopeSliceHash.hash.Given as goal

abbrev pub invariant-loop-written : goal.invariant-loop-written
invariant-loop-written g l =
    (l.state ≡ fold g.H.Hasher.write l.initial.state (map (slice_chunk (slice_bytes l.fn.self) 256) (range_with_len 0 l.written)))
    × (bytes_left l.part l.chunks ≡ drop (l.written * 256) (slice_bytes l.fn.self))
    × (l.part ≡ [] → l.chunks.ahead ≡ []) × IsRopeText l.chunks.ahead
