-- What the sink was given so far is a prefix of the bytes.
use Rattle.std.proofs.Common.{◌≤◌, ◌-◌, length, take}
use Rattle.rope_search_io.specs.WriteBuffer.{Writes}
use Rattle.rope_search_io.proofs.write_buffer.write_all.Given as goal

abbrev pub invariant-loop-done : goal.invariant-loop-done
invariant-loop-done g l =
    (l.done ≤ length l.bytes) × Writes (g.W.Sink.state l.fn.sink) (g.W.Sink.state l.sink) (take l.done l.bytes)

abbrev pub decreases-loop-done : goal.decreases-loop-done
decreases-loop-done g l = length l.bytes - l.done
