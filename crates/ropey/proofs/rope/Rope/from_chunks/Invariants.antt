use Rattle.std.proofs.Common.{◌≡◌}
use Rattle.ropey.specs.Chunks.{joined}
use Rattle.ropey.proofs.rope.Rope.from_chunks.Given as goal

abbrev pub invariant-loop-chunk : goal.invariant-loop-chunk
invariant-loop-chunk g l = l.builder ≡ joined l.yielded
