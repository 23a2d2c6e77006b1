-- The parts so far were put.
use Rattle.std.proofs.Common.{take}
use Rattle.rope_search_io.specs.WriteBuffer.{Puts, joined}
use Rattle.rope_search_io.proofs.write_buffer.WriteBuffer.put_parts.Given as goal

abbrev pub invariant-loop-part : goal.invariant-loop-part
invariant-loop-part g l =
    Puts l.fn.self l.self (g.W.Sink.state l.fn.sink) (g.W.Sink.state l.sink) (joined (take l.part-index l.parts))
