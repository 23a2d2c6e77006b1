-- The turns so far, from the first session; nothing is left to be written.
use Rattle.std.proofs.Common.{◌≡◌, []}
use Rattle.rope_search_io.specs.ReadBuffer.{most_to_come}
use Rattle.rope_search.specs.Runs.{start, SoFar}
use Rattle.rope_search.proofs.runs.run_turns.Given as goal

abbrev pub invariant-loop-session : goal.invariant-loop-session
invariant-loop-session g l =
    (l.write_buffer ≡ []) × (l.session.limit ≡ l.fn.limits.text)
    × SoFar l.fn.limits.text (start (g.R.Source.state l.fn.reader) (g.W.Sink.state l.fn.writer) l.fn.tick)
    (record { session = l.session.state; buffer = l.read_buffer; source = g.R.Source.state l.reader; sink = g.W.Sink.state l.writer; ticks = l.tick })

abbrev pub decreases-loop-session : goal.decreases-loop-session
decreases-loop-session g l = most_to_come l.read_buffer
