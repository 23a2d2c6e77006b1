-- The bytes so far are the start of the line, and none of them is an LF.
use Rattle.std.proofs.Common.{◌≡◌, length, take}
use Rattle.rope_search_io.specs.ReadBuffer.{Takes}
use Rattle.rope_search.specs.Reads.{HasNoLf}
use Rattle.rope_search.proofs.command_lines.read_line.Given as goal

abbrev pub invariant-loop-len : goal.invariant-loop-len
invariant-loop-len g l =
    (length l.line ≡ 129) × HasNoLf (take l.len l.line)
    × Takes l.fn.read_buffer l.read_buffer (g.R.Source.state l.fn.source) (g.R.Source.state l.source) (take l.len l.line)
