use Rattle.std.proofs.Common.{◌≡◌, ℕ, ◌+◌, length}
use Rattle.rx_program.specs.Programs.{ByteProgram}
use Rattle.rx_walks.specs.Finds.{Search}
use Rattle.rx_onepass.specs.Edges.{AreEdges}
use Rattle.rx_onepass.specs.Alone.{AreAhead, IsAlone}
use Rattle.rx_onepass.proofs.edges.Edges.run.Given as goal

-- the bytes so far lead to the node
abbrev pub invariant-loop-byte : goal.invariant-loop-byte
invariant-loop-byte l = record {
  read : l.read ≡ l.byte-index;
  alone : (p : ByteProgram) (s : Search) (q len : ℕ) → AreEdges p len l.self → AreAhead s l.at l.bytes → IsAlone p s q len l.at l.fn.slots l.fn.from → IsAlone p s q len (l.at + l.read) l.slots l.node;
}
