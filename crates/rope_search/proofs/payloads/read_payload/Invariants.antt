-- Some bytes of the payload were taken, and what is kept of them is known.
use Rattle.std.proofs.Common.{◌≡◌, ◌+◌, List, ℕ, length}
use Rattle.rope_search_io.specs.ReadBuffer.{Takes}
use Rattle.rope_search.specs.Requests.{GathersMore}
use Rattle.rope_search.proofs.payloads.read_payload.Given as goal

abbrev pub invariant-loop-left : goal.invariant-loop-left
invariant-loop-left g l =
    (bytes : List ℕ) × (length bytes + l.left ≡ l.fn.len) × GathersMore g.G.Gather.keeps l.fn.gathered l.gathered bytes
    × Takes l.fn.read_buffer l.read_buffer (g.R.Source.state l.fn.source) (g.R.Source.state l.source) bytes

abbrev pub decreases-loop-left : goal.decreases-loop-left
decreases-loop-left g l = l.left
