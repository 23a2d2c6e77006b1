use Rattle.std.proofs.Common.{◌≡◌, ℕ, List, subst}
use Rattle.std.specs.Prelude.{IfSome}
use Rattle.str_indices.specs.Text.{byte_len}
use Rattle.ropey.specs.Comparing.{text_bytes}
use Rattle.ropey_walk.specs.Chunks.{text_of}
use Rattle.ropey_walk.specs.Clips.{between}
use Rattle.ropey_walk.specs.Comparing.{slice_bytes}
use Rattle.ropey_walk.specs.Ranges.{start_of, end_of, bytes_in}
use Rattle.ropey_walk.specs.Slices.{slice_pieces}
use Rattle.ropey.proofs.rope.Rope.get_byte_slice.Goals as goal

pub returns-clause-slice : goal.returns-clause-slice
returns-clause-slice g c =
    let ends = g.R.TextRange.ends c.args.byte_range in
    subst (λ (ps : List (List ℕ)). IfSome c.get_byte_slice.result (λ slice. slice_pieces slice ≡ bytes_in ends ps)) c.whole.ensures.pieces c.get_byte_slice.ensures.slice

pub returns-clause-bytes : goal.returns-clause-bytes
returns-clause-bytes g c =
    let ends = g.R.TextRange.ends c.args.byte_range in
    subst (λ (ps : List (List ℕ)). IfSome c.get_byte_slice.result (λ slice. slice_bytes slice ≡ between (start_of ends) (end_of ends (byte_len (text_of ps))) (text_bytes ps))) c.whole.ensures.pieces c.get_byte_slice.ensures.bytes
