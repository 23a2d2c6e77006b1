use Rattle.std.proofs.Common.{◌+◌, ap, ◌∙◌}
use Rattle.ropey_walk.specs.Comparing.{slice_bytes}
use Rattle.str_indices.specs.Text.{byte_len}
use Rattle.ropey_walk.specs.Clips.{between, clip}
use Rattle.ropey_walk.specs.Conversions.{char_of_byte}
use Rattle.ropey_walk.specs.Ranges.{start_of, end_of}
use Rattle.ropey_walk.specs.Slices.{slice_pieces, slice_text}
use Rattle.ropey_walk.proofs.slice.RopeSlice.try_byte_slice.Goals as goal

pub returns-clause-slice : goal.returns-clause-slice
returns-clause-slice g c =
    let t = slice_text c.args.self.now in
    let pieces = slice_pieces c.args.self.now in
    let to = c.place_of_byte-to.result in
    let first = c.place_of_byte-from.ensures.place ∙ c.in_ok-start.ensures.1 ∙ ap start_of c.ends-ends.ensures in
    let last = c.place_of_byte-to.ensures.place ∙ c.in_ok-start.ensures.2 ∙ ap (λ ends. end_of ends (byte_len t)) c.ends-ends.ensures in
    c.between_places.ensures.pieces ∙ ap (λ n. clip (char_of_byte t n) (char_of_byte t (to.start.bytes + to.at)) pieces) first
    ∙ ap (λ n. clip (char_of_byte t (start_of (g.R.TextRange.ends c.args.byte_range))) (char_of_byte t n) pieces) last

pub returns-clause-bytes : goal.returns-clause-bytes
returns-clause-bytes g c =
    let bytes = slice_bytes c.args.self.now in
    let to = c.place_of_byte-to.result in
    let first = c.place_of_byte-from.ensures.place ∙ c.in_ok-start.ensures.1 ∙ ap start_of c.ends-ends.ensures in
    let last = c.place_of_byte-to.ensures.place ∙ c.in_ok-start.ensures.2 ∙ ap (λ ends. end_of ends (byte_len (slice_text c.args.self.now))) c.ends-ends.ensures in
    c.between_places.ensures.bytes ∙ ap (λ n. between n (to.start.bytes + to.at) bytes) first
    ∙ ap (λ n. between (start_of (g.R.TextRange.ends c.args.byte_range)) n bytes) last
