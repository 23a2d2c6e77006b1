use Rattle.std.proofs.Common.{◌+◌, ap, arith, ◌∙◌}
use Rattle.ropey_walk.specs.Chunks.{text_of}
use Rattle.ropey_walk.specs.Clips.{clip}
use Rattle.ropey_walk.specs.Conversions.{char_of_byte}
use Rattle.std.specs.Str.{chars}
use Rattle.std.specs.Prelude.{encode_utf8_all, take}
use Rattle.str_indices.proofs.TextLaws.{ends_of_a_part-chars, from_byte_idx_is_monotone-chars}
use Rattle.ropey_walk.specs.Slices.{slice_pieces, slice_text}
use Rattle.ropey_walk.proofs.ByteParts.{spelled_to, spelled_between}
use Rattle.ropey_walk.proofs.Clipping.{text-clip}
use Rattle.ropey_walk.proofs.Edges.{front_at}
use Rattle.ropey_walk.proofs.slice.RopeSlice.between_places.Goals as goal

pub between-requires-clause-order : goal.between-requires-clause-order
between-requires-clause-order c =
    let t = slice_text c.args.self.now in
    let from = c.args.from.now in
    let to = c.args.to.now in
    omega (arith, c.standing_at.ensures.chars, c.counted_to.ensures.chars, from_byte_idx_is_monotone-chars t (from.start.bytes + from.at) (to.start.bytes + to.at) c.requires.order)

pub returns-clause-pieces : goal.returns-clause-pieces
returns-clause-pieces c =
    let t = slice_text c.args.self.now in
    let from = c.args.from.now in
    let pieces = slice_pieces c.args.self.now in
    c.between.ensures ∙ ap (λ n. clip n c.counted_to.result.chars pieces) c.standing_at.ensures.chars
    ∙ ap (λ n. clip (char_of_byte t (from.start.bytes + from.at)) n pieces) c.counted_to.ensures.chars

pub returns-clause-bytes : goal.returns-clause-bytes
returns-clause-bytes c =
    let t = slice_text c.args.self.now in
    let from = c.args.from.now in
    let to = c.args.to.now in
    let law = ends_of_a_part-chars in
    let first = spelled_to law t from.start from.at (chars (take from.at from.text.now)) (front_at t from.text.now from.start from.at c.requires.from_utf8 c.requires.from c.requires.from_boundary) in
    let last = spelled_to law t to.start to.at (chars (take to.at to.text.now)) (front_at t to.text.now to.start to.at c.requires.to_utf8 c.requires.to c.requires.to_boundary) in
    let order = from_byte_idx_is_monotone-chars t (from.start.bytes + from.at) (to.start.bytes + to.at) c.requires.order in
    let pieces_are = c.between.ensures ∙ ap (λ n. clip n c.counted_to.result.chars (slice_pieces c.args.self.now)) c.standing_at.ensures.chars
    ∙ ap (λ n. clip (char_of_byte t (from.start.bytes + from.at)) n (slice_pieces c.args.self.now)) c.counted_to.ensures.chars in
    ap (λ ps. encode_utf8_all (text_of ps)) pieces_are
    ∙ ap encode_utf8_all (text-clip (char_of_byte t (from.start.bytes + from.at)) (char_of_byte t (to.start.bytes + to.at)) (slice_pieces c.args.self.now))
    ∙ spelled_between t (from.start.bytes + from.at) (to.start.bytes + to.at) order first last
