use Rattle.std.proofs.Common.{◌≡◌, [], ap, sym, ◌∙◌, arith}
use Rattle.str_indices.proofs.TextLaws.{ends_of_a_part-chars}
use Rattle.ropey_walk.specs.Conversions.{char_of_byte}
use Rattle.ropey_walk.specs.Parts.{standing}
use Rattle.ropey_walk.specs.Slices.{slice_pieces, slice_text}
use Rattle.ropey_walk.proofs.ChunkParts.{nothing_of}
use Rattle.ropey_walk.proofs.Placing.{whole_chars}
use Rattle.ropey_walk.proofs.Reaching.{nothing_stands}
use Rattle.ropey_walk.proofs.BreakLaws.{breaks_of_parts}
use Rattle.ropey_walk.proofs.slice.RopeSlice.start_at_byte.Goals as goal

pub returns-then-byte_idx-eq0-clause-chars : goal.returns-then-byte_idx-eq0-clause-chars
returns-then-byte_idx-eq0-clause-chars c =
    let t = slice_text c.args.self.now in
    let start : c.args.byte_idx ≡ 0 = omega (arith, c.if-byte_idx-eq0.true) in
    ap (λ k. k.chars) c.zero.ensures ∙ sym (whole_chars ends_of_a_part-chars [] t) ∙ ap (char_of_byte t) (sym start)

pub returns-then-byte_idx-eq0-clause-stands : goal.returns-then-byte_idx-eq0-clause-stands
returns-then-byte_idx-eq0-clause-stands c =
    let t = slice_text c.args.self.now in
    let first : c.zero.result.chars ≡ 0 = ap (λ k. k.chars) c.zero.ensures in
    c.zero.ensures ∙ nothing_stands breaks_of_parts t ∙ ap (standing t) (sym first)

pub returns-clause-chars : goal.returns-clause-chars
returns-clause-chars c = c.standing_at.ensures.chars ∙ ap (char_of_byte (slice_text c.args.self.now)) c.place_of_byte-place.ensures.place

pub returns-then-byte_idx-eq0-clause-chunk : goal.returns-then-byte_idx-eq0-clause-chunk
returns-then-byte_idx-eq0-clause-chunk c = rw (c.nothing.ensures.text, c.nothing.ensures.start) (nothing_of (slice_pieces c.args.self.now))
