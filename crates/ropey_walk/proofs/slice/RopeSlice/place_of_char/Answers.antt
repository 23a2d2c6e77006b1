use Rattle.std.proofs.Common.{◌≡◌, ◌-◌, ℕ, subst, arith}
use Rattle.std.specs.Str.{chars}
use Rattle.str_indices.specs.Text.{char_ends, end_place}
use Rattle.std.proofs.Common.{length}
use Rattle.str_indices.proofs.TextLaws.{places_of_a_part-chars, to_byte_idx_is_a_boundary-chars}
use Rattle.ropey_tree.specs.declared.counts.By.TheVariants.{Chars}
use Rattle.ropey_walk.specs.Slices.{slice_pieces, slice_text}
use Rattle.ropey_walk.specs.Conversions.{byte_of_char}
use Rattle.ropey_walk.specs.Standing.{StandsAt}
use Rattle.ropey_walk.proofs.Placing.{char_placed, IsPlaced}
use Rattle.ropey_walk.proofs.Edges.{end_is_boundary}
use Rattle.ropey_walk.proofs.slice.RopeSlice.place_of_char.Goals as goal
use Rattle.ropey_walk.proofs.slice.RopeSlice.place_of_char.Goals.{After-byte_of_char}

placed : (c : After-byte_of_char) → let r = c.chunk-chunk.result in
    IsPlaced (slice_text c.args.self.now) (chars r.text.now) r.start (end_place (char_ends (chars r.text.now)) (c.args.char_idx - r.start.chars) (length r.text.now)) (byte_of_char (slice_text c.args.self.now) c.args.char_idx)
placed c =
    let r = c.chunk-chunk.result in
    let e = c.chunk-chunk.ensures in
    let same : c.saturating_sub.result ≡ c.args.char_idx - 1 = omega (arith, c.saturating_sub.ensures) in
    let stands = subst (λ (n : ℕ). StandsAt (slice_pieces c.args.self.now) Chars n (chars r.text.now) r.start) same e.stands in
    char_placed (slice_pieces c.args.self.now) r.text.now r.start e.utf8 e.cut places_of_a_part-chars to_byte_idx_is_a_boundary-chars c.args.char_idx stands

pub returns-clause-stands : goal.returns-clause-stands
returns-clause-stands c = rw c.byte_of_char.ensures (placed (goal.at.returns-clause-stands c).After-byte_of_char).stands

pub returns-clause-place : goal.returns-clause-place
returns-clause-place c = rw c.byte_of_char.ensures (placed (goal.at.returns-clause-place c).After-byte_of_char).place_is

pub returns-clause-boundary : goal.returns-clause-boundary
returns-clause-boundary c =
    let r = c.chunk-chunk.result in
    rw c.byte_of_char.ensures (end_is_boundary char_ends to_byte_idx_is_a_boundary-chars r.text.now c.chunk-chunk.ensures.utf8 (c.args.char_idx - r.start.chars))

pub byte_of_char-requires : goal.byte_of_char-requires
byte_of_char-requires c = c.chunk-chunk.result.ascii
