use Rattle.std.proofs.Common.{◌≡◌, ap, sym, ◌∙◌}
use Rattle.ropey_walk.specs.Conversions.{char_of_byte}
use Rattle.ropey_walk.specs.Parts.{standing}
use Rattle.ropey_walk.specs.Slices.{slice_pieces, slice_text}
use Rattle.ropey_walk.proofs.ChunkParts.{nothing_of}
use Rattle.ropey_walk.proofs.Edges.{char_there_and_back}
use Rattle.ropey_walk.proofs.Reaching.{nothing_stands}
use Rattle.ropey_walk.proofs.BreakLaws.{breaks_of_parts}
use Rattle.ropey_walk.proofs.slice.RopeSlice.start_at_char.Goals as goal

pub returns-then-char_idx-eq0-clause-stands : goal.returns-then-char_idx-eq0-clause-stands
returns-then-char_idx-eq0-clause-stands c =
    let t = slice_text c.args.self.now in
    let first : c.zero.result.chars ≡ 0 = ap (λ k. k.chars) c.zero.ensures in
    c.zero.ensures ∙ nothing_stands breaks_of_parts t ∙ ap (standing t) (sym first)

pub returns-clause-chars : goal.returns-clause-chars
returns-clause-chars c =
    let t = slice_text c.args.self.now in
    c.standing_at.ensures.chars ∙ ap (char_of_byte t) c.place_of_char-place.ensures.place
    ∙ char_there_and_back t c.args.char_idx c.requires

pub returns-then-char_idx-eq0-clause-chunk : goal.returns-then-char_idx-eq0-clause-chunk
returns-then-char_idx-eq0-clause-chunk c = rw (c.nothing.ensures.text, c.nothing.ensures.start) (nothing_of (slice_pieces c.args.self.now))
