use Rattle.std.proofs.Common.{◌≡◌, length, ap, sym, ◌∙◌, arith}
use Rattle.std.proofs.lemmas.List.{take_all}
use Rattle.ropey_tree.specs.Counts.{counts_of}
use Rattle.ropey_walk.specs.Conversions.{char_of_byte}
use Rattle.ropey_walk.specs.Slices.{slice_pieces, slice_text}
use Rattle.ropey_walk.proofs.ChunkParts.{nothing_of}
use Rattle.ropey_walk.proofs.Edges.{char_there_and_back}
use Rattle.ropey_walk.proofs.slice.RopeSlice.end_at_char.Goals as goal

pub returns-then-char_idx-len_chars-clause-chars : goal.returns-then-char_idx-len_chars-clause-chars
returns-then-char_idx-len_chars-clause-chars c =
    omega (arith, ap (λ k. k.chars) c.counts.ensures.counts, c.if-char_idx-len_chars.true, c.len_chars.ensures)

pub returns-then-char_idx-len_chars-clause-counted : goal.returns-then-char_idx-len_chars-clause-counted
returns-then-char_idx-len_chars-clause-counted c =
    let t = slice_text c.args.self.now in
    let all : c.counts.result.chars ≡ length t = ap (λ k. k.chars) c.counts.ensures.counts in
    c.counts.ensures.counts ∙ ap counts_of (sym (take_all c.counts.result.chars t (omega (arith, all))))

pub returns-clause-chars : goal.returns-clause-chars
returns-clause-chars c =
    let t = slice_text c.args.self.now in
    c.counted_to.ensures.chars ∙ ap (char_of_byte t) c.place_of_char-place.ensures.place
    ∙ char_there_and_back t c.args.char_idx c.requires

pub returns-then-char_idx-len_chars-clause-chunk : goal.returns-then-char_idx-len_chars-clause-chunk
returns-then-char_idx-len_chars-clause-chunk c = rw (c.nothing.ensures.text, c.nothing.ensures.start) (nothing_of (slice_pieces c.args.self.now))
