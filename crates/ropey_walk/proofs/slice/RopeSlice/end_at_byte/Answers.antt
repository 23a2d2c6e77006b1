use Rattle.std.proofs.Common.{◌≡◌, [], length, ap, sym, ◌∙◌, arith, append-nil}
use Rattle.std.proofs.lemmas.List.{take_all}
use Rattle.str_indices.specs.Text.{byte_len}
use Rattle.str_indices.proofs.TextLaws.{ends_of_a_part-chars}
use Rattle.ropey_tree.specs.Counts.{counts_of}
use Rattle.ropey_walk.specs.Conversions.{char_of_byte}
use Rattle.ropey_walk.specs.Slices.{slice_pieces, slice_text}
use Rattle.ropey_walk.proofs.ChunkParts.{nothing_of}
use Rattle.ropey_walk.proofs.Placing.{whole_chars}
use Rattle.ropey_walk.proofs.slice.RopeSlice.end_at_byte.Goals as goal

pub returns-then-byte_idx-len_bytes-clause-chars : goal.returns-then-byte_idx-len_bytes-clause-chars
returns-then-byte_idx-len_bytes-clause-chars c =
    let t = slice_text c.args.self.now in
    let end : byte_len t ≡ c.args.byte_idx = omega (arith, c.if-byte_idx-len_bytes.true, c.len_bytes.ensures.bytes) in
    let whole = whole_chars ends_of_a_part-chars t [] in
    ap (λ k. k.chars) c.counts.ensures.counts ∙ sym whole ∙ ap (λ s. char_of_byte s (byte_len t)) (append-nil t) ∙ ap (char_of_byte t) end

pub returns-then-byte_idx-len_bytes-clause-counted : goal.returns-then-byte_idx-len_bytes-clause-counted
returns-then-byte_idx-len_bytes-clause-counted c =
    let t = slice_text c.args.self.now in
    let all : c.counts.result.chars ≡ length t = ap (λ k. k.chars) c.counts.ensures.counts in
    c.counts.ensures.counts ∙ ap counts_of (sym (take_all c.counts.result.chars t (omega (arith, all))))

pub returns-clause-chars : goal.returns-clause-chars
returns-clause-chars c = c.counted_to.ensures.chars ∙ ap (char_of_byte (slice_text c.args.self.now)) c.place_of_byte-place.ensures.place

pub returns-then-byte_idx-len_bytes-clause-chunk : goal.returns-then-byte_idx-len_bytes-clause-chunk
returns-then-byte_idx-len_bytes-clause-chunk c = rw (c.nothing.ensures.text, c.nothing.ensures.start) (nothing_of (slice_pieces c.args.self.now))
