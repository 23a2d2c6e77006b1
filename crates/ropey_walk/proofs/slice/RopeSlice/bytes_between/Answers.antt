use Rattle.std.proofs.Common.{ap, arith, ◌∙◌, inl, inr, sym, subst}
use Rattle.std.specs.Prelude.{encode_utf8_all}
use Rattle.std.specs.Str.{chars, IsUtf8}
use Rattle.str_indices.proofs.TextLaws.{ends_of_a_part-chars, from_byte_idx_is_monotone-chars}
use Rattle.ropey_walk.specs.Chunks.{text_of}
use Rattle.ropey_walk.specs.Clips.{clip}
use Rattle.ropey_walk.specs.Conversions.{char_of_byte}
use Rattle.ropey_walk.specs.Slices.{slice_pieces, slice_text}
use Rattle.ropey_walk.proofs.ByteParts.{spelled_at, spelled_between}
use Rattle.ropey_walk.proofs.Clipping.{text-clip}
use Rattle.ropey_walk.proofs.Edges.{cutting-scalars}
use Rattle.ropey_walk.specs.Standing.{IsChunkOf}
use Rattle.ropey_walk.specs.declared.slice.Chunk.{Chunk}
use Rattle.ropey_walk.proofs.slice.RopeSlice.bytes_between.Goals as goal

pub between-requires-clause-order : goal.between-requires-clause-order
between-requires-clause-order c =
    omega (arith, c.start_at_byte-from.ensures.chars, c.end_at_byte-to.ensures.chars, from_byte_idx_is_monotone-chars (slice_text c.args.self.now) c.args.start c.args.end c.requires.order)

pub returns-clause-pieces : goal.returns-clause-pieces
returns-clause-pieces c =
    let pieces = slice_pieces c.args.self.now in
    c.between.ensures ∙ ap (λ n. clip n c.end_at_byte-to.result.counts.chars pieces) c.start_at_byte-from.ensures.chars
    ∙ ap (λ n. clip (char_of_byte (slice_text c.args.self.now) c.args.start) n pieces) c.end_at_byte-to.ensures.chars

pub returns-clause-bytes : goal.returns-clause-bytes
returns-clause-bytes c =
    let t = slice_text c.args.self.now in
    let pieces = slice_pieces c.args.self.now in
    let law = ends_of_a_part-chars in
    let scalars = cutting-scalars pieces c.len_bytes.ensures.cut.cut in
    let order = from_byte_idx_is_monotone-chars t c.args.start c.args.end c.requires.order in
    let pieces_are = c.between.ensures ∙ ap (λ n. clip n c.end_at_byte-to.result.counts.chars pieces) c.start_at_byte-from.ensures.chars
    ∙ ap (λ n. clip (char_of_byte t c.args.start) n pieces) c.end_at_byte-to.ensures.chars in
    ap (λ ps. encode_utf8_all (text_of ps)) pieces_are
    ∙ ap encode_utf8_all (text-clip (char_of_byte t c.args.start) (char_of_byte t c.args.end) pieces)
    ∙ spelled_between t c.args.start c.args.end order (spelled_at law t c.args.start scalars c.requires.starts) (spelled_at law t c.args.end scalars c.requires.ends)

pub between-requires-clause-chunk : goal.between-requires-clause-chunk
between-requires-clause-chunk c =
    let pieces = slice_pieces c.args.self.now in
    elim c.or.ensures [
      | inl e ↦ subst (λ (k : Chunk). IsChunkOf pieces (chars k.text.now) k.start) (sym e) c.start_at_byte-from.ensures.chunk
      | inr e ↦ subst (λ (k : Chunk). IsChunkOf pieces (chars k.text.now) k.start) (sym e) c.end_at_byte-to.ensures.chunk
    ]

pub between-requires-clause-utf8 : goal.between-requires-clause-utf8
between-requires-clause-utf8 c = elim c.or.ensures [
  | inl e ↦ subst (λ (k : Chunk). IsUtf8 k.text.now) (sym e) c.start_at_byte-from.ensures.utf8
  | inr e ↦ subst (λ (k : Chunk). IsUtf8 k.text.now) (sym e) c.end_at_byte-to.ensures.utf8
]
