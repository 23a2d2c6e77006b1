use Rattle.std.proofs.Common.{ap, ◌∙◌, inl, inr, sym, subst}
use Rattle.std.specs.Str.{chars, IsUtf8}
use Rattle.ropey_walk.specs.Clips.{clip}
use Rattle.ropey_walk.specs.Slices.{slice_pieces}
use Rattle.ropey_walk.specs.Standing.{IsChunkOf}
use Rattle.ropey_walk.specs.declared.slice.Chunk.{Chunk}
use Rattle.ropey_walk.proofs.slice.RopeSlice.chars_between.Goals as goal

pub returns : goal.returns
returns c =
    let pieces = slice_pieces c.args.self.now in
    c.between.ensures ∙ ap (λ n. clip n c.end_at_char-to.result.counts.chars pieces) c.start_at_char-from.ensures.chars
    ∙ ap (λ n. clip c.args.start n pieces) c.end_at_char-to.ensures.chars

pub between-requires-clause-chunk : goal.between-requires-clause-chunk
between-requires-clause-chunk c =
    let pieces = slice_pieces c.args.self.now in
    elim c.or.ensures [
      | inl e ↦ subst (λ (k : Chunk). IsChunkOf pieces (chars k.text.now) k.start) (sym e) c.end_at_char-to.ensures.chunk
      | inr e ↦ subst (λ (k : Chunk). IsChunkOf pieces (chars k.text.now) k.start) (sym e) c.start_at_char-from.ensures.chunk
    ]

pub between-requires-clause-utf8 : goal.between-requires-clause-utf8
between-requires-clause-utf8 c = elim c.or.ensures [
  | inl e ↦ subst (λ (k : Chunk). IsUtf8 k.text.now) (sym e) c.end_at_char-to.ensures.utf8
  | inr e ↦ subst (λ (k : Chunk). IsUtf8 k.text.now) (sym e) c.start_at_char-from.ensures.utf8
]
