use Rattle.std.proofs.Common.{◌+◌, ◌≤◌, length, ap, sym, ◌∙◌, subst, arith}
use Rattle.std.specs.Str.{chars}
use Rattle.std.proofs.lemmas.Str.{encodes-chars, is_utf8-from_IsUtf8}
use Rattle.str_indices.specs.Text.{byte_len}
use Rattle.ropey_tree.specs.declared.counts.By.TheVariants.{Bytes}
use Rattle.ropey_walk.specs.Chunks.{text_of, lone_piece}
use Rattle.ropey_walk.specs.Clips.{clip}
use Rattle.ropey_walk.specs.Slices.{slice_pieces, slice_text}
use Rattle.ropey_walk.proofs.ChunkParts.{chunk_fits, in_piece, piece_parts, piece_text, piece_short}
use Rattle.ropey_walk.proofs.Cuts.{text_fits}
use Rattle.ropey_walk.proofs.Reaching.{IsPart, sum-fits}
use Rattle.ropey_walk.proofs.BreakLaws.{breaks_of_parts}
use Rattle.ropey_walk.proofs.slice.RopeSlice.part_of_chunk.Goals as goal
use Rattle.ropey_walk.proofs.slice.RopeSlice.part_of_chunk.Goals.{After-saturating_sub}

pub overflow_add-end : goal.overflow_add-end
overflow_add-end c =
    let pieces = slice_pieces c.args.self.now in
    let part : IsPart (slice_text c.args.self.now) c.args.start c.args.len = record { within = c.requires.within; starts = c.requires.starts; counted = c.requires.counted } in
    omega (arith, sum-fits breaks_of_parts Bytes (text_of pieces) c.args.start c.args.len part (text_fits pieces c.len_bytes.ensures.cut))

pub overflow_add-chunk : goal.overflow_add-chunk
overflow_add-chunk c =
    let chunk = c.args.chunk.now in
    omega (
      arith,
      chunk_fits (slice_pieces c.args.self.now) c.len_bytes.ensures.cut (chars chunk.text.now) chunk.start c.requires.chunk,
      ap length (encodes-chars chunk.text.now c.requires.utf8),
    )

high : (c : After-saturating_sub) → c.args.start.bytes + c.args.len.bytes ≤ c.args.chunk.now.start.bytes + byte_len (chars c.args.chunk.now.text.now)
high c = omega (arith, c.if-end-chunk.false, ap length (encodes-chars c.args.chunk.now.text.now c.requires.utf8))

pub invariant_of-result : goal.invariant_of-result
invariant_of-result c =
    let at = (goal.at.invariant_of-result c).After-saturating_sub in
    let pieces = slice_pieces c.args.self.now in
    let chunk = c.args.chunk.now in
    let text = c.len_bytes.ensures.cut in
    let part : IsPart (slice_text c.args.self.now) c.args.start c.args.len = record { within = c.requires.within; starts = c.requires.starts; counted = c.requires.counted } in
    let inner = in_piece breaks_of_parts pieces text (chars chunk.text.now) chunk.start c.requires.chunk c.args.start c.args.len part c.requires.some c.if-start-chunk.false (high at) in
    let here = subst (λ (n : _). IsPart (text_of (lone_piece (chars chunk.text.now))) n c.args.len) (sym c.saturating_sub.ensures) inner in
    let alone = piece_text breaks_of_parts pieces text (chars chunk.text.now) chunk.start c.requires.chunk c.args.start c.args.len part c.requires.some c.if-start-chunk.false (high at) in
    let short = piece_short breaks_of_parts pieces text (chars chunk.text.now) chunk.start c.requires.chunk c.args.start c.args.len part c.requires.some c.if-start-chunk.false (high at) in
    record {
      within = here.within;
      starts = here.starts;
      counted = here.counted;
      fits = text_fits (lone_piece (chars chunk.text.now)) alone;
      utf8 = is_utf8-from_IsUtf8 chunk.text.now c.requires.utf8;
      short = omega (arith, short, ap length (encodes-chars chunk.text.now c.requires.utf8));
    }

pub returns : goal.returns
returns c =
    let at = (goal.at.returns c).After-saturating_sub in
    let pieces = slice_pieces c.args.self.now in
    let chunk = c.args.chunk.now in
    let part : IsPart (slice_text c.args.self.now) c.args.start c.args.len = record { within = c.requires.within; starts = c.requires.starts; counted = c.requires.counted } in
    ap (λ n. clip n.chars (n.chars + c.args.len.chars) (lone_piece (chars chunk.text.now))) c.saturating_sub.ensures
    ∙ piece_parts breaks_of_parts pieces c.len_bytes.ensures.cut (chars chunk.text.now) chunk.start c.requires.chunk c.args.start c.args.len part c.requires.some c.if-start-chunk.false (high at)
