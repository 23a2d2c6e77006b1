use Rattle.std.proofs.Common.{chars, sym, subst}
use Rattle.ropey.specs.Slices.{slice_pieces, slice_text}
use Rattle.rope_search_reports.specs.Drafts.{IsRestOfChunk}
use Rattle.rope_search_reports.proofs.PlaceLemmas.{rope-scalars, split_at}
use Rattle.rope_search_reports.proofs.WalkLemmas.{shown-rest}
use Rattle.rope_search_reports.proofs.walk.chunk_from.Goals as goal

pub overflow_sub-byte_idx : goal.overflow_sub-byte_idx
overflow_sub-byte_idx c =
    let e = c.chunk_at_byte-start.ensures in
    let s = split_at (slice_text c.args.text.now) c.args.byte_idx (rope-scalars (slice_pieces c.args.text.now) e.cut.cut) c.requires in
    (shown-rest (slice_pieces c.args.text.now) _ c.args.byte_idx _ _ _ e.cut.cut e.utf8 e.chunk s.front s.back s.parts s.place_is).2

pub range_from-requires : goal.range_from-requires
range_from-requires c = λ _.
    let e = c.chunk_at_byte-start.ensures in
    let s = split_at (slice_text c.args.text.now) c.args.byte_idx (rope-scalars (slice_pieces c.args.text.now) e.cut.cut) c.requires in
    (shown-rest (slice_pieces c.args.text.now) _ c.args.byte_idx _ _ _ e.cut.cut e.utf8 e.chunk s.front s.back s.parts s.place_is).0

pub returns-clause-rest : goal.returns-clause-rest
returns-clause-rest c = λ before behind parts place.
    let e = c.chunk_at_byte-start.ensures in
    subst (λ bs. IsRestOfChunk behind (chars bs)) (sym c.range_from.ensures.value)
    (shown-rest (slice_pieces c.args.text.now) _ c.args.byte_idx _ _ _ e.cut.cut e.utf8 e.chunk before behind parts place).1
