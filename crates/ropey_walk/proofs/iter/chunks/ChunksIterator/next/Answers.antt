use Rattle.std.proofs.Common.{◌≢◌, ◌+◌, length, refl, ap, sym, ◌∙◌, arith}
use Rattle.std.specs.Str.{chars}
use Rattle.std.proofs.lemmas.Str.{encodes-chars}
use Rattle.str_indices.specs.Text.{byte_len}
use Rattle.ropey_walk.specs.Chunks.{text_of}
use Rattle.ropey_walk.specs.Slices.{slice_pieces}
use Rattle.ropey_walk.specs.TwoWay.{facing}
use Rattle.ropey_walk.specs.Iter.{pieces_before}
use Rattle.ropey_walk.proofs.Cuts.{text_fits}
use Rattle.ropey_walk.proofs.TwoWay.{Crosses, crosses_on, crosses_back, faces_on}
use Rattle.ropey_walk.proofs.ChunkWalks.{CrossesChunk, next_chunk, chunk_before, none_ahead}
use Rattle.ropey_walk.proofs.iter.chunks.ChunksIterator.next.Goals as goal
use Rattle.ropey_walk.proofs.iter.chunks.ChunksIterator.next.Goals.{After-chunk_near-chunk, After-chunk_near-chunk-else-self}

-- ---- forward
pub returns-then-self-2-clause-steps : goal.returns-then-self-2-clause-steps
returns-then-self-2-clause-steps c =
    let pieces = slice_pieces c.self.inside.slice in
    let byte = c.self.inside.byte_idx in
    let seen = faces_on c.self.inside.is_reversed (pieces_before byte pieces) pieces c.args.self.now c.if-self.false c.self.view_is in
    let none = ap (λ w. w.ahead) seen ∙ none_ahead pieces byte c.self.invariant.0 c.self.invariant.2.cut (c.if-self-2.true ∙ c.self.invariant.1) in
    ((none, refl), tt)

over_next : (c : After-chunk_near-chunk-else-self) → CrossesChunk (slice_pieces c.self.inside.slice) c.self.inside.byte_idx (c.self.inside.byte_idx + length c.chunk_near-chunk-else-self.result.text.now) (chars c.chunk_near-chunk-else-self.result.text.now)
over_next c =
    let e = c.chunk_near-chunk-else-self.ensures in
    let chunk = c.chunk_near-chunk-else-self.result in
    let apart : c.self.inside.byte_idx ≢ byte_len (text_of (slice_pieces c.self.inside.slice)) = λ e. absurd (c.if-self-2.false (e ∙ sym c.self.invariant.1)) in
    next_chunk (slice_pieces c.self.inside.slice) c.self.inside.byte_idx (c.self.inside.byte_idx + length chunk.text.now) (chars chunk.text.now) chunk.start c.self.invariant.0 e.cut.cut apart e.stands (ap (λ n. c.self.inside.byte_idx + n) (sym (ap length (encodes-chars chunk.text.now e.utf8))))

seen_next : (c : After-chunk_near-chunk-else-self) → Crosses (chars c.chunk_near-chunk-else-self.result.text.now) c.args.self.now (facing c.self.inside.is_reversed (pieces_before (c.self.inside.byte_idx + length c.chunk_near-chunk-else-self.result.text.now) (slice_pieces c.self.inside.slice)) (slice_pieces c.self.inside.slice))
seen_next c =
    let pieces = slice_pieces c.self.inside.slice in
    let end = c.self.inside.byte_idx + length c.chunk_near-chunk-else-self.result.text.now in
    crosses_on c.self.inside.is_reversed (pieces_before c.self.inside.byte_idx pieces) (pieces_before end pieces) pieces (chars c.chunk_near-chunk-else-self.result.text.now) c.args.self.now c.if-self.false c.self.view_is (over_next c).over

pub overflow_add-self : goal.overflow_add-self
overflow_add-self c =
    let at = (goal.at.overflow_add-self c).After-chunk_near-chunk-else-self in
    omega (arith, (over_next at).within, text_fits (slice_pieces c.self.inside.slice) c.chunk_near-chunk-else-self.ensures.cut)

pub invariant_of-self-else-self : goal.invariant_of-self-else-self
invariant_of-self-else-self c =
    let at = (goal.at.invariant_of-self-else-self c).After-chunk_near-chunk-else-self in
    ((over_next at).ends, c.self.invariant.1, c.self.invariant.2, c.chunk_near-chunk-else-self.ensures.near)

pub returns-else-self-2-clause-steps : goal.returns-else-self-2-clause-steps
returns-else-self-2-clause-steps c =
    let over = seen_next (goal.at.returns-else-self-2-clause-steps c).After-chunk_near-chunk-else-self in
    ((over.ahead, over.behind), c.chunk_near-chunk-else-self.ensures.utf8)

pub returns-else-self-2-clause-goes : goal.returns-else-self-2-clause-goes
returns-else-self-2-clause-goes c =
    let fewer = ap length (seen_next (goal.at.returns-else-self-2-clause-goes c).After-chunk_near-chunk-else-self).ahead in
    record { on = λ _. (tt, tt, omega (arith, fewer)); keeps = tt; rests = λ _. tt }

-- ---- backward
over_prev : (c : After-chunk_near-chunk) → CrossesChunk (slice_pieces c.self.inside.slice) c.chunk_near-chunk.result.start.bytes c.self.inside.byte_idx (chars c.chunk_near-chunk.result.text.now)
over_prev c =
    let e = c.chunk_near-chunk.ensures in
    let chunk = c.chunk_near-chunk.result in
    chunk_before (slice_pieces c.self.inside.slice) c.self.inside.byte_idx (chars chunk.text.now) chunk.start c.self.invariant.0 e.cut.cut c.if-self-eq0.false e.stands

seen_prev : (c : After-chunk_near-chunk) → Crosses (chars c.chunk_near-chunk.result.text.now) c.args.self.now (facing c.self.inside.is_reversed (pieces_before c.chunk_near-chunk.result.start.bytes (slice_pieces c.self.inside.slice)) (slice_pieces c.self.inside.slice))
seen_prev c =
    let pieces = slice_pieces c.self.inside.slice in
    crosses_back c.self.inside.is_reversed (pieces_before c.self.inside.byte_idx pieces) (pieces_before c.chunk_near-chunk.result.start.bytes pieces) pieces (chars c.chunk_near-chunk.result.text.now) c.args.self.now c.if-self.true c.self.view_is (over_prev c).over

pub returns-else-self-eq0-clause-steps : goal.returns-else-self-eq0-clause-steps
returns-else-self-eq0-clause-steps c =
    let over = seen_prev (goal.at.returns-else-self-eq0-clause-steps c).After-chunk_near-chunk in
    ((over.ahead, over.behind), c.chunk_near-chunk.ensures.utf8)

pub returns-else-self-eq0-clause-goes : goal.returns-else-self-eq0-clause-goes
returns-else-self-eq0-clause-goes c =
    let fewer = ap length (seen_prev (goal.at.returns-else-self-eq0-clause-goes c).After-chunk_near-chunk).ahead in
    record { on = λ _. (tt, tt, omega (arith, fewer)); keeps = tt; rests = λ _. tt }

pub invariant_of-self : goal.invariant_of-self
invariant_of-self c =
    let at = (goal.at.invariant_of-self c).After-chunk_near-chunk in
    ((over_prev at).starts, c.self.invariant.1, c.self.invariant.2, c.chunk_near-chunk.ensures.near)
