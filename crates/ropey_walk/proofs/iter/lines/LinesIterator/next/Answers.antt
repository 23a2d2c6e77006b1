use Rattle.std.proofs.Common.{◌≡◌, ◌+◌, length, refl, ap, sym, ◌∙◌, arith}
use Rattle.std.proofs.lemmas.List.FromFn.{length-map-range_with_len}
use Rattle.ropey_walk.specs.Chunks.{line_breaks}
use Rattle.ropey_walk.specs.Lines.{line_pieces, lines_of}
use Rattle.ropey_walk.specs.Slices.{slice_pieces, slice_text}
use Rattle.ropey_walk.specs.TwoWay.{facing}
use Rattle.ropey_walk.proofs.TwoWay.{Crosses, crosses_on, crosses_back, crosses_mapped, faces_on, none_ahead}
use Rattle.ropey_walk.proofs.iter.lines.LinesIterator.next.Goals as goal
use Rattle.ropey_walk.proofs.iter.lines.LinesIterator.next.Goals.{After-next-self-inside, After-prev-self-inside}

-- ---- forward
pub returns-then-self-2-clause-steps : goal.returns-then-self-2-clause-steps
returns-then-self-2-clause-steps c =
    let pieces = slice_pieces c.self.inside.slice in
    let lines = lines_of pieces in
    let k = c.self.inside.place.line_idx in
    let seen = faces_on c.self.inside.is_reversed k lines c.args.self.now c.if-self.false c.self.view_is in
    let all : length lines ≡ line_breaks (slice_text c.self.inside.slice) + 1 = length-map-range_with_len (line_pieces pieces) 0 (line_breaks (slice_text c.self.inside.slice) + 1) in
    (ap (λ w. w.ahead) seen ∙ none_ahead lines k (c.if-self-2.true ∙ c.self.invariant.3 ∙ sym all), refl)

seen_next : (c : After-next-self-inside) → Crosses (line_pieces (slice_pieces c.self.inside.slice) c.self.inside.place.line_idx) c.args.self.now (facing c.self.inside.is_reversed c.next-self-inside.result.line_idx (lines_of (slice_pieces c.self.inside.slice)))
seen_next c =
    let pieces = slice_pieces c.self.inside.slice in
    let k = c.self.inside.place.line_idx in
    let over = crosses_mapped (line_pieces pieces) (line_breaks (slice_text c.self.inside.slice) + 1) k c.next-self-inside.result.line_idx (omega (arith, c.self.invariant.2, c.self.invariant.3, c.if-self-2.false)) c.next-self-inside.ensures.line in
    crosses_on c.self.inside.is_reversed k c.next-self-inside.result.line_idx (lines_of pieces) (line_pieces pieces k) c.args.self.now c.if-self.false c.self.view_is over

pub returns-else-self-2-clause-steps : goal.returns-else-self-2-clause-steps
returns-else-self-2-clause-steps c =
    let over = seen_next (goal.at.returns-else-self-2-clause-steps c).After-next-self-inside in
    rw c.line_to-else-self.ensures (over.ahead, over.behind)

pub returns-else-self-2-clause-goes : goal.returns-else-self-2-clause-goes
returns-else-self-2-clause-goes c =
    let fewer = ap length (seen_next (goal.at.returns-else-self-2-clause-goes c).After-next-self-inside).ahead in
    record { on = λ _. (tt, tt, omega (arith, fewer)); keeps = tt; rests = λ _. tt }

-- ---- backward
seen_prev : (c : After-prev-self-inside) → Crosses (line_pieces (slice_pieces c.self.inside.slice) c.prev-self-inside.result.line_idx) c.args.self.now (facing c.self.inside.is_reversed c.prev-self-inside.result.line_idx (lines_of (slice_pieces c.self.inside.slice)))
seen_prev c =
    let pieces = slice_pieces c.self.inside.slice in
    let k = c.self.inside.place.line_idx in
    let i = c.prev-self-inside.result.line_idx in
    let over = crosses_mapped (line_pieces pieces) (line_breaks (slice_text c.self.inside.slice) + 1) i k (omega (arith, c.self.invariant.2, c.self.invariant.3, c.prev-self-inside.ensures.line)) (sym c.prev-self-inside.ensures.line) in
    crosses_back c.self.inside.is_reversed k i (lines_of pieces) (line_pieces pieces i) c.args.self.now c.if-self.true c.self.view_is over

pub returns-else-self-eq0-clause-steps : goal.returns-else-self-eq0-clause-steps
returns-else-self-eq0-clause-steps c =
    let over = seen_prev (goal.at.returns-else-self-eq0-clause-steps c).After-prev-self-inside in
    rw c.line_to.ensures (over.ahead, over.behind)

pub returns-else-self-eq0-clause-goes : goal.returns-else-self-eq0-clause-goes
returns-else-self-eq0-clause-goes c =
    let fewer = ap length (seen_prev (goal.at.returns-else-self-eq0-clause-goes c).After-prev-self-inside).ahead in
    record { on = λ _. (tt, tt, omega (arith, fewer)); keeps = tt; rests = λ _. tt }
