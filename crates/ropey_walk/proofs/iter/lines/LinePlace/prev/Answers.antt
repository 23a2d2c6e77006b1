use Rattle.std.proofs.Common.{◌≡◌, ◌+◌, ◌-◌, ◌<◌, length, refl, ap, ◌∙◌, arith}
use Rattle.std.specs.Str.{chars}
use Rattle.str_indices.specs.Text.{units}
use Rattle.ropey_walk.specs.Slices.{slice_text}
use Rattle.ropey_walk.proofs.LineWalks.{order, boundary_back, one_byte_back, bytes_enough, chars_enough, units_enough, line_unpassed}
use Rattle.ropey_walk.proofs.BreakLaws.{line_starts}
use Rattle.ropey_walk.proofs.iter.lines.LinePlace.prev.Goals as goal
use Rattle.ropey_walk.proofs.iter.lines.LinePlace.prev.Goals.{After-to_byte_idx-line_start}

next : (c : After-to_byte_idx-line_start) → c.args.self.line_idx - 1 + 1 ≡ c.args.self.line_idx
next c = omega (arith, c.requires.some)

behind : (c : After-to_byte_idx-line_start) → c.args.self.place.start.breaks < c.args.self.line_idx - 1
behind c = omega (arith, c.if-line_idx-start.false)

pub range-requires-clause-start_le_end : goal.range-requires-clause-start_le_end
range-requires-clause-start_le_end c =
    let at = (goal.at.range-requires-clause-start_le_end c).After-to_byte_idx-line_start in
    order line_starts (slice_text c.args.slice.now) c.args.self c.requires.here (c.args.self.line_idx - 1) c.to_byte_idx-line_start.result (next at) c.requires.within (behind at) c.to_byte_idx-line_start.ensures

pub range-requires-clause-start_boundary : goal.range-requires-clause-start_boundary
range-requires-clause-start_boundary c =
    let at = (goal.at.range-requires-clause-start_boundary c).After-to_byte_idx-line_start in
    let boundary = boundary_back line_starts (slice_text c.args.slice.now) c.args.self c.requires.here (c.args.self.line_idx - 1) c.to_byte_idx-line_start.result (next at) c.requires.within (behind at) c.to_byte_idx-line_start.ensures in
    λ _. boundary

pub overflow_sub-result : goal.overflow_sub-result
overflow_sub-result c =
    let at = (goal.at.overflow_sub-result c).After-to_byte_idx-line_start in
    order line_starts (slice_text c.args.slice.now) c.args.self c.requires.here (c.args.self.line_idx - 1) c.to_byte_idx-line_start.result (next at) c.requires.within (behind at) c.to_byte_idx-line_start.ensures

pub overflow_sub-result-2 : goal.overflow_sub-result-2
overflow_sub-result-2 c =
    let at = (goal.at.overflow_sub-result-2 c).After-to_byte_idx-line_start in
    bytes_enough line_starts (slice_text c.args.slice.now) c.args.self c.requires.here (c.args.self.line_idx - 1) c.to_byte_idx-line_start.result (next at) c.requires.within (behind at) c.to_byte_idx-line_start.ensures
    c.range.result.now c.range.ensures.value (length (chars c.range.result.now)) (units (chars c.range.result.now)) refl refl

pub chars_and_units-chars-requires : goal.chars_and_units-chars-requires
chars_and_units-chars-requires c =
    let at = (goal.at.chars_and_units-chars-requires c).After-to_byte_idx-line_start in
    let width = one_byte_back line_starts (slice_text c.args.slice.now) c.args.self c.requires.here (c.args.self.line_idx - 1) c.to_byte_idx-line_start.result (next at) c.requires.within (behind at) c.to_byte_idx-line_start.ensures in
    λ is. ap (λ bs. length (chars bs)) c.range.ensures.value ∙ omega (arith, width is, c.range.ensures.len)

pub overflow_sub-result-3 : goal.overflow_sub-result-3
overflow_sub-result-3 c =
    let at = (goal.at.overflow_sub-result-3 c).After-to_byte_idx-line_start in
    let told = c.chars_and_units-chars in
    chars_enough line_starts (slice_text c.args.slice.now) c.args.self c.requires.here (c.args.self.line_idx - 1) c.to_byte_idx-line_start.result (next at) c.requires.within (behind at) c.to_byte_idx-line_start.ensures
    c.range.result.now c.range.ensures.value told.result.0 told.result.1 told.ensures.chars told.ensures.units

pub overflow_sub-result-4 : goal.overflow_sub-result-4
overflow_sub-result-4 c =
    let at = (goal.at.overflow_sub-result-4 c).After-to_byte_idx-line_start in
    let told = c.chars_and_units-chars in
    units_enough line_starts (slice_text c.args.slice.now) c.args.self c.requires.here (c.args.self.line_idx - 1) c.to_byte_idx-line_start.result (next at) c.requires.within (behind at) c.to_byte_idx-line_start.ensures
    c.range.result.now c.range.ensures.value told.result.0 told.result.1 told.ensures.chars told.ensures.units

pub returns-clause-place : goal.returns-clause-place
returns-clause-place c =
    let at = (goal.at.returns-clause-place c).After-to_byte_idx-line_start in
    let told = c.chars_and_units-chars in
    line_unpassed line_starts (slice_text c.args.slice.now) c.args.self c.requires.here (c.args.self.line_idx - 1) c.to_byte_idx-line_start.result (next at) c.requires.within (behind at) c.to_byte_idx-line_start.ensures
    c.range.result.now c.range.ensures.value told.result.0 told.result.1 told.ensures.chars told.ensures.units _
