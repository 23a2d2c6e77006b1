use Rattle.std.proofs.Common.{◌≢◌, ◌+◌, ◌-◌, length, refl, sym, ◌∙◌, arith}
use Rattle.ropey_walk.specs.Slices.{slice_text}
use Rattle.ropey_walk.proofs.TwoWay.{crosses_on, crosses_back}
use Rattle.ropey_walk.proofs.CharWalks.{char_passed, char_unpassed, char_crossed}
use Rattle.ropey_walk.proofs.iter.chars.CharsIterator.next.Goals as goal

-- ---- backward
pub invariant_of-self : goal.invariant_of-self
invariant_of-self c =
    let chars = c.self.inside in
    let place = c.place_to_go_back-place.result in
    let read = c.read_back-read.result in
    let e = c.read_back-read.ensures in
    (char_unpassed (slice_text chars.slice) place.chunk.now chars.char_idx read.at place.at read.character c.place_to_go_back-place.ensures.place e.boundary e.reads, omega (arith, c.self.invariant.1), c.self.invariant.2)

pub returns-else-self-eq0-clause-steps : goal.returns-else-self-eq0-clause-steps
returns-else-self-eq0-clause-steps c =
    let chars = c.self.inside in
    let text = slice_text chars.slice in
    let place = c.place_to_go_back-place.result in
    let read = c.read_back-read.result in
    let e = c.read_back-read.ensures in
    let here = char_unpassed text place.chunk.now chars.char_idx read.at place.at read.character c.place_to_go_back-place.ensures.place e.boundary e.reads in
    let over = char_crossed text place.chunk.now (chars.char_idx - 1) chars.char_idx read.at place.at read.character here c.place_to_go_back-place.ensures.place.boundary e.reads (omega (arith, c.if-self-eq0.false)) in
    let seen = crosses_back chars.is_reversed chars.char_idx (chars.char_idx - 1) text read.character c.args.self.now c.if-self.true c.self.view_is over in
    (seen.ahead, seen.behind)

-- ---- forward
pub invariant_of-self-else-self : goal.invariant_of-self-else-self
invariant_of-self-else-self c =
    let chars = c.self.inside in
    let place = c.place_to_go_on-place.result in
    let read = c.read_on-read.result in
    let e = c.read_on-read.ensures in
    let apart : chars.char_idx ≢ length (slice_text chars.slice) = λ same. absurd (c.if-self-2.false (same ∙ sym c.self.invariant.2)) in
    (char_passed (slice_text chars.slice) place.chunk.now chars.char_idx place.at read.at read.character c.place_to_go_on-place.ensures.place e.boundary e.reads, omega (arith, c.self.invariant.1, apart), c.self.invariant.2)

pub returns-else-self-2-clause-steps : goal.returns-else-self-2-clause-steps
returns-else-self-2-clause-steps c =
    let chars = c.self.inside in
    let text = slice_text chars.slice in
    let place = c.place_to_go_on-place.result in
    let read = c.read_on-read.result in
    let e = c.read_on-read.ensures in
    let over = char_crossed text place.chunk.now chars.char_idx (chars.char_idx + 1) place.at read.at read.character c.place_to_go_on-place.ensures.place e.boundary e.reads refl in
    let seen = crosses_on chars.is_reversed chars.char_idx (chars.char_idx + 1) text read.character c.args.self.now c.if-self.false c.self.view_is over in
    (seen.ahead, seen.behind)
