use Rattle.std.proofs.Common.{◌≢◌, ◌+◌, ◌-◌, ◌<◌, ℕ, length, get_or, refl, sym, ◌∙◌, arith}
use Rattle.std.specs.Prelude.{encode_utf8_all}
use Rattle.ropey_walk.specs.Slices.{slice_pieces, slice_text}
use Rattle.ropey_walk.proofs.TwoWay.{crosses_on, crosses_back}
use Rattle.ropey_walk.proofs.ByteWalks.{HoldsByte, chunk_at_byte, crosses_in, part_within}
use Rattle.ropey_walk.proofs.iter.bytes.Bytes.step.Goals as goal
use Rattle.ropey_walk.proofs.iter.bytes.Bytes.step.Goals.{After-chunk_near-chunk, After-chunk_near-chunk-then-self-2}

pub overflow_add-byte_idx : goal.overflow_add-byte_idx
overflow_add-byte_idx c =
    let bytes = c.self.inside in
    let held = c.self.invariant in
    omega (arith, part_within (encode_utf8_all (slice_text bytes.slice)) bytes.chunk.now bytes.start held.0, held.1, held.2, held.3)

held_back : (c : After-chunk_near-chunk) → HoldsByte (encode_utf8_all (slice_text c.self.inside.slice)) c.chunk_near-chunk.result.text.now c.chunk_near-chunk.result.start.bytes (c.self.inside.start - 1)
held_back c =
    let bytes = c.self.inside in
    let chunk = c.chunk_near-chunk.result in
    let e = c.chunk_near-chunk.ensures in
    let within = part_within (encode_utf8_all (slice_text bytes.slice)) bytes.chunk.now bytes.start c.self.invariant.0 in
    chunk_at_byte (slice_pieces bytes.slice) (bytes.start - 1) chunk.text.now chunk.start e.utf8 e.stands e.cut (omega (arith, within))

held_on : (c : After-chunk_near-chunk-then-self-2) → HoldsByte (encode_utf8_all (slice_text c.self.inside.slice)) c.chunk_near-chunk-then-self-2.result.text.now c.chunk_near-chunk-then-self-2.result.start.bytes (c.self.inside.start + c.self.inside.at)
held_on c =
    let bytes = c.self.inside in
    let chunk = c.chunk_near-chunk-then-self-2.result in
    let e = c.chunk_near-chunk-then-self-2.ensures in
    let within = part_within (encode_utf8_all (slice_text bytes.slice)) bytes.chunk.now bytes.start c.self.invariant.0 in
    chunk_at_byte (slice_pieces bytes.slice) (bytes.start + bytes.at) chunk.text.now chunk.start e.utf8 e.stands e.cut (omega (arith, within, c.self.invariant.1))

-- ---- a chunk before this one
inside_back : (c : After-chunk_near-chunk) → c.self.inside.start - 1 - c.chunk_near-chunk.result.start.bytes < length c.chunk_near-chunk.result.text.now
inside_back c =
    let bytes = c.self.inside in
    (held_back c).inside (omega (arith, part_within (encode_utf8_all (slice_text bytes.slice)) bytes.chunk.now bytes.start c.self.invariant.0, c.if-self-eq0-2.false))

pub bounds-as_bytes-at : goal.bounds-as_bytes-at
bounds-as_bytes-at c = rw c.as_bytes.ensures.value (inside_back (goal.at.bounds-as_bytes-at c).After-chunk_near-chunk)

pub invariant_of-self : goal.invariant_of-self
invariant_of-self c =
    let at = (goal.at.invariant_of-self c).After-chunk_near-chunk in
    ((held_back at).part, (held_back at).within, c.self.invariant.2, c.self.invariant.3, c.chunk_near-chunk.ensures.near)

pub returns-then-self-eq0 : goal.returns-then-self-eq0
returns-then-self-eq0 c =
    let at = (goal.at.returns-then-self-eq0 c).After-chunk_near-chunk in
    let bytes = c.self.inside in
    let items = encode_utf8_all (slice_text bytes.slice) in
    let start = c.chunk_near-chunk.result.start.bytes in
    let j : ℕ = bytes.start - 1 - start in
    let place : ℕ = start + j in
    let over = crosses_in items c.chunk_near-chunk.result.text.now start j place (bytes.start + bytes.at) (held_back at).part (inside_back at) refl (omega (arith, (held_back at).low, c.if-self-eq0.true, c.if-self-eq0-2.false)) in
    let seen = crosses_back bytes.is_reversed (bytes.start + bytes.at) place items (get_or c.chunk_near-chunk.result.text.now j 0) c.args.self.now c.if-self.true c.self.view_is over in
    rw c.as_bytes.ensures.value (seen.ahead, seen.behind)

-- ---- a chunk after this one
inside_on : (c : After-chunk_near-chunk-then-self-2) → c.self.inside.start + c.self.inside.at - c.chunk_near-chunk-then-self-2.result.start.bytes < length c.chunk_near-chunk-then-self-2.result.text.now
inside_on c =
    let bytes = c.self.inside in
    let within = part_within (encode_utf8_all (slice_text bytes.slice)) bytes.chunk.now bytes.start c.self.invariant.0 in
    let apart : bytes.start + bytes.at ≢ length (encode_utf8_all (slice_text bytes.slice)) = λ e. absurd (c.if-byte_idx-self.false (e ∙ sym c.self.invariant.2)) in
    (held_on c).inside (omega (arith, within, c.self.invariant.1, apart))

pub bounds-as_bytes-at-then-self-2 : goal.bounds-as_bytes-at-then-self-2
bounds-as_bytes-at-then-self-2 c = rw c.as_bytes-then-self-2.ensures.value (inside_on (goal.at.bounds-as_bytes-at-then-self-2 c).After-chunk_near-chunk-then-self-2)

pub invariant_of-self-then-self-2 : goal.invariant_of-self-then-self-2
invariant_of-self-then-self-2 c =
    let at = (goal.at.invariant_of-self-then-self-2 c).After-chunk_near-chunk-then-self-2 in
    ((held_on at).part, omega (arith, inside_on at), c.self.invariant.2, c.self.invariant.3, c.chunk_near-chunk-then-self-2.ensures.near)

pub returns-then-self-2 : goal.returns-then-self-2
returns-then-self-2 c =
    let at = (goal.at.returns-then-self-2 c).After-chunk_near-chunk-then-self-2 in
    let bytes = c.self.inside in
    let items = encode_utf8_all (slice_text bytes.slice) in
    let start = c.chunk_near-chunk-then-self-2.result.start.bytes in
    let j : ℕ = bytes.start + bytes.at - start in
    let place : ℕ = start + (j + 1) in
    let over = crosses_in items c.chunk_near-chunk-then-self-2.result.text.now start j (bytes.start + bytes.at) place (held_on at).part (inside_on at) (omega (arith, (held_on at).low)) (omega (arith, (held_on at).low)) in
    let seen = crosses_on bytes.is_reversed (bytes.start + bytes.at) place items (get_or c.chunk_near-chunk-then-self-2.result.text.now j 0) c.args.self.now c.if-self.false c.self.view_is over in
    rw c.as_bytes-then-self-2.ensures.value (seen.ahead, seen.behind)

-- ---- inside the chunk
pub returns-else-self-eq0 : goal.returns-else-self-eq0
returns-else-self-eq0 c =
    let bytes = c.self.inside in
    let items = encode_utf8_all (slice_text bytes.slice) in
    let j : ℕ = bytes.at - 1 in
    let place : ℕ = bytes.start + j in
    let over = crosses_in items bytes.chunk.now bytes.start j place (bytes.start + bytes.at) c.self.invariant.0 (omega (arith, c.self.invariant.1, c.if-self-eq0.false)) refl (omega (arith, c.if-self-eq0.false)) in
    let seen = crosses_back bytes.is_reversed (bytes.start + bytes.at) place items (get_or bytes.chunk.now j 0) c.args.self.now c.if-self.true c.self.view_is over in
    rw c.as_bytes-then-self.ensures.value (seen.ahead, seen.behind)

pub returns-else-self-2 : goal.returns-else-self-2
returns-else-self-2 c =
    let bytes = c.self.inside in
    let items = encode_utf8_all (slice_text bytes.slice) in
    let place : ℕ = bytes.start + (bytes.at + 1) in
    let inside : bytes.at < length bytes.chunk.now = omega (arith, c.self.invariant.1, c.if-self-2.false) in
    let over = crosses_in items bytes.chunk.now bytes.start bytes.at (bytes.start + bytes.at) place c.self.invariant.0 inside refl (omega arith) in
    let seen = crosses_on bytes.is_reversed (bytes.start + bytes.at) place items (get_or bytes.chunk.now bytes.at 0) c.args.self.now c.if-self.false c.self.view_is over in
    rw c.as_bytes-else-self.ensures.value (seen.ahead, seen.behind)
