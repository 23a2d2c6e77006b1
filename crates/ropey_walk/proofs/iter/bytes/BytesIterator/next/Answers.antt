use Rattle.std.proofs.Common.{◌+◌, ◌-◌, ℕ, get_or, refl, arith}
use Rattle.std.specs.Prelude.{encode_utf8_all}
use Rattle.ropey_walk.specs.Slices.{slice_text}
use Rattle.ropey_walk.proofs.TwoWay.{crosses_on, crosses_back}
use Rattle.ropey_walk.proofs.ByteWalks.{crosses_in}
use Rattle.ropey_walk.proofs.iter.bytes.BytesIterator.next.Goals as goal

pub returns-then-self-gt0-clause-steps : goal.returns-then-self-gt0-clause-steps
returns-then-self-gt0-clause-steps c =
    let bytes = c.self.inside in
    let items = encode_utf8_all (slice_text bytes.slice) in
    let j : ℕ = bytes.at - 1 in
    let place : ℕ = bytes.start + j in
    let over = crosses_in items bytes.chunk.now bytes.start j place (bytes.start + bytes.at) c.self.invariant.0 (omega (arith, c.self.invariant.1, c.if-self-gt0.true)) refl (omega (arith, c.if-self-gt0.true)) in
    let seen = crosses_back bytes.is_reversed (bytes.start + bytes.at) place items (get_or bytes.chunk.now j 0) c.args.self.now c.if-self.true c.self.view_is over in
    rw c.as_bytes.ensures.value (seen.ahead, seen.behind)

pub returns-then-self-2-clause-steps : goal.returns-then-self-2-clause-steps
returns-then-self-2-clause-steps c =
    let bytes = c.self.inside in
    let items = encode_utf8_all (slice_text bytes.slice) in
    let place : ℕ = bytes.start + (bytes.at + 1) in
    let over = crosses_in items bytes.chunk.now bytes.start bytes.at (bytes.start + bytes.at) place c.self.invariant.0 (omega (arith, c.if-self-2.true)) refl (omega arith) in
    let seen = crosses_on bytes.is_reversed (bytes.start + bytes.at) place items (get_or bytes.chunk.now bytes.at 0) c.args.self.now c.if-self.false c.self.view_is over in
    rw c.as_bytes-then-self-2.ensures.value (seen.ahead, seen.behind)
