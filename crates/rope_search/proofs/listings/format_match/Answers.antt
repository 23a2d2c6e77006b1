use Rattle.std.proofs.Common.{◌≡◌, ◌+◌, ◌-◌, ◌^◌, ◌<◌, ◌≤◌, ℕ, List, ◌∷◌, ◌++◌, refl, arith, append_assoc, [], length, drop, slice_set, length-set}
use Rattle.std.specs.Prelude.{decimal}
use Rattle.std.proofs.lemmas.Fmt.{length-decimal-le}
use Rattle.std.proofs.lemmas.List.{drop-set, drop_all}
use Rattle.rope_search.specs.Shows.{shown_match}
use Rattle.rope_search.proofs.listings.format_match.Goals as goal

-- a number has at most twenty digits
short : (n : ℕ) → n < 2 ^ 64 → length (decimal n) ≤ 20
short n fits = length-decimal-le 20 n (omega arith) (omega arith) fits

pub write_digits-end-requires : goal.write_digits-end-requires
write_digits-end-requires c = (omega (arith, short c.args.span.1 (omega (arith, c.well_formed))), omega (arith, length-set c.args.shown.now 64 10))

pub overflow_sub-shown-2 : goal.overflow_sub-shown-2
overflow_sub-shown-2 c = omega (arith, short c.args.span.1 (omega (arith, c.well_formed)))

pub overflow_sub-end : goal.overflow_sub-end
overflow_sub-end c = omega (arith, short c.args.span.1 (omega (arith, c.well_formed)))

pub write_digits-start-requires : goal.write_digits-start-requires
write_digits-start-requires c = (
  omega (arith, short c.args.span.1 (omega (arith, c.well_formed)), short c.args.span.0 (omega (arith, c.well_formed))),
  omega (arith, length-set c.write_digits-end.new.buf (c.write_digits-end.result - 1) 32),
)

pub overflow_sub-shown-3 : goal.overflow_sub-shown-3
overflow_sub-shown-3 c = omega (arith, short c.args.span.1 (omega (arith, c.well_formed)), short c.args.span.0 (omega (arith, c.well_formed)))

pub overflow_sub-start : goal.overflow_sub-start
overflow_sub-start c = omega (arith, short c.args.span.1 (omega (arith, c.well_formed)), short c.args.span.0 (omega (arith, c.well_formed)))

pub write_digits-number-requires : goal.write_digits-number-requires
write_digits-number-requires c = (
  omega (arith, short c.args.span.1 (omega (arith, c.well_formed)), short c.args.span.0 (omega (arith, c.well_formed)), short c.args.line c.ranges.line.fits),
  omega (arith, length-set c.write_digits-start.new.buf (c.write_digits-start.result - 1) 32),
)

pub overflow_sub-shown-4 : goal.overflow_sub-shown-4
overflow_sub-shown-4 c =
    omega (arith, short c.args.span.1 (omega (arith, c.well_formed)), short c.args.span.0 (omega (arith, c.well_formed)), short c.args.line c.ranges.line.fits)

pub overflow_sub-shown-5 : goal.overflow_sub-shown-5
overflow_sub-shown-5 c =
    omega (arith, short c.args.span.1 (omega (arith, c.well_formed)), short c.args.span.0 (omega (arith, c.well_formed)), short c.args.line c.ranges.line.fits)

pub overflow_sub-result : goal.overflow_sub-result
overflow_sub-result c =
    omega (arith, short c.args.span.1 (omega (arith, c.well_formed)), short c.args.span.0 (omega (arith, c.well_formed)), short c.args.line c.ranges.line.fits)

-- what begins at a byte that was set before an offset
behind : (bytes : List ℕ) (i byte : ℕ) → 0 < i → i ≤ length bytes → drop (i - 1) (slice_set bytes (i - 1) byte) ≡ byte ∷ drop i bytes
behind bytes i byte some inside = let e : i - 1 + 1 ≡ i = omega arith in rw (drop-set bytes (i - 1) byte (omega arith), e) refl

-- the parts of a match, in order
parts : (line : ℕ) (span : ℕ × ℕ) → 109 ∷ 32 ∷ (decimal line ++ 32 ∷ (decimal span.0 ++ 32 ∷ (decimal span.1 ++ 10 ∷ []))) ≡ shown_match line span
parts line span =
    rw (append_assoc, append_assoc, append_assoc, append_assoc, append_assoc) refl

pub returns-clause-written : goal.returns-clause-written
returns-clause-written c =
    let e = c.write_digits-end in
    let s = c.write_digits-start in
    let n = c.write_digits-number in
    let ends = short c.args.span.1 (omega (arith, c.well_formed)) in
    let starts = short c.args.span.0 (omega (arith, c.well_formed)) in
    let lines = short c.args.line c.ranges.line.fits in
    let two : n.result - 2 + 1 ≡ n.result - 1 = omega arith in
    rw (
      drop-set (slice_set n.new.buf (n.result - 1) 32) (n.result - 2) 109 (omega (arith, length-set n.new.buf (n.result - 1) 32)),
      two,
      behind n.new.buf n.result 32 (omega arith) (omega arith),
      n.ensures.written,
      behind s.new.buf s.result 32 (omega arith) (omega arith),
      s.ensures.written,
      behind e.new.buf e.result 32 (omega arith) (omega arith),
      e.ensures.written,
      drop-set c.args.shown.now 64 10 (omega arith),
      drop_all 65 c.args.shown.now (omega arith),
    ) (parts c.args.line c.args.span)
