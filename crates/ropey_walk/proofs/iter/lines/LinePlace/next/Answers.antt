use Rattle.std.proofs.Common.{◌≡◌, ◌-◌, List, ℕ, length, take, drop, refl, ap, sym, ◌∙◌, subst, arith}
use Rattle.std.specs.Str.{chars}
use Rattle.str_indices.specs.Text.{units}
use Rattle.str_indices.specs.FirstBreak.{IsFirstBreak}
use Rattle.ropey_tree.specs.declared.counts.By.TheVariants.{Bytes, Chars, Units}
use Rattle.ropey_walk.specs.Chunks.{is_break}
use Rattle.ropey_walk.specs.Slices.{slice_text}
use Rattle.ropey_walk.proofs.LineWalks.{lines_fit, one_byte_on, sums_fit, line_passed}
use Rattle.ropey_walk.proofs.BreakLaws.{line_starts}
use Rattle.ropey_walk.proofs.iter.lines.LinePlace.next.Goals as goal
use Rattle.ropey_walk.proofs.iter.lines.LinePlace.next.Goals.{After-range}

pub overflow_add-line_idx : goal.overflow_add-line_idx
overflow_add-line_idx c = omega (arith, c.requires.some, lines_fit line_starts (slice_text c.args.slice.now) c.args.self c.requires.here)

first : (c : After-range) → IsFirstBreak is_break (drop c.args.self.place.at c.args.self.place.text.now) c.in-Some.found.start c.in-Some.found.end
first c = subst (λ (bs : List ℕ). IsFirstBreak is_break bs c.in-Some.found.start c.in-Some.found.end) c.range_from-rest.ensures.value c.in-Some.ensures.first

line_is : (c : After-range) → c.range.result.now ≡ take c.in-Some.found.end (drop c.args.self.place.at c.args.self.place.text.now)
line_is c =
    let same : c.in-Some.found.end - 0 ≡ c.in-Some.found.end = omega arith in
    c.range.ensures.value ∙ ap (λ n. take n c.range_from-rest.result.now) same ∙ ap (take c.in-Some.found.end) c.range_from-rest.ensures.value

chars_are : (c : After-range) (n : ℕ) → n ≡ length (chars c.range.result.now) → n ≡ length (chars (take c.in-Some.found.end (drop c.args.self.place.at c.args.self.place.text.now)))
chars_are c n e = e ∙ ap (λ bs. length (chars bs)) (line_is c)

units_are : (c : After-range) (n : ℕ) → n ≡ units (chars c.range.result.now) → n ≡ units (chars (take c.in-Some.found.end (drop c.args.self.place.at c.args.self.place.text.now)))
units_are c n e = e ∙ ap (λ bs. units (chars bs)) (line_is c)

pub overflow_add-result-in-Some : goal.overflow_add-result-in-Some
overflow_add-result-in-Some c =
    let at = (goal.at.overflow_add-result-in-Some c).After-range in
    omega (
      arith,
      sums_fit line_starts (slice_text c.args.slice.now) c.args.self c.requires.here c.in-Some.found.start c.in-Some.found.end (first at) c.requires.some
          (length (chars c.range.result.now)) (units (chars c.range.result.now)) (chars_are at _ refl) (units_are at _ refl) Bytes,
    )

pub chars_and_units-chars-requires : goal.chars_and_units-chars-requires
chars_and_units-chars-requires c =
    let at = (goal.at.chars_and_units-chars-requires c).After-range in
    λ is.
    ap (λ bs. length (chars bs)) (line_is at)
    ∙ one_byte_on line_starts (slice_text c.args.slice.now) c.args.self c.requires.here c.in-Some.found.start c.in-Some.found.end (first at) is ∙ ap length (sym (line_is at))

pub overflow_add-result-in-Some-2 : goal.overflow_add-result-in-Some-2
overflow_add-result-in-Some-2 c =
    let at = (goal.at.overflow_add-result-in-Some-2 c).After-range in
    let told = c.chars_and_units-chars in
    omega (
      arith,
      sums_fit line_starts (slice_text c.args.slice.now) c.args.self c.requires.here c.in-Some.found.start c.in-Some.found.end (first at) c.requires.some
          told.result.0 told.result.1 (chars_are at told.result.0 told.ensures.chars) (units_are at told.result.1 told.ensures.units) Chars,
    )

pub overflow_add-result-in-Some-3 : goal.overflow_add-result-in-Some-3
overflow_add-result-in-Some-3 c =
    let at = (goal.at.overflow_add-result-in-Some-3 c).After-range in
    let told = c.chars_and_units-chars in
    omega (
      arith,
      sums_fit line_starts (slice_text c.args.slice.now) c.args.self c.requires.here c.in-Some.found.start c.in-Some.found.end (first at) c.requires.some
          told.result.0 told.result.1 (chars_are at told.result.0 told.ensures.chars) (units_are at told.result.1 told.ensures.units) Units,
    )

pub returns-in-Some-clause-place : goal.returns-in-Some-clause-place
returns-in-Some-clause-place c =
    let at = (goal.at.returns-in-Some-clause-place c).After-range in
    let told = c.chars_and_units-chars in
    line_passed line_starts (slice_text c.args.slice.now) c.args.self c.requires.here c.in-Some.found.start c.in-Some.found.end (first at) c.requires.some
    told.result.0 told.result.1 (chars_are at told.result.0 told.ensures.chars) (units_are at told.result.1 told.ensures.units) _
