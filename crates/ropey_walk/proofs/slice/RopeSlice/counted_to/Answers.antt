use Rattle.std.proofs.Common.{◌≡◌, ◌+◌, ◌^◌, ◌<◌, ◌-◌, length, take, ap, sym, ◌∙◌, arith}
use Rattle.std.specs.Str.{chars}
use Rattle.str_indices.proofs.TextLaws.{ends_of_a_part-chars}
use Rattle.ropey_tree.specs.declared.counts.Counts.{Counts}
use Rattle.ropey_tree.specs.declared.counts.By.{By}
use Rattle.ropey_tree.specs.declared.counts.By.TheVariants.{Bytes, Chars, Units, Breaks}
use Rattle.ropey_tree.specs.Counts.{counts_of, plus, amount}
use Rattle.ropey_walk.specs.Slices.{slice_text}
use Rattle.ropey_walk.proofs.OneByte.{front-one-byte}
use Rattle.ropey_walk.proofs.Edges.{IsFront, front_at, sums_fit, IsCounted, counted_front}
use Rattle.ropey_walk.proofs.BreakLaws.{breaks_of_parts}
use Rattle.ropey_walk.proofs.slice.RopeSlice.counted_to.Goals as goal
use Rattle.ropey_walk.proofs.slice.RopeSlice.counted_to.Goals.{After-counts}

is_front : (c : After-counts) → IsFront (slice_text c.args.self.now) c.args.place.now.start c.args.place.now.at (chars (take c.args.place.now.at c.args.place.now.text.now))
is_front c = let p = c.args.place.now in front_at (slice_text c.args.self.now) p.text.now p.start p.at c.requires.utf8 c.requires.place c.requires.boundary

counts_is : (c : After-counts) → c.counts.result ≡ counts_of (chars (take c.args.place.now.at c.args.place.now.text.now))
counts_is c =
    let p = c.args.place.now in
    let same : p.at - 0 ≡ p.at = omega arith in
    c.counts.ensures ∙ ap (λ bs. counts_of (chars bs)) c.range.ensures.value ∙ ap (λ n. counts_of (chars (take n p.text.now))) same

fits : (c : After-counts) (by : By) → amount by c.args.place.now.start + amount by c.counts.result < 2 ^ 64
fits c by =
    let p = c.args.place.now in
    omega (arith, ap (amount by) (counts_is c), sums_fit (slice_text c.args.self.now) p.start p.at (chars (take p.at p.text.now)) (is_front c) breaks_of_parts by)

told : (c : After-counts) (sum : Counts) → sum ≡ plus c.args.place.now.start c.counts.result → IsCounted (slice_text c.args.self.now) (c.args.place.now.start.bytes + c.args.place.now.at) sum
told c sum e =
    let p = c.args.place.now in
    counted_front breaks_of_parts ends_of_a_part-chars (slice_text c.args.self.now) p.start p.at (chars (take p.at p.text.now)) (is_front c) c.counts.result (counts_is c) sum e

pub plus-requires-clause-bytes : goal.plus-requires-clause-bytes
plus-requires-clause-bytes c = fits (goal.at.plus-requires-clause-bytes c).After-counts Bytes

pub plus-requires-clause-chars : goal.plus-requires-clause-chars
plus-requires-clause-chars c = fits (goal.at.plus-requires-clause-chars c).After-counts Chars

pub plus-requires-clause-units : goal.plus-requires-clause-units
plus-requires-clause-units c = fits (goal.at.plus-requires-clause-units c).After-counts Units

pub plus-requires-clause-breaks : goal.plus-requires-clause-breaks
plus-requires-clause-breaks c = fits (goal.at.plus-requires-clause-breaks c).After-counts Breaks

pub returns-clause-chars : goal.returns-clause-chars
returns-clause-chars c = (told (goal.at.returns-clause-chars c).After-counts c.plus.result c.plus.ensures).chars_is

pub returns-clause-within : goal.returns-clause-within
returns-clause-within c = (told (goal.at.returns-clause-within c).After-counts c.plus.result c.plus.ensures).within

pub returns-clause-counted : goal.returns-clause-counted
returns-clause-counted c = (told (goal.at.returns-clause-counted c).After-counts c.plus.result c.plus.ensures).counted

pub counts-requires : goal.counts-requires
counts-requires c =
    let p = c.args.place.now in
    let same : p.at - 0 ≡ p.at = omega arith in
    let is = c.range.ensures.value ∙ ap (λ n. take n p.text.now) same in
    λ ascii. ap (λ bs. length (chars bs)) is ∙ front-one-byte p.text.now p.at c.requires.utf8 c.requires.boundary (p.ascii ascii) ∙ ap length (sym is)
