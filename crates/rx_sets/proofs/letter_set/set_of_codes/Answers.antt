use Rattle.std.proofs.Common.{ℕ, [], IsTrue}
use Rattle.std.proofs.lemmas.List.{drop_more}
use Rattle.unicode.specs.Rows.{in_ranges}
use Rattle.rx_sets.specs.Sets.{Range}
use Rattle.rx_sets.specs.Unions.{OneOf, Between}
use Rattle.rx_sets.proofs.UnionLemmas.{Completes-step, Completes-end}
use Rattle.rx_sets.proofs.LetterLemmas.{one_of_rows, IfOk-added, IfOk-same}
use Rattle.rx_sets.proofs.letter_set.set_of_codes.Goals as goal

pub loop-range-preserved : goal.loop-range-preserved
loop-range-preserved c =
    Completes-step (λ d (r : Range). Between r.0 r.1 d) _ _ _ _ _ _ _ (drop_more c.args.codes.now c.loop-range.range-index (0, 0) c.loop-range-test.true) c.in_ok-push_codes.ensures
    c.loop-range.invariant

pub returns : goal.returns
returns c =
    let codes = c.args.codes.now in
    let ranges = c.loop-range.ranges.items in
    let P : ℕ → Type 0 = λ d. OneOf (λ (r : Range). Between r.0 r.1 d) codes in
    IfOk-same c.from_ranges.result P (λ d. IsTrue (in_ranges codes d)) (one_of_rows codes)
    (IfOk-added c.from_ranges.result ranges P c.from_ranges.ensures.canonical c.from_ranges.ensures.members
    (Completes-end (λ d (r : Range). Between r.0 r.1 d) [] ranges c.loop-range.range-index codes c.loop-range-test.false c.loop-range.invariant))
