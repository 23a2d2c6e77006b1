use Rattle.std.proofs.Common.{◌≡◌, ℕ, ◌+◌, ◌-◌, ◌/◌, ◌<◌, false, true, take, drop, get_or, sym, ap, subst, ◌∙◌, arith, add-one}
use Rattle.std.proofs.lemmas.Bool.{or_from}
use Rattle.std.proofs.lemmas.List.{take-append-drop}
use Rattle.std.proofs.lemmas.List.Folds.{list_any_at}
use Rattle.rx_sets.specs.Sets.{Range, in_range, in_ranges}
use Rattle.rx_sets.proofs.SetLemmas.{in_range_within}
use Rattle.rx_sets.proofs.RangeLemmas.{in_ranges-append, none_up_to, none_from, get_or-within}
use Rattle.rx_sets.proofs.character_set.CharacterSet.contains.Goals as goal

-- halfway between two indices lies an index
halfway : (low high : ℕ) → low < high → low + (high - low) / 2 < high
halfway low high less = omega arith

pub loop-low-preserved-then-range-ordinal : goal.loop-low-preserved-then-range-ordinal
loop-low-preserved-then-range-ordinal c =
    let rs = c.self.inside.ranges.items in
    let k = c.loop-low.low + (c.loop-low.high - c.loop-low.low) / 2 in
    let less : k < c.loop-low.high = halfway c.loop-low.low c.loop-low.high c.loop-low-test.true in
    let range = c.index-range.result.now in
    let is : range ≡ get_or rs k (0, 0) = c.index-range.ensures ∙ get_or-within rs k range (0, 0) (omega arith) in
    let above : (get_or rs k (0, 0)).1 < c.args.ordinal = subst (λ (r : Range). r.1 < c.args.ordinal) is c.if-range-ordinal.true in
    record {
      ordered = omega arith;
      in_bounds = c.loop-low.invariant.in_bounds;
      before = rw add-one (none_up_to 0 k c.args.ordinal rs c.self.invariant (omega arith) above);
      after = c.loop-low.invariant.after;
    }

pub loop-low-preserved : goal.loop-low-preserved
loop-low-preserved c =
    let rs = c.self.inside.ranges.items in
    let k = c.loop-low.low + (c.loop-low.high - c.loop-low.low) / 2 in
    let less : k < c.loop-low.high = halfway c.loop-low.low c.loop-low.high c.loop-low-test.true in
    let range = c.index-range.result.now in
    let is : range ≡ get_or rs k (0, 0) = c.index-range.ensures ∙ get_or-within rs k range (0, 0) (omega arith) in
    let below : c.args.ordinal < (get_or rs k (0, 0)).0 = subst (λ (r : Range). c.args.ordinal < r.0) is c.if-ordinal-range.true in
    record {
      ordered = omega arith;
      in_bounds = omega arith;
      before = c.loop-low.invariant.before;
      after = none_from 0 k c.args.ordinal rs c.self.invariant (omega arith) below;
    }

pub returns-else-ordinal-range : goal.returns-else-ordinal-range
returns-else-ordinal-range c =
    let rs = c.self.inside.ranges.items in
    let k = c.loop-low.low + (c.loop-low.high - c.loop-low.low) / 2 in
    let less : k < c.loop-low.high = halfway c.loop-low.low c.loop-low.high c.loop-low-test.true in
    let range = c.index-range.result.now in
    let is : range ≡ get_or rs k (0, 0) = c.index-range.ensures ∙ get_or-within rs k range (0, 0) (omega arith) in
    let found : in_range c.args.ordinal range ≡ true = in_range_within c.args.ordinal range c.if-ordinal-range.false c.if-range-ordinal.false in
    sym (ap (λ l. in_ranges l c.args.ordinal) (sym c.self.view_is) ∙ list_any_at (in_range c.args.ordinal) rs k (0, 0) (omega arith) (subst (λ r. in_range c.args.ordinal r ≡ true) is found))

pub returns : goal.returns
returns c =
    let rs = c.self.inside.ranges.items in
    let same : c.loop-low.high ≡ c.loop-low.low = omega arith in
    let after : in_ranges (drop c.loop-low.low rs) c.args.ordinal ≡ false = subst (λ k. in_ranges (drop k rs) c.args.ordinal ≡ false) same c.loop-low.invariant.after in
    sym (ap (λ l. in_ranges l c.args.ordinal) (sym c.self.view_is ∙ sym (take-append-drop c.loop-low.low rs)) ∙ in_ranges-append (take c.loop-low.low rs) (drop c.loop-low.low rs) c.args.ordinal ∙ or_from _ _ c.loop-low.invariant.before after)
