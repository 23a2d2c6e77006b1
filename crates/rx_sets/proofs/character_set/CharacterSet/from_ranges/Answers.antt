use Rattle.std.proofs.Common.{sym, ap, subst, ◌∙◌, arith, rules}
use Rattle.std.proofs.lemmas.List.Sorted.{IsNonDecreasingBy-from_sort_by_key, list_any-IsPermutation}
use Rattle.std.specs.List.Sorted.{IsNonDecreasingBy}
use Rattle.rx_sets.specs.Sets.{Range, in_range, in_ranges, IsCanonical}
use Rattle.rx_sets.proofs.RangeLemmas.{FirstsRise-from, joined_rise, joined_whole, in_joined_whole}
use Rattle.rx_sets.proofs.character_set.CharacterSet.from_ranges.Goals as goal

pub invariant_of-result : goal.invariant_of-result
invariant_of-result c =
    let rs = c.deref-range-items.result.now in
    let sorted : IsNonDecreasingBy (λ (r : Range). r.0) rs =
    rw c.deref-range-items.ensures.value (IsNonDecreasingBy-from_sort_by_key (λ (r : Range). r.0) _ c.sort_unstable_by_key.ensures.sorted (λ a r q k. search rules)) in
    let firsts = FirstsRise-from 0 rs (λ k below. omega arith) sorted in
    let is = joined_whole c.loop-range.start c.loop-range.end c.loop-range.range-index c.loop-range.joined.items _ _ c.loop-range-test.false c.loop-range.invariant.whole c.in_ok-push_part-2.ensures in
    subst IsCanonical (sym is) (joined_rise 0 0 0 rs (omega arith) (omega arith) firsts)

pub returns-clause-canonical : goal.returns-clause-canonical
returns-clause-canonical c =
    let rs = c.deref-range-items.result.now in
    let sorted : IsNonDecreasingBy (λ (r : Range). r.0) rs =
    rw c.deref-range-items.ensures.value (IsNonDecreasingBy-from_sort_by_key (λ (r : Range). r.0) _ c.sort_unstable_by_key.ensures.sorted (λ a r q k. search rules)) in
    let firsts = FirstsRise-from 0 rs (λ k below. omega arith) sorted in
    let is = joined_whole c.loop-range.start c.loop-range.end c.loop-range.range-index c.loop-range.joined.items _ _ c.loop-range-test.false c.loop-range.invariant.whole c.in_ok-push_part-2.ensures in
    subst IsCanonical (sym is) (joined_rise 0 0 0 rs (omega arith) (omega arith) firsts)

pub returns-clause-members : goal.returns-clause-members
returns-clause-members c =
    let rs = c.deref-range-items.result.now in
    let sorted : IsNonDecreasingBy (λ (r : Range). r.0) rs =
    rw c.deref-range-items.ensures.value (IsNonDecreasingBy-from_sort_by_key (λ (r : Range). r.0) _ c.sort_unstable_by_key.ensures.sorted (λ a r q k. search rules)) in
    let firsts = FirstsRise-from 0 rs (λ k below. omega arith) sorted in
    let is = joined_whole c.loop-range.start c.loop-range.end c.loop-range.range-index c.loop-range.joined.items _ _ c.loop-range-test.false c.loop-range.invariant.whole c.in_ok-push_part-2.ensures in
    λ n below. ap (λ l. in_ranges l n) is ∙ in_joined_whole n rs below firsts ∙ ap (λ l. in_ranges l n) c.deref-range-items.ensures.value
    ∙ sym (list_any-IsPermutation (in_range n) _ _ c.sort_unstable_by_key.ensures.permutation)
