use Rattle.std.proofs.Common.{◌≡◌, ◌+◌, not, ◌∷◌, ◌++◌, get_or, drop, sym, ap, subst, ◌∙◌, arith}
use Rattle.std.proofs.lemmas.List.{drop_more}
use Rattle.rx_sets.specs.Sets.{Range, part, in_ranges, RiseFrom, IsCanonical}
use Rattle.rx_sets.proofs.RangeLemmas.{gaps_from, gaps_rise, in_gaps, gaps_whole, RiseFrom-lower, pushed}
use Rattle.rx_sets.proofs.character_set.CharacterSet.complement.Goals as goal

pub loop-range-preserved : goal.loop-range-preserved
loop-range-preserved c =
    let rs = c.deref-range-items.result.now in
    let i = c.loop-range.range-index in
    let next = c.loop-range.next in
    let gaps = c.loop-range.gaps.items in
    let r : Range = get_or rs i (0, 0) in
    let more : drop i rs ≡ r ∷ drop (i + 1) rs = drop_more rs i (0, 0) c.loop-range-test.true in
    let rise : RiseFrom next (r ∷ drop (i + 1) rs) = subst (RiseFrom next) more c.loop-range.invariant.rise in
    let whole : gaps ++ (part next r.0 ++ gaps_from (r.1 + 1) (drop (i + 1) rs)) ≡ gaps_from 0 rs =
    ap (λ l. gaps ++ gaps_from next l) (sym more) ∙ c.loop-range.invariant.whole in
    record {
      whole = pushed gaps _ (part next r.0) _ _ c.in_ok-push_part.ensures whole;
      rise = RiseFrom-lower (r.1 + 2) (r.1 + 1) (drop (i + 1) rs) rise.3 (omega arith);
      bound = omega (arith, rise.2);
    }

pub invariant_of-result : goal.invariant_of-result
invariant_of-result c =
    let is = gaps_whole c.loop-range.next c.loop-range.range-index c.loop-range.gaps.items _ _ c.loop-range-test.false c.loop-range.invariant.whole c.in_ok-push_part-2.ensures in
    let rise = subst IsCanonical (sym c.deref-range-items.ensures.value) c.self.invariant in
    subst IsCanonical (sym is) (gaps_rise 0 c.deref-range-items.result.now rise)

pub returns-clause-canonical : goal.returns-clause-canonical
returns-clause-canonical c =
    let is = gaps_whole c.loop-range.next c.loop-range.range-index c.loop-range.gaps.items _ _ c.loop-range-test.false c.loop-range.invariant.whole c.in_ok-push_part-2.ensures in
    let rise = subst IsCanonical (sym c.deref-range-items.ensures.value) c.self.invariant in
    subst IsCanonical (sym is) (gaps_rise 0 c.deref-range-items.result.now rise)

pub returns-clause-members : goal.returns-clause-members
returns-clause-members c =
    let is = gaps_whole c.loop-range.next c.loop-range.range-index c.loop-range.gaps.items _ _ c.loop-range-test.false c.loop-range.invariant.whole c.in_ok-push_part-2.ensures in
    let rise = subst IsCanonical (sym c.deref-range-items.ensures.value) c.self.invariant in
    λ n below. ap (λ l. in_ranges l n) is ∙ in_gaps 0 n c.deref-range-items.result.now rise (omega arith) below
    ∙ ap (λ l. not (in_ranges l n)) (c.deref-range-items.ensures.value ∙ c.self.view_is)
