use Rattle.std.proofs.Common.{◌≡◌, ℕ, List, ◌+◌, ◌*◌, ◌-◌, ◌<◌, ◌^◌, Some, get_or, subst, sym, ap, ◌∙◌, arith, unwrap_or}
use Rattle.std.proofs.lemmas.Option.{get_or_from_slice_get}
use Rattle.rx_util.specs.Groups.{GroupNames, group_len, slot_len, slot_place}
use Rattle.rx_util.specs.Slots.{IsLaidOut}
use Rattle.rx_util.specs.declared.captures.GroupInfoInner.{GroupInfoInner}
use Rattle.rx_util.proofs.SlotLemmas.{group_is, slot_place-within, slot_place-before, first_slot-of_group}
use Rattle.rx_util.proofs.captures.GroupInfo.slot.Goals as goal

-- what is answered for a further group: its first slot, and the second one is a slot too
record IsSlot (groups : GroupNames) (p g slot : ℕ) : Type 0 where
  pub is : slot ≡ slot_place groups p g
  pub within : slot + 1 < slot_len groups
  pub fits : slot_len groups < 2 ^ 64

slot_of_further : (groups : GroupNames) (starts : List ℕ) (len p g start : ℕ) → IsLaidOut groups starts len → g < group_len groups p → (g ≡ 0 → ⊥)
    → start ≡ get_or starts p start → IsSlot groups p g (start + 2 * (g - 1))
slot_of_further groups starts len p g start laid lt further read =
    let is = group_is groups p g lt in
    let there : start ≡ slot_place groups p 1 = read ∙ get_or_from_slice_get starts p (slot_place groups p 1) start (laid.starts_are p is.pattern) in
    let same : start + 2 * (g - 1) ≡ slot_place groups p g = omega (arith, there, slot_place-before groups p g further) in
    record { is = same; within = omega (arith, same, slot_place-within groups p g is); fits = laid.fits }

pub overflow_mul-result-2 : goal.overflow_mul-result-2
overflow_mul-result-2 c =
    let answer =
    slot_of_further c.args.self.now c.self.inside.inner.value.starts.items c.self.inside.inner.value.slot_len c.args.pid c.args.group_index c.index.result.now
    (subst (λ g. IsLaidOut g c.self.inside.inner.value.starts.items c.self.inside.inner.value.slot_len) c.self.view_is c.self.invariant)
    (omega (arith, c.if-group_index-group_len.false, c.group_len.ensures)) c.if-group_index-eq0.false
    (c.index.ensures ∙ ap (λ k. get_or c.deref.result.now.starts.items k c.index.result.now) c.as_usize-2.ensures
    ∙ ap (λ (v : GroupInfoInner). get_or v.starts.items c.args.pid c.index.result.now) c.deref.ensures) in
    omega (arith, answer.within, answer.fits)

pub overflow_add-result : goal.overflow_add-result
overflow_add-result c =
    let answer =
    slot_of_further c.args.self.now c.self.inside.inner.value.starts.items c.self.inside.inner.value.slot_len c.args.pid c.args.group_index c.index.result.now
    (subst (λ g. IsLaidOut g c.self.inside.inner.value.starts.items c.self.inside.inner.value.slot_len) c.self.view_is c.self.invariant)
    (omega (arith, c.if-group_index-group_len.false, c.group_len.ensures)) c.if-group_index-eq0.false
    (c.index.ensures ∙ ap (λ k. get_or c.deref.result.now.starts.items k c.index.result.now) c.as_usize-2.ensures
    ∙ ap (λ (v : GroupInfoInner). get_or v.starts.items c.args.pid c.index.result.now) c.deref.ensures) in
    omega (arith, answer.within, answer.fits)

pub returns-clause-slot : goal.returns-clause-slot
returns-clause-slot c =
    let answer =
    slot_of_further c.args.self.now c.self.inside.inner.value.starts.items c.self.inside.inner.value.slot_len c.args.pid c.args.group_index c.index.result.now
    (subst (λ g. IsLaidOut g c.self.inside.inner.value.starts.items c.self.inside.inner.value.slot_len) c.self.view_is c.self.invariant)
    (omega (arith, c.if-group_index-group_len.false, c.group_len.ensures)) c.if-group_index-eq0.false
    (c.index.ensures ∙ ap (λ k. get_or c.deref.result.now.starts.items k c.index.result.now) c.as_usize-2.ensures
    ∙ ap (λ (v : GroupInfoInner). get_or v.starts.items c.args.pid c.index.result.now) c.deref.ensures) in
    ap Some answer.is ∙ sym (first_slot-of_group c.args.self.now c.args.pid c.args.group_index (omega (arith, c.if-group_index-group_len.false, c.group_len.ensures)))

pub returns-clause-in_range : goal.returns-clause-in_range
returns-clause-in_range c =
    let answer =
    slot_of_further c.args.self.now c.self.inside.inner.value.starts.items c.self.inside.inner.value.slot_len c.args.pid c.args.group_index c.index.result.now
    (subst (λ g. IsLaidOut g c.self.inside.inner.value.starts.items c.self.inside.inner.value.slot_len) c.self.view_is c.self.invariant)
    (omega (arith, c.if-group_index-group_len.false, c.group_len.ensures)) c.if-group_index-eq0.false
    (c.index.ensures ∙ ap (λ k. get_or c.deref.result.now.starts.items k c.index.result.now) c.as_usize-2.ensures
    ∙ ap (λ (v : GroupInfoInner). get_or v.starts.items c.args.pid c.index.result.now) c.deref.ensures) in
    λ slot is. subst (λ k. k + 1 < slot_len c.args.self.now) (ap (λ o. unwrap_or o 0) is) answer.within
