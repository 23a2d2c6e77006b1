use Rattle.std.proofs.Common.{ℕ, ◌++◌, List, Option, length, take, drop, ◌≤◌, refl, ap, subst, ◌∙◌}
use Rattle.rx_util.specs.Groups.{GroupNames, slot_len}
use Rattle.rx_util.specs.Captured.{Captured}
use Rattle.rx_util.specs.Lending.{with_slots}
use Rattle.rx_util.proofs.captures.Captures.slots_mut.Goals as goal

abbrev captured : GroupNames → Option ℕ → List (Option ℕ) → Captured
captured groups pattern slots = record { groups = groups; pattern = pattern; slots = slots }

pub returns : goal.returns
returns c =
    let old = c.self.inside in (
      (
        refl,
        λ w. ap (λ n. captured old.group_info old.pattern (take n (w ++ drop (length w) old.slots.items))) old.slots.ok.0
            ∙ ap (λ v. with_slots v w) c.self.view_is,
      ),
      record {
        writes_back = tt;
        slots = c.as_mut_slice.ensures.value ∙ ap (λ v. v.slots) c.self.view_is;
        few = subst (λ v. length v.slots ≤ slot_len v.groups) c.self.view_is c.self.invariant;
      },
    )
