use Rattle.std.proofs.Common.{◌≡◌, ◌+◌, ◌-◌, ◌≤◌, ◌++◌, length, take, drop, vec_len, ap, ◌∙◌, arith, length-append, length-take}
use Rattle.std.proofs.lemmas.Grind.{common_steps}
use Rattle.std.specs.Vec.Iter.{into_iter_items}
use Rattle.rope_search_reports.proofs.PutLemmas.{IsPut-next, IsPut-step, IsPut-room}
use Rattle.rope_search_reports.proofs.patches.put_patches.Goals as goal

pub move_rows-requires-clause-within : goal.move_rows-requires-clause-within
move_rows-requires-clause-within c =
    (IsPut-next _ _ _ _ _ c.in-Some.patch _ _ _ c.in-Some.ensures.steps.0 c.loop-patch.invariant.2).kept

pub move_rows-requires-clause-room : goal.move_rows-requires-clause-room
move_rows-requires-clause-room c =
    let next = IsPut-next _ _ _ _ _ c.in-Some.patch _ _ _ c.in-Some.ensures.steps.0 c.loop-patch.invariant.2 in
    omega (arith, next.room)

pub drop_rows-requires : goal.drop_rows-requires
drop_rows-requires c =
    let next = IsPut-next _ _ _ _ _ c.in-Some.patch _ _ _ c.in-Some.ensures.steps.0 c.loop-patch.invariant.2 in
    record { within = omega (arith, next.gone, ap length c.move_rows.ensures.left) }

pub loop-patch-preserved : goal.loop-patch-preserved
loop-patch-preserved c =
    let patch = c.in-Some.patch in
    let next = IsPut-next _ _ _ _ _ patch _ _ _ c.in-Some.ensures.steps.0 c.loop-patch.invariant.2 in
    let out = c.move_rows.new.rows in
    let long : length out.items ≡ vec_len out = grind (arith, common_steps) in
    let long' : length patch.made.items ≡ vec_len patch.made = grind (arith, common_steps) in
    let sum : length out.items ≤ length c.loop-patch.rows.items + (patch.first - c.loop-patch.at) =
    omega (
      arith,
      ap length c.move_rows.ensures.rows,
      length-append c.loop-patch.rows.items (take (patch.first - c.loop-patch.at) (into_iter_items c.loop-patch.left)),
      length-take (patch.first - c.loop-patch.at) (into_iter_items c.loop-patch.left),
    ) in
    let ok = c.append.ensures.succeeds (omega (arith, next.room, sum, long, long', c.move_rows.ensures.capacity)) in
    let joined : c.append.new.self.items ≡ out.items ++ patch.made.items = grind (arith, common_steps, ok) in (
      tt,
      tt,
      IsPut-room _ _ _ _ _ _ _ _ (omega (arith, c.append.ensures.capacity, c.move_rows.ensures.capacity))
          (IsPut-step _ _ _ _ _ _ _ patch _ _ _ c.in-Some.ensures.steps.0 c.loop-patch.invariant.2 (joined ∙ ap (λ xs. xs ++ patch.made.items) c.move_rows.ensures.rows)
          (c.drop_rows.ensures ∙ ap (drop (patch.end - patch.first)) c.move_rows.ensures.left)),
    )
