use Rattle.std.proofs.Common.{◌≡◌, ◌+◌, ◌-◌, length, refl, sym, subst, arith, vec_len}
use Rattle.std.proofs.lemmas.Grind.{common_steps}
use Rattle.rope_search.proofs.SwapLemmas.{IsSwapped, swapped-step, swapped-within}
use Rattle.rope_search.proofs.kept_rows.swap_patches.Goals as goal

pub swap_patch-requires-clause-within : goal.swap_patch-requires-clause-within
swap_patch-requires-clause-within c =
    let left = c.loop-left.left - 1 in
    let next : c.loop-left.left ≡ left + 1 = omega (arith, c.loop-left-test.true) in
    let so_far = subst (IsSwapped c.args.rows.now.items c.args.patches.now.items c.loop-left.rows.items c.loop-left.patches.items) next c.loop-left.invariant in
    let long : length c.loop-left.rows.items ≡ vec_len c.loop-left.rows = grind (arith, common_steps) in
    omega (arith, long, swapped-within _ _ _ _ left c.index_mut.result.now so_far (sym c.index_mut.ensures.value))

pub loop-left-preserved : goal.loop-left-preserved
loop-left-preserved c =
    let left = c.loop-left.left - 1 in
    let next : c.loop-left.left ≡ left + 1 = omega (arith, c.loop-left-test.true) in
    let so_far = subst (IsSwapped c.args.rows.now.items c.args.patches.now.items c.loop-left.rows.items c.loop-left.patches.items) next c.loop-left.invariant in
    swapped-step _ _ _ _ _ _ left c.index_mut.result.now c.swap_patch.new.patch so_far (sym c.index_mut.ensures.value) refl c.swap_patch.ensures.rows
    (record { first = c.swap_patch.ensures.first; end = c.swap_patch.ensures.end; made = c.swap_patch.ensures.made })
