use Rattle.std.proofs.Common.{◌≡◌, length, subst, arith, vec_len}
use Rattle.std.proofs.lemmas.Grind.{common_steps}
use Rattle.rope_search_reports.specs.Patches.{AreInTurn}
use Rattle.rope_search_reports.proofs.PutLemmas.{last-fits, last-turn, IsPutDown-step}
use Rattle.rope_search_reports.proofs.patches.put_in_place.Goals as goal

pub replace_rows-requires-clause-ordered : goal.replace_rows-requires-clause-ordered
replace_rows-requires-clause-ordered c =
    let rows = c.loop-patch.rows in
    let turn = subst (AreInTurn 0 (length rows.items)) c.in-Some.ensures.items c.loop-patch.invariant.turn in
    (last-turn 0 (length rows.items) c.pop.new.self.items c.in-Some.patch turn).ordered

pub replace_rows-requires-clause-within : goal.replace_rows-requires-clause-within
replace_rows-requires-clause-within c =
    let rows = c.loop-patch.rows in
    let turn = subst (AreInTurn 0 (length rows.items)) c.in-Some.ensures.items c.loop-patch.invariant.turn in
    let long : length rows.items ≡ vec_len rows = grind (arith, common_steps) in
    omega (arith, long, (last-turn 0 (length rows.items) c.pop.new.self.items c.in-Some.patch turn).within)

pub replace_rows-requires-clause-room : goal.replace_rows-requires-clause-room
replace_rows-requires-clause-room c =
    let rows = c.loop-patch.rows in
    let long : length rows.items ≡ vec_len rows = grind (arith, common_steps) in
    let made : length c.in-Some.patch.made.items ≡ vec_len c.in-Some.patch.made = grind (arith, common_steps) in
    omega (arith, long, made, last-fits rows.items c.loop-patch.patches.items c.pop.new.self.items c.in-Some.patch _ c.in-Some.ensures.items c.loop-patch.invariant.fits)

pub loop-patch-preserved : goal.loop-patch-preserved
loop-patch-preserved c =
    IsPutDown-step _ _ c.loop-patch.rows.items c.replace_rows.new.rows.items c.loop-patch.patches.items c.pop.new.self.items c.in-Some.patch _ _
    c.in-Some.ensures.items c.loop-patch.invariant c.replace_rows.ensures.rows c.replace_rows.ensures.capacity
