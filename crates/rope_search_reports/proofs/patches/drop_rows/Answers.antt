use Rattle.std.proofs.Common.{◌≡◌, length, arith}
use Rattle.std.proofs.lemmas.Grind.{common_steps}
use Rattle.std.specs.Vec.Iter.{into_iter_items, into_iter_len}
use Rattle.rope_search_reports.proofs.PutLemmas.{stepped}
use Rattle.rope_search_reports.proofs.patches.drop_rows.Goals as goal

pub loop-preserved : goal.loop-preserved
loop-preserved c =
    let all = into_iter_items c.args.left.now in
    let so = c.loop.invariant in
    let long : length (into_iter_items c.loop.left) ≡ into_iter_len c.loop.left = grind (arith, common_steps) in
    let step = stepped all (into_iter_items c.loop.left) (into_iter_items c.next-row.new.self) c.loop.counter _ _ c.next-row.result so.0 (omega (arith, c.loop-test.true, c.requires.within)) long c.next-row.ensures.cases in
    (step.left, omega (arith, c.loop-test.true))
