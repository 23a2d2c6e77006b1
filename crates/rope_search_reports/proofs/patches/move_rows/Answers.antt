use Rattle.std.proofs.Common.{◌≡◌, ◌++◌, length, take, ap, sym, ◌∙◌, arith, append_assoc, append-nil, vec_capacity}
use Rattle.std.proofs.lemmas.Grind.{common_steps}
use Rattle.std.specs.Option.{option_to_list}
use Rattle.std.specs.Vec.Iter.{into_iter_items, into_iter_len}
use Rattle.rope_search_reports.proofs.PutLemmas.{stepped}
use Rattle.rope_search_reports.proofs.patches.move_rows.Goals.{in-Some, in_default}
use Rattle.rope_search_reports.proofs.patches.move_rows.Goals as goal

pub loop-preserved : goal.loop-preserved
loop-preserved c =
    let all = into_iter_items c.args.left.now in
    let so = c.loop.invariant in
    let long : length (into_iter_items c.loop.left) ≡ into_iter_len c.loop.left = grind (arith, common_steps) in
    let step = stepped all (into_iter_items c.loop.left) (into_iter_items c.next.new.self) c.loop.counter _ _ c.next.result so.0 (omega (arith, c.loop-test.true, c.requires.within)) long c.next.ensures.cases in
    let both : c.match-next.rows.items ≡ c.loop.rows.items ++ option_to_list c.next.result = elim c.match-next.branch [
      | in-Some w ↦ ap (λ rs. rs.items) w.rows-is ∙ w.push_reserved.ensures.items ∙ ap (λ r. c.loop.rows.items ++ option_to_list r) (sym w.in-Some.is)
      | in_default w ↦ ap (λ rs. rs.items) w.rows-is ∙ sym (append-nil c.loop.rows.items) ∙ ap (λ r. c.loop.rows.items ++ option_to_list r) (sym w.in_default.is)
    ] in (
      step.left,
      omega (arith, c.loop-test.true),
      both ∙ ap (λ rs. rs ++ option_to_list c.next.result) so.2 ∙ append_assoc c.args.rows.now.items (take c.loop.counter all) (option_to_list c.next.result)
          ∙ ap (λ rs. c.args.rows.now.items ++ rs) (sym step.moved),
      elim c.match-next.branch [
        | in-Some w ↦ ap (λ rs. vec_capacity rs) w.rows-is ∙ w.push_reserved.ensures.capacity ∙ so.3
        | in_default w ↦ ap (λ rs. vec_capacity rs) w.rows-is ∙ so.3
      ],
    )
