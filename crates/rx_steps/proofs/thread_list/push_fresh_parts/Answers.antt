use Rattle.std.proofs.Common.{◌++◌, ◌∷◌, [], None, refl, ap, ◌∙◌, arith, append_assoc}
use Rattle.rx_steps.specs.Threads.{no_slots}
use Rattle.rx_steps.proofs.ThreadLaws.{no_slots_more}
use Rattle.rx_steps.proofs.thread_list.push_fresh_parts.Goals as goal

pub loop-preserved : goal.loop-preserved
loop-preserved c =
    let before = c.args.slots.now.items in
    record {
      slots = c.in_ok-push.ensures.items ∙ ap (λ xs. xs ++ None ∷ []) c.loop.invariant.slots
          ∙ append_assoc before (no_slots c.loop.counter) (None ∷ []) ∙ ap (λ xs. before ++ xs) (no_slots_more c.loop.counter);
      nodes = refl;
      within = omega (arith, c.loop-test.true);
    }
