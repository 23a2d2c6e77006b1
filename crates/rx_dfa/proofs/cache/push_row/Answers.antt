use Rattle.std.proofs.Common.{◌++◌, ◌∷◌, [], replicate, ap, ◌∙◌, arith}
use Rattle.std.proofs.lemmas.List.{append_assoc}
use Rattle.rx_dfa.proofs.TableLaws.{repeated_more}
use Rattle.rx_dfa.proofs.cache.push_row.Goals as goal

pub loop-preserved : goal.loop-preserved
loop-preserved c =
    let before = c.args.table.now.items in
    record {
      entries = c.in_ok-push.ensures.items ∙ ap (λ xs. xs ++ 4294967295 ∷ []) c.loop.invariant.entries
          ∙ append_assoc before (replicate c.loop.counter 4294967295) (4294967295 ∷ []) ∙ ap (λ xs. before ++ xs) (repeated_more c.loop.counter 4294967295);
      within = omega (arith, c.loop-test.true);
    }
