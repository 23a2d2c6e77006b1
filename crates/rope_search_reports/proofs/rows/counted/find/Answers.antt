use Rattle.std.proofs.Common.{◌≤◌, length, subst, ◌∙◌, arith}
use Rattle.regex_cursor.specs.Patterns.{TreeFinds}
use Rattle.regex_cursor.proofs.TreeLaws.{regexes_have_trees}
use Rattle.rope_search_reports.proofs.FinderLemmas.{whole-told}
use Rattle.rope_search_reports.proofs.rows.counted.find.Goals as goal

pub returns-in-Ok-clause-found : goal.returns-in-Ok-clause-found
returns-in-Ok-clause-found g c = λ text content from built asks.
    let slots = c.search_slots_with.new.slots in
    let told = regexes_have_trees.slots text c.args.regex.now built content from c.args.input.now c.in-Ok.field-0 slots asks c.in-Ok.ensures.answer in
    let two : 2 ≤ length slots = omega (arith, c.requires.slots, c.search_slots_with.auto.slots) in
    record {
      out = told.0;
      is = told.1;
      span_is =
          c.group_in.ensures
          ∙ whole-told slots told.0 two told.3 (λ t is. regexes_have_trees.noted text c.args.regex.now built content from t (subst (TreeFinds built.tree content from) is told.1));
      slots_are = told.3;
    }
