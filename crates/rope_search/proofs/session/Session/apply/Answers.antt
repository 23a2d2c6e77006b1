use Rattle.std.proofs.Common.{arith}
use Rattle.rope_search.proofs.SessionLemmas.{rows_for_text, rows_for_pattern, wholes_for_next}
use Rattle.rope_search.proofs.EditLemmas.{rows_for_edit, rows_for_undo, rows_for_redo}
use Rattle.rope_search.proofs.ReplaceLemmas.{rows_for_replace, wholes_for_replace}
use Rattle.rope_search.proofs.session.Session.apply.Goals as goal

pub returns-in-Text-clause-searches : goal.returns-in-Text-clause-searches
returns-in-Text-clause-searches c =
    rw c.in-Text.is (λ order stands. record {
      rows = λ cost costs. rows_for_text c.args.self.now.limit c.args.self.now.state c.in-Text.payload c.set_text.new.tick.count c.args.tick.now.count c.set_text.ensures.rows order cost stands costs;
      wholes = omega (arith, c.set_text.ensures.wholes);
      never_fall = c.set_text.ensures.never_fall;
    })

pub returns-in-Pattern-clause-searches : goal.returns-in-Pattern-clause-searches
returns-in-Pattern-clause-searches c =
    rw c.in-Pattern.is (λ order stands. record {
      rows = λ cost costs. rows_for_pattern c.args.self.now.limit c.args.self.now.state c.in-Pattern.payload c.set_pattern.new.tick.count c.args.tick.now.count c.set_pattern.ensures.rows order cost stands costs;
      wholes = omega (arith, c.set_pattern.ensures.wholes);
      never_fall = c.set_pattern.ensures.never_fall;
    })

pub returns-in-Edit-clause-searches : goal.returns-in-Edit-clause-searches
returns-in-Edit-clause-searches c =
    rw c.in-Edit.is (λ order stands. record {
      rows = λ cost costs. rows_for_edit c.args.self.now.limit c.args.self.now.state c.in-Edit.from c.in-Edit.to c.in-Edit.payload c.edit.new.tick.count c.args.tick.now.count c.edit.ensures.rows order cost stands costs;
      wholes = omega (arith, c.edit.ensures.wholes);
      never_fall = c.edit.ensures.never_fall;
    })

pub returns-in-Undo-clause-searches : goal.returns-in-Undo-clause-searches
returns-in-Undo-clause-searches c =
    rw c.in-Undo.is (λ order stands. record {
      rows = λ cost costs. rows_for_undo c.args.self.now.limit c.args.self.now.state c.undo.new.tick.count c.args.tick.now.count c.undo.ensures.rows order cost stands costs;
      wholes = omega (arith, c.undo.ensures.wholes);
      never_fall = c.undo.ensures.never_fall;
    })

pub returns-in-Redo-clause-searches : goal.returns-in-Redo-clause-searches
returns-in-Redo-clause-searches c =
    rw c.in-Redo.is (λ order stands. record {
      rows = λ cost costs. rows_for_redo c.args.self.now.limit c.args.self.now.state c.redo.new.tick.count c.args.tick.now.count c.redo.ensures.rows order cost stands costs;
      wholes = omega (arith, c.redo.ensures.wholes);
      never_fall = c.redo.ensures.never_fall;
    })

pub returns-in-Replace-clause-searches : goal.returns-in-Replace-clause-searches
returns-in-Replace-clause-searches c =
    rw c.in-Replace.is (λ order stands. record {
      rows = λ cost costs. rows_for_replace c.args.self.now.limit c.args.self.now.state c.in-Replace.payload c.replace.new.tick.count c.args.tick.now.count c.replace.ensures.rows order cost stands costs;
      wholes = wholes_for_replace c.args.self.now.limit c.in-Replace.payload c.replace.new.tick.wholes c.args.tick.now.wholes c.replace.ensures.wholes order stands;
      never_fall = c.replace.ensures.never_fall;
    })

pub returns-in-Next-clause-searches : goal.returns-in-Next-clause-searches
returns-in-Next-clause-searches c =
    rw c.in-Next.is (λ order stands. record {
      rows = λ cost costs. omega (arith, c.find_next.ensures.searches.no_row);
      wholes = wholes_for_next c.args.self.now.limit c.in-Next.from c.find_next.new.tick.wholes c.args.tick.now.wholes c.find_next.ensures.searches.searched order stands;
      never_fall = record { rows = omega (arith, c.find_next.ensures.searches.no_row); wholes = c.find_next.ensures.searches.grows };
    })
