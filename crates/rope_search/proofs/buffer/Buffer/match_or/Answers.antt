use Rattle.std.proofs.Common.{sym, ◌∙◌, refl}
use Rattle.rope_search.specs.Session.{current_text}
use Rattle.rope_search.proofs.MatchAnswerLemmas.{lists-none, report-of}
use Rattle.rope_search.proofs.MatchEditLemmas.{none-in, not-none-in}
use Rattle.rope_search.proofs.buffer.Buffer.match_or.Goals as goal

pub returns-in-None-clause-other : goal.returns-in-None-clause-other
returns-in-None-clause-other c = λ some not.
    let b = c.args.self.now.state in
    let rows = c.in-Some.rows.now in
    let r = report-of b rows c.in-Some.ensures.rows some in
    let none = none-in c.a_row_a_line.ensures (current_text b) r.0 rows r.2 c.args.line c.args.number (sym c.columns_at.ensures ∙ c.in-None.is) in
    absurd (not ((lists-none b r.0 (current_text b) c.args.line c.args.number r.1 refl).0 none))

pub returns-in-Some-columns_at-clause-range : goal.returns-in-Some-columns_at-clause-range
returns-in-Some-columns_at-clause-range c = λ none.
    let b = c.args.self.now.state in
    let rows = c.in-Some.rows.now in
    let r = report-of b rows c.in-Some.ensures.rows none.0 in
    let listed = (lists-none b r.0 (current_text b) c.args.line c.args.number r.1 refl).1 none in
    absurd (not-none-in c.a_row_a_line.ensures (current_text b) r.0 rows r.2 c.args.line c.args.number c.groups_are_of_rows.ensures c.in-Some-columns_at.field-0
    (sym c.columns_at.ensures ∙ c.in-Some-columns_at.is) listed)
