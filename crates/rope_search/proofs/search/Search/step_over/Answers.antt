use Rattle.std.proofs.Common.{◌≡◌, inl, sym, subst, ◌∙◌, arith}
use Rattle.std.specs.Prelude.{IfSome}
use Rattle.rope_search.specs.declared.kept_rows.KeptRows.{KeptRows}
use Rattle.rope_search.specs.KeptRows.{PutBack}
use Rattle.rope_search_reports.specs.Report.{IsReport}
use Rattle.ropey.specs.Chunks.{text_of}
use Rattle.rope_search.proofs.KeptRowLemmas.{turn-back}
use Rattle.rope_search.proofs.search.Search.step_over.Goals as goal

pub swap-requires-clause-still : goal.swap-requires-clause-still
swap-requires-clause-still c = (c.requires.kept c.in-Some.rows c.in-Some.ensures.taken.0 c.in-Some.ensures.taken.1).still

pub returns-clause-report : goal.returns-clause-report
returns-clause-report c =
    let turn = c.requires.kept c.in-Some.rows c.in-Some.ensures.taken.0 c.in-Some.ensures.taken.1 in
    subst (IsReport (text_of c.args.new.now) c.args.self.now.finder) (sym c.swap.ensures.rows) (turn.report c.args.self.now.rows.items c.requires.report)

pub returns-clause-few : goal.returns-clause-few
returns-clause-few c =
    let turn = c.requires.kept c.in-Some.rows c.in-Some.ensures.taken.0 c.in-Some.ensures.taken.1 in
    let report = subst (IsReport (text_of c.args.new.now) c.args.self.now.finder) (sym c.swap.ensures.rows) (turn.report c.args.self.now.rows.items c.requires.report) in
    omega (arith, c.few_matches.ensures _ _ c.swap.new.self.rows.items report, c.len_bytes.ensures.bytes, c.len_bytes.ensures.fits)

pub returns-clause-kept : goal.returns-clause-kept
returns-clause-kept c = λ rows is.
    let turn = c.requires.kept c.in-Some.rows c.in-Some.ensures.taken.0 c.in-Some.ensures.taken.1 in
    let report = subst (IsReport (text_of c.args.new.now) c.args.self.now.finder) (sym c.swap.ensures.rows) (turn.report c.args.self.now.rows.items c.requires.report) in
    let step = subst (λ o. IfSome o (λ (back : KeptRows). back.step ≡ c.in-Some.rows.step)) is c.swap.ensures.step in
    let back = subst (λ o. IfSome o (λ (b : KeptRows). PutBack c.swap.new.self.rows.items c.args.self.now.rows.items b.patches.items)) is c.swap.ensures.back in
    inl (
      step ∙ c.in-Some.ensures.taken.1,
      turn-back c.one_report.ensures c.a_row_a_line.ensures _ _ c.args.self.now.finder c.args.self.now.rows.items c.swap.new.self.rows.items rows.patches.items c.requires.report report back,
    )

pub returns-clause-changed : goal.returns-clause-changed
returns-clause-changed c = c.stretch_of-changed.ensures.rows c.args.self.now.finder
