use Rattle.std.proofs.Common.{sym, subst}
use Rattle.std.specs.Prelude.{OnOk}
use Rattle.rope_search_reports.specs.Drafts.{HoldsText, own_text}
use Rattle.rope_search_reports.specs.Finders.{IsRowOf}
use Rattle.rope_search_reports.proofs.ColumnLemmas.{own-bytes}
use Rattle.rope_search_reports.proofs.rows.searching.columns_in_line.Goals as goal

pub columns_in-requires-clause-shows : goal.columns_in-requires-clause-shows
columns_in-requires-clause-shows c = sym (own-bytes c.in-Whole.text.now (subst HoldsText c.in-Whole.is c.requires.holds))

pub returns-in-Whole-clause-row : goal.returns-in-Whole-clause-row
returns-in-Whole-clause-row c = λ text built.
    subst (λ l. OnOk c.columns_in.result (IsRowOf built.tree (own_text l) c.columns_in.new.columns.items)) (sym c.in-Whole.is) (c.columns_in.ensures.row text built)

pub columns_in-requires-in-Narrow-clause-shows : goal.columns_in-requires-in-Narrow-clause-shows
columns_in-requires-in-Narrow-clause-shows c = sym (own-bytes c.in-Narrow.text.now (subst HoldsText c.in-Narrow.is c.requires.holds).0)

pub returns-in-Narrow-clause-row : goal.returns-in-Narrow-clause-row
returns-in-Narrow-clause-row c = λ text built.
    subst (λ l. OnOk c.columns_in-in-Narrow.result (IsRowOf built.tree (own_text l) c.columns_in-in-Narrow.new.columns.items)) (sym c.in-Narrow.is) (c.columns_in-in-Narrow.ensures.row text built)

pub returns-in-Parted-clause-row : goal.returns-in-Parted-clause-row
returns-in-Parted-clause-row c = λ text built.
    subst (λ l. OnOk c.columns_in-in-Parted.result (IsRowOf built.tree (own_text l) c.columns_in-in-Parted.new.columns.items)) (sym c.in-Parted.is) (c.columns_in-in-Parted.ensures.row text built)
