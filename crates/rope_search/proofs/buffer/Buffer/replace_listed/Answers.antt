use Rattle.std.proofs.Common.{◌≡◌, ◌≤◌, Err, sym, ap, ◌∙◌, subst, ◌^◌, ◌<◌}
use Rattle.std.specs.Prelude.{Option, Some, option_map, IfSome}
use Rattle.std.specs.Str.{chars}
use Rattle.std.proofs.lemmas.Result.{err_from_is_err_and}
use Rattle.ropey.specs.Chunks.{text_of}
use Rattle.rope_search_io.specs.declared.faults.Fault.TheVariants.{Size}
use Rattle.rope_search_reports.specs.LineGroups.{joined}
use Rattle.rope_search_reports.specs.Replacement.{changes_of, replaced}
use Rattle.rope_search_reports.specs.Text.{bytes_of}
use Rattle.rope_search_reports.specs.Turned.{listed}
use Rattle.rope_search.specs.Histories.{Texts, with_changes, text_at}
use Rattle.rope_search.specs.ListedReplacing.{GetsTooLongListed}
use Rattle.rope_search.specs.Replacing.{text_with}
use Rattle.rope_search.specs.Session.{BufferState, LimitedBuffer, current_text, with_edit}
use Rattle.rope_search.specs.Stretches.{lines_spanned}
use Rattle.rope_search.specs.TextChanges.{ranges_in, ranges_of}
use Rattle.rope_search.specs.declared.search.Search.{Search}
use Rattle.rope_search.proofs.ChangedLemmas.{replaces-told}
use Rattle.rope_search.proofs.ListedReplacingLemmas.{listed-here, long-here, long-there, rows-there}
use Rattle.rope_search.proofs.TextChangeLemmas.{tells-ranges}
use Rattle.rope_search.proofs.KeptRowLemmas.{kept-made, put-back}
use Rattle.rope_search_reports.specs.Report.{IsReport, match_count}
use Rattle.rope_search_reports.specs.Patches.{patched}
use Rattle.rope_search.proofs.buffer.Buffer.replace_listed.Goals as goal

pub returns-in_err-replaced-clause-rows : goal.returns-in_err-replaced-clause-rows
returns-in_err-replaced-clause-rows c = λ n rows.
    let history = c.self.inside.history in
    let finder = c.in-Some.search.finder in
    let state : BufferState = record { texts = history.texts; current = history.current; pattern = Some finder } in
    let one : c.self.inside.search ≡ Some c.in-Some.search = c.in-Some.is in
    let same : state ≡ c.args.self.now.state =
    ap (λ (o : Option Search). record { texts = history.texts; current = history.current; pattern = option_map (λ (s : Search). s.finder) o }) (sym one)
    ∙ ap (λ (v : LimitedBuffer). v.state) c.self.view_is in
    let is : c.args.self.now.state.pattern ≡ Some finder = ap (λ (b : BufferState). b.pattern) (sym same) in
    let here : text_of c.current-old.result.now ≡ current_text c.args.self.now.state = c.current-old.ensures.text ∙ ap current_text same in
    c.replaced_listed.ensures.count n (rows-there c.args.self.now.state finder (text_of c.current-old.result.now) is here c.args.from_line c.args.to_line (chars c.args.template.now) n rows)

pub returns-in_err-add-clause-rows : goal.returns-in_err-add-clause-rows
returns-in_err-add-clause-rows c = λ n rows.
    let history = c.self.inside.history in
    let finder = c.in-Some.search.finder in
    let state : BufferState = record { texts = history.texts; current = history.current; pattern = Some finder } in
    let one : c.self.inside.search ≡ Some c.in-Some.search = c.in-Some.is in
    let same : state ≡ c.args.self.now.state =
    ap (λ (o : Option Search). record { texts = history.texts; current = history.current; pattern = option_map (λ (s : Search). s.finder) o }) (sym one)
    ∙ ap (λ (v : LimitedBuffer). v.state) c.self.view_is in
    let is : c.args.self.now.state.pattern ≡ Some finder = ap (λ (b : BufferState). b.pattern) (sym same) in
    let here : text_of c.current-old.result.now ≡ current_text c.args.self.now.state = c.current-old.ensures.text ∙ ap current_text same in
    c.replaced_listed.ensures.count n (rows-there c.args.self.now.state finder (text_of c.current-old.result.now) is here c.args.from_line c.args.to_line (chars c.args.template.now) n rows)

pub returns-clause-rows : goal.returns-clause-rows
returns-clause-rows c = λ n rows.
    let history = c.self.inside.history in
    let finder = c.in-Some.search.finder in
    let state : BufferState = record { texts = history.texts; current = history.current; pattern = Some finder } in
    let one : c.self.inside.search ≡ Some c.in-Some.search = c.in-Some.is in
    let same : state ≡ c.args.self.now.state =
    ap (λ (o : Option Search). record { texts = history.texts; current = history.current; pattern = option_map (λ (s : Search). s.finder) o }) (sym one)
    ∙ ap (λ (v : LimitedBuffer). v.state) c.self.view_is in
    let is : c.args.self.now.state.pattern ≡ Some finder = ap (λ (b : BufferState). b.pattern) (sym same) in
    let here : text_of c.current-old.result.now ≡ current_text c.args.self.now.state = c.current-old.ensures.text ∙ ap current_text same in
    c.replaced_listed.ensures.count n (rows-there c.args.self.now.state finder (text_of c.current-old.result.now) is here c.args.from_line c.args.to_line (chars c.args.template.now) n rows)

pub returns-in_err-replaced-clause-size : goal.returns-in_err-replaced-clause-size
returns-in_err-replaced-clause-size c = λ told.
    let history = c.self.inside.history in
    let finder = c.in-Some.search.finder in
    let state : BufferState = record { texts = history.texts; current = history.current; pattern = Some finder } in
    let one : c.self.inside.search ≡ Some c.in-Some.search = c.in-Some.is in
    let same : state ≡ c.args.self.now.state =
    ap (λ (o : Option Search). record { texts = history.texts; current = history.current; pattern = option_map (λ (s : Search). s.finder) o }) (sym one)
    ∙ ap (λ (v : LimitedBuffer). v.state) c.self.view_is in
    let is : c.args.self.now.state.pattern ≡ Some finder = ap (λ (b : BufferState). b.pattern) (sym same) in
    let here : text_of c.current-old.result.now ≡ current_text c.args.self.now.state = c.current-old.ensures.text ∙ ap current_text same in
    let limit : c.self.inside.limits.text ≡ c.args.self.now.limit = ap (λ (v : LimitedBuffer). v.limit) c.self.view_is in
    let p = err_from_is_err_and c.from_residual.result c.from_residual.ensures.1 in
    let fault : c.in_err-replaced.field-0.0 ≡ Size = cc in
    subst (λ n. GetsTooLongListed n c.args.self.now.state c.args.from_line c.args.to_line (chars c.args.template.now)) limit
    (long-here c.args.self.now.state finder (text_of c.current-old.result.now) is here c.args.from_line c.args.to_line c.self.inside.limits.text (chars c.args.template.now)
    (c.in_err-replaced.ensures.size (ap Err fault)))

pub returns-clause-fits : goal.returns-clause-fits
returns-clause-fits c = λ gets.
    let history = c.self.inside.history in
    let finder = c.in-Some.search.finder in
    let state : BufferState = record { texts = history.texts; current = history.current; pattern = Some finder } in
    let one : c.self.inside.search ≡ Some c.in-Some.search = c.in-Some.is in
    let same : state ≡ c.args.self.now.state =
    ap (λ (o : Option Search). record { texts = history.texts; current = history.current; pattern = option_map (λ (s : Search). s.finder) o }) (sym one)
    ∙ ap (λ (v : LimitedBuffer). v.state) c.self.view_is in
    let is : c.args.self.now.state.pattern ≡ Some finder = ap (λ (b : BufferState). b.pattern) (sym same) in
    let here : text_of c.current-old.result.now ≡ current_text c.args.self.now.state = c.current-old.ensures.text ∙ ap current_text same in
    let limit : c.self.inside.limits.text ≡ c.args.self.now.limit = ap (λ (v : LimitedBuffer). v.limit) c.self.view_is in
    c.in_ok-replaced.ensures.fits (long-there c.args.self.now.state finder (text_of c.current-old.result.now) is here c.args.from_line c.args.to_line c.self.inside.limits.text (chars c.args.template.now)
    (subst (λ n. GetsTooLongListed n c.args.self.now.state c.args.from_line c.args.to_line (chars c.args.template.now)) (sym limit) gets))

pub returns-clause-ok : goal.returns-clause-ok
returns-clause-ok c =
    let history = c.self.inside.history in
    let finder = c.in-Some.search.finder in
    let state : BufferState = record { texts = history.texts; current = history.current; pattern = Some finder } in
    let one : c.self.inside.search ≡ Some c.in-Some.search = c.in-Some.is in
    let same : state ≡ c.args.self.now.state =
    ap (λ (o : Option Search). record { texts = history.texts; current = history.current; pattern = option_map (λ (s : Search). s.finder) o }) (sym one)
    ∙ ap (λ (v : LimitedBuffer). v.state) c.self.view_is in
    let is : c.args.self.now.state.pattern ≡ Some finder = ap (λ (b : BufferState). b.pattern) (sym same) in
    let here : text_of c.current-old.result.now ≡ current_text c.args.self.now.state = c.current-old.ensures.text ∙ ap current_text same in
    let told = c.in_ok-replaced.ensures.replaced in
    let template = chars c.args.template.now in
    let new = text_of c.in_ok-replaced.replaced.text in
    let text : new ≡ text_with c.args.self.now.state template (joined told.lists) =
    told.text_is ∙ ap (λ t. replaced (bytes_of t) template 0 (joined told.lists)) here in
    let finder_is : Some c.apply_and_keep.new.self.finder ≡ Some finder = ap Some (c.apply_and_keep.ensures.finder ∙ c.replaced_listed.ensures.finder) in
    record {
      lists = told.lists;
      are = listed-here c.args.self.now.state finder (text_of c.current-old.result.now) is here c.args.from_line c.args.to_line told.lists told.are;
      counted = told.counted;
      changed =
          ap (λ p. record { texts = c.add.new.self.texts; current = c.add.new.self.current; pattern = p }) finder_is
          ∙ ap (λ (t : Texts). record { texts = t.texts; current = t.current; pattern = Some finder }) c.in_ok-add.ensures.ok
          ∙ ap (λ b. with_edit b new) same ∙ ap (with_edit c.args.self.now.state) text;
    }

pub returns-clause-changed : goal.returns-clause-changed
returns-clause-changed c =
    let history = c.self.inside.history in
    let finder = c.in-Some.search.finder in
    let state : BufferState = record { texts = history.texts; current = history.current; pattern = Some finder } in
    let one : c.self.inside.search ≡ Some c.in-Some.search = c.in-Some.is in
    let same : state ≡ c.args.self.now.state =
    ap (λ (o : Option Search). record { texts = history.texts; current = history.current; pattern = option_map (λ (s : Search). s.finder) o }) (sym one)
    ∙ ap (λ (v : LimitedBuffer). v.state) c.self.view_is in
    let is : c.args.self.now.state.pattern ≡ Some finder = ap (λ (b : BufferState). b.pattern) (sym same) in
    let here : text_of c.current-old.result.now ≡ current_text c.args.self.now.state = c.current-old.ensures.text ∙ ap current_text same in
    let after : BufferState = record { texts = c.add.new.self.texts; current = c.add.new.self.current; pattern = Some c.apply_and_keep.new.self.finder } in
    replaces-told c.args.self.now.state after finder (text_of c.current-old.result.now) (text_of c.in_ok-replaced.replaced.text) c.in_ok-replaced.replaced.patches.changed
    is (ap Some (c.apply_and_keep.ensures.finder ∙ c.replaced_listed.ensures.finder)) here (sym c.in_ok-add.ensures.current) c.in_ok-replaced.ensures.changed

pub returns-clause-text_changes : goal.returns-clause-text_changes
returns-clause-text_changes c =
    tells-ranges _ _ _ _ _ _ (ap (λ (v : LimitedBuffer). current_text v.state) c.self.view_is) (sym c.in_ok-add.ensures.current)
    (sym (ap (λ (t : Texts). ranges_in t.is_back t.last) c.in_ok-add.ensures.ok)) c.in_ok-add.ensures.ranges

pub returns-clause-kept : goal.returns-clause-kept
returns-clause-kept c =
    let history = c.self.inside.history in
    let finder = c.in-Some.search.finder in
    let state : BufferState = record { texts = history.texts; current = history.current; pattern = Some finder } in
    let one : c.self.inside.search ≡ Some c.in-Some.search = c.in-Some.is in
    let same : state ≡ c.args.self.now.state =
    ap (λ (o : Option Search). record { texts = history.texts; current = history.current; pattern = option_map (λ (s : Search). s.finder) o }) (sym one)
    ∙ ap (λ (v : LimitedBuffer). v.state) c.self.view_is in
    let is : c.args.self.now.state.pattern ≡ Some finder = ap (λ (b : BufferState). b.pattern) (sym same) in
    let here : text_of c.current-old.result.now ≡ current_text c.args.self.now.state = c.current-old.ensures.text ∙ ap current_text same in
    let template = chars c.args.template.now in
    let told = c.in_ok-replaced.ensures.replaced in
    let changes : listed c.in_ok-replaced.replaced.changes ≡ changes_of (bytes_of (current_text c.args.self.now.state)) template 0 0 (joined told.lists) =
    told.changes_are ∙ ap (λ t. changes_of (bytes_of t) template 0 0 (joined told.lists)) here in
    record {
      lists = told.lists;
      are = listed-here c.args.self.now.state finder (text_of c.current-old.result.now) is here c.args.from_line c.args.to_line told.lists told.are;
      kept = ap (λ (t : Texts). t.changes) c.in_ok-add.ensures.ok ∙ ap (λ (v : LimitedBuffer). with_changes v (listed c.in_ok-replaced.replaced.changes)) c.self.view_is
          ∙ ap (with_changes c.args.self.now) changes;
      ranges = ap (λ (t : Texts). ranges_in t.is_back t.last) c.in_ok-add.ensures.ok ∙ ap ranges_of changes;
    }

pub returns-clause-added : goal.returns-clause-added
returns-clause-added c =
    let history = c.self.inside.history in
    let finder = c.in-Some.search.finder in
    let state : BufferState = record { texts = history.texts; current = history.current; pattern = Some finder } in
    let one : c.self.inside.search ≡ Some c.in-Some.search = c.in-Some.is in
    let same : state ≡ c.args.self.now.state =
    ap (λ (o : Option Search). record { texts = history.texts; current = history.current; pattern = option_map (λ (s : Search). s.finder) o }) (sym one)
    ∙ ap (λ (v : LimitedBuffer). v.state) c.self.view_is in
    let is : c.args.self.now.state.pattern ≡ Some finder = ap (λ (b : BufferState). b.pattern) (sym same) in
    let here : text_of c.current-old.result.now ≡ current_text c.args.self.now.state = c.current-old.ensures.text ∙ ap current_text same in
    let template = chars c.args.template.now in
    let told = c.in_ok-replaced.ensures.replaced in
    let changes : listed c.in_ok-replaced.replaced.changes ≡ changes_of (bytes_of (current_text c.args.self.now.state)) template 0 0 (joined told.lists) =
    told.changes_are ∙ ap (λ t. changes_of (bytes_of t) template 0 0 (joined told.lists)) here in
    record {
      lists = told.lists;
      are = listed-here c.args.self.now.state finder (text_of c.current-old.result.now) is here c.args.from_line c.args.to_line told.lists told.are;
      few = subst (λ t. c.in_ok-replaced.replaced.patches.changed.added
          ≤ lines_spanned (bytes_of t) (changes_of (bytes_of (current_text c.args.self.now.state)) template 0 0 (joined told.lists))) (sym c.in_ok-add.ensures.current)
          (subst (λ cs. c.in_ok-replaced.replaced.patches.changed.added ≤ lines_spanned (bytes_of (text_of c.in_ok-replaced.replaced.text)) cs) changes c.in_ok-replaced.ensures.added);
    }

pub invariant_of-self-2 : goal.invariant_of-self-2
invariant_of-self-2 c =
    let history = c.self.inside.history in
    let finder = c.in-Some.search.finder in
    let held = subst (λ o. IfSome o (λ (s : Search). IsReport (text_at history.texts history.current) s.finder s.rows.items × (match_count s.rows.items < 2 ^ 64))) c.in-Some.is c.self.invariant.0 in
    let same : c.apply_and_keep.new.self.finder ≡ finder = c.apply_and_keep.ensures.finder ∙ c.replaced_listed.ensures.finder in
    let rows : c.apply_and_keep.new.self.rows.items ≡ patched 0 c.in-Some.search.rows.items c.in_ok-replaced.replaced.patches.patches.items =
    c.apply_and_keep.ensures.rows ∙ ap (λ rs. patched 0 rs c.in_ok-replaced.replaced.patches.patches.items) c.replaced_listed.ensures.rows in
    let report : IsReport (text_at c.add.new.self.texts c.add.new.self.current) finder c.apply_and_keep.new.self.rows.items =
    subst (IsReport (text_at c.add.new.self.texts c.add.new.self.current) finder) (sym rows)
    (subst (λ t. IsReport t finder (patched 0 c.in-Some.search.rows.items c.in_ok-replaced.replaced.patches.patches.items)) (sym c.in_ok-add.ensures.current) c.in_ok-replaced.ensures.report) in (
      (
        subst (λ f. IsReport (text_at c.add.new.self.texts c.add.new.self.current) f c.apply_and_keep.new.self.rows.items) (sym same) report,
        subst (λ rs. match_count rs < 2 ^ 64) (sym rows) c.in_ok-replaced.ensures.few,
      ),
      c.keep_before_change.ensures.holds,
      kept-made c.one_report.ensures c.a_row_a_line.ensures history c.add.new.self (text_of c.in_ok-replaced.replaced.text) finder c.apply_and_keep.new.self.finder c.in-Some.search.rows.items
          c.apply_and_keep.new.self.rows.items c.apply_and_keep.result c.undo_steps-step.result c.current-old.ensures.inside
          (ap (λ (t : Texts). t.texts) c.in_ok-add.ensures.ok) (ap (λ (t : Texts). t.current) c.in_ok-add.ensures.ok) c.undo_steps-step.ensures held.0 report
          c.apply_and_keep.ensures.step (put-back _ _ _ _ c.replaced_listed.ensures.rows c.apply_and_keep.ensures.back) same,
    )
