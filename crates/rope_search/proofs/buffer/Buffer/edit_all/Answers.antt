use Rattle.std.proofs.Common.{◌≡◌, map, sym, ap, ◌∙◌, subst, ◌^◌, ◌<◌, List, ℕ}
use Rattle.std.specs.Prelude.{Option, Some, option_map}
use Rattle.ropey.specs.Chunks.{text_of}
use Rattle.rope_search.specs.declared.search.Search.{Search}
use Rattle.rope_search.specs.Session.{BufferState, LimitedBuffer, current_text, with_edit}
use Rattle.rope_search.specs.Histories.{Texts, with_changes, text_at}
use Rattle.rope_search.specs.Edits.{MakeOf, in_full}
use Rattle.rope_search.specs.TextChanges.{ranges_in}
use Rattle.rope_search.proofs.ChangedLemmas.{replaces-told}
use Rattle.rope_search.proofs.TextChangeLemmas.{tells-ranges}
use Rattle.rope_search.proofs.KeptRowLemmas.{kept-added}
use Rattle.rope_search_reports.specs.Report.{IsReport, match_count}
use Rattle.rope_search_reports.specs.Patches.{patched}
use Rattle.rope_search.proofs.buffer.Buffer.edit_all.Goals as goal

pub returns-in_default-clause-ok : goal.returns-in_default-clause-ok
returns-in_default-clause-ok c =
    let new = text_of c.in_ok-text.field-0.text in
    let pattern = option_map (λ (s : Search). s.finder) c.self.inside.search in
    record {
      text = new;
      changes = c.in_ok-text.field-0.changes.items;
      make = subst (λ t. MakeOf t (map in_full c.args.edits.now) new c.in_ok-text.field-0.changes.items)
          (c.current-old.ensures.text ∙ ap (λ (v : LimitedBuffer). current_text v.state) c.self.view_is) c.in_ok-text.ensures.made;
      changed =
          ap (λ (t : Texts). record { texts = t.texts; current = t.current; pattern = pattern }) c.in_ok-add.ensures.ok
          ∙ ap (λ (v : LimitedBuffer). with_edit v.state new) c.self.view_is;
    }

pub returns-in_default-clause-kept : goal.returns-in_default-clause-kept
returns-in_default-clause-kept c =
    let new = text_of c.in_ok-text.field-0.text in
    let changes = c.in_ok-text.field-0.changes.items in
    record {
      text = new;
      changes = changes;
      make = subst (λ t. MakeOf t (map in_full c.args.edits.now) new changes)
          (c.current-old.ensures.text ∙ ap (λ (v : LimitedBuffer). current_text v.state) c.self.view_is) c.in_ok-text.ensures.made;
      kept = ap (λ (t : Texts). t.changes) c.in_ok-add.ensures.ok ∙ ap (λ (v : LimitedBuffer). with_changes v changes) c.self.view_is;
      ranges = ap (λ (t : Texts). ranges_in t.is_back t.last) c.in_ok-add.ensures.ok;
    }

pub returns-clause-ok : goal.returns-clause-ok
returns-clause-ok c =
    let history = c.self.inside.history in
    let finder = c.in-Some.search.finder in
    let state : BufferState = record { texts = history.texts; current = history.current; pattern = Some finder } in
    let one : c.self.inside.search ≡ Some c.in-Some.search = c.in-Some.is in
    let same : state ≡ c.args.self.now.state =
    ap (λ (o : Option Search). record { texts = history.texts; current = history.current; pattern = option_map (λ (s : Search). s.finder) o }) (sym one)
    ∙ ap (λ (v : LimitedBuffer). v.state) c.self.view_is in
    let new = text_of c.in_ok-text.field-0.text in
    let is : Some c.apply.new.self.finder ≡ Some finder = ap Some (c.apply.ensures.finder ∙ c.patches.ensures.finder) in
    record {
      text = new;
      changes = c.in_ok-text.field-0.changes.items;
      make = subst (λ t. MakeOf t (map in_full c.args.edits.now) new c.in_ok-text.field-0.changes.items)
          (c.current-old.ensures.text ∙ ap (λ (v : LimitedBuffer). current_text v.state) c.self.view_is) c.in_ok-text.ensures.made;
      changed =
          ap (λ p. record { texts = c.add-2.new.self.texts; current = c.add-2.new.self.current; pattern = p }) is
          ∙ ap (λ (t : Texts). record { texts = t.texts; current = t.current; pattern = Some finder }) c.in_ok-add-2.ensures.ok
          ∙ ap (λ b. with_edit b new) same;
    }

pub returns-clause-kept : goal.returns-clause-kept
returns-clause-kept c =
    let new = text_of c.in_ok-text.field-0.text in
    let changes = c.in_ok-text.field-0.changes.items in
    record {
      text = new;
      changes = changes;
      make = subst (λ t. MakeOf t (map in_full c.args.edits.now) new changes)
          (c.current-old.ensures.text ∙ ap (λ (v : LimitedBuffer). current_text v.state) c.self.view_is) c.in_ok-text.ensures.made;
      kept = ap (λ (t : Texts). t.changes) c.in_ok-add-2.ensures.ok ∙ ap (λ (v : LimitedBuffer). with_changes v changes) c.self.view_is;
      ranges = ap (λ (t : Texts). ranges_in t.is_back t.last) c.in_ok-add-2.ensures.ok;
    }

pub returns-clause-changed : goal.returns-clause-changed
returns-clause-changed c =
    let history = c.self.inside.history in
    let finder = c.in-Some.search.finder in
    let state : BufferState = record { texts = history.texts; current = history.current; pattern = Some finder } in
    let one : c.self.inside.search ≡ Some c.in-Some.search = c.in-Some.is in
    let same : state ≡ c.args.self.now.state =
    ap (λ (o : Option Search). record { texts = history.texts; current = history.current; pattern = option_map (λ (s : Search). s.finder) o }) (sym one)
    ∙ ap (λ (v : LimitedBuffer). v.state) c.self.view_is in
    let is : c.args.self.now.state.pattern ≡ Some finder = ap (λ (b : BufferState). b.pattern) (sym same) in
    let here : text_of c.current-old.result.now ≡ current_text c.args.self.now.state = c.current-old.ensures.text ∙ ap current_text same in
    let after : BufferState = record { texts = c.add-2.new.self.texts; current = c.add-2.new.self.current; pattern = Some c.apply.new.self.finder } in
    replaces-told c.args.self.now.state after finder (text_of c.current-old.result.now) (text_of c.in_ok-text.field-0.text) c.in_ok-patches.patches.changed
    is (ap Some (c.apply.ensures.finder ∙ c.patches.ensures.finder)) here (sym c.in_ok-add-2.ensures.current) c.in_ok-patches.ensures.changed

pub returns-in_default-clause-text_changes : goal.returns-in_default-clause-text_changes
returns-in_default-clause-text_changes c =
    tells-ranges _ _ _ _ _ _ (ap (λ (v : LimitedBuffer). current_text v.state) c.self.view_is) (sym c.in_ok-add.ensures.current)
    (sym (ap (λ (t : Texts). ranges_in t.is_back t.last) c.in_ok-add.ensures.ok)) c.in_ok-add.ensures.ranges

pub returns-clause-text_changes : goal.returns-clause-text_changes
returns-clause-text_changes c =
    tells-ranges _ _ _ _ _ _ (ap (λ (v : LimitedBuffer). current_text v.state) c.self.view_is) (sym c.in_ok-add-2.ensures.current)
    (sym (ap (λ (t : Texts). ranges_in t.is_back t.last) c.in_ok-add-2.ensures.ok)) c.in_ok-add-2.ensures.ranges

pub invariant_of-self-2 : goal.invariant_of-self-2
invariant_of-self-2 c =
    let history = c.self.inside.history in
    let finder = c.in-Some.search.finder in
    let here : List ℕ = text_at c.add-2.new.self.texts c.add-2.new.self.current in
    let patches = c.in_ok-patches.patches.patches.items in
    let same : c.apply.new.self.finder ≡ finder = c.apply.ensures.finder ∙ c.patches.ensures.finder in
    let rows : c.apply.new.self.rows.items ≡ patched 0 c.in-Some.search.rows.items patches = c.apply.ensures.rows ∙ ap (λ rs. patched 0 rs patches) c.patches.ensures.rows in
    let report : IsReport here finder (patched 0 c.in-Some.search.rows.items patches) =
    subst (λ t. IsReport t finder (patched 0 c.in-Some.search.rows.items patches)) (sym c.in_ok-add-2.ensures.current) c.in_ok-patches.ensures.report in
    let set : option_map (λ (s : Search). s.finder) c.self.inside.search ≡ Some c.in-Some.search.finder = ap (option_map (λ (s : Search). s.finder)) c.in-Some.is in (
      (
        subst (λ f. IsReport here f c.apply.new.self.rows.items) (sym same) (subst (IsReport here finder) (sym rows) report),
        subst (λ rs. match_count rs < 2 ^ 64) (sym rows) c.in_ok-patches.ensures.few,
      ),
      c.keep_before_change-2.ensures.holds,
      kept-added history c.add-2.new.self (text_of c.in_ok-text.field-0.text) c.in-Some.search.finder c.apply.new.self.finder _ c.self.inside.kept c.keep_before.new.kept c.undo_steps.result
          c.current-old.ensures.inside set c.self.invariant.2 c.undo_steps.ensures c.keep_before.ensures.dropped
          (ap (λ (t : Texts). t.texts) c.in_ok-add-2.ensures.ok) (ap (λ (t : Texts). t.current) c.in_ok-add-2.ensures.ok) same,
    )
