use Rattle.std.proofs.Common.{◌≡◌, if◌then◌else◌, [], ◌∷◌, length, refl, sym, ap, ◌∙◌, subst, arith, ◌^◌, ◌<◌, List, ℕ}
use Rattle.std.specs.Prelude.{Option, Some, option_map, is_some}
use Rattle.std.specs.Str.{chars}
use Rattle.std.proofs.lemmas.Str.{encodes-chars}
use Rattle.str_indices.specs.Text.{byte_len}
use Rattle.ropey.specs.Chunks.{text_of}
use Rattle.rope_search.specs.declared.search.Search.{Search}
use Rattle.rope_search.specs.Session.{BufferState, LimitedBuffer, current_text}
use Rattle.rope_search_reports.specs.Changes.{AreChanges}
use Rattle.rope_search_reports.specs.Text.{line_count, IsText}
use Rattle.rope_search.specs.Cost.{rows_anew}
use Rattle.rope_search.specs.Places.{IsMarked}
use Rattle.rope_search.specs.Histories.{Texts, with_changes, text_at}
use Rattle.rope_search.specs.TextChanges.{ranges_in}
use Rattle.rope_search.proofs.KeepLemmas.{keeps_edit}
use Rattle.rope_search.proofs.ChangedLemmas.{replaces-told}
use Rattle.rope_search.proofs.TextChangeLemmas.{tells-ranges}
use Rattle.rope_search.proofs.PartLaws.{cutting_scalars}
use Rattle.rope_search.proofs.KeptRowLemmas.{kept-added}
use Rattle.rope_search_reports.specs.Report.{IsReport, match_count}
use Rattle.rope_search_reports.specs.Patches.{patched}
use Rattle.rope_search.proofs.buffer.Buffer.edit.Goals as goal

pub returns-in_err-patches-clause-rows : goal.returns-in_err-patches-clause-rows
returns-in_err-patches-clause-rows c =
    let history = c.self.inside.history in
    let finder = c.in-Some.search.finder in
    let state : BufferState = record { texts = history.texts; current = history.current; pattern = Some finder } in
    let one : c.self.inside.search ≡ Some c.in-Some.search = c.in-Some.is in
    let same : state ≡ c.args.self.now.state =
    ap (λ (o : Option Search). record { texts = history.texts; current = history.current; pattern = option_map (λ (s : Search). s.finder) o }) (sym one)
    ∙ ap (λ (v : LimitedBuffer). v.state) c.self.view_is in
    let is : c.args.self.now.state.pattern ≡ Some finder = ap (λ (b : BufferState). b.pattern) (sym same) in
    let here : text_of c.current-old.result.now ≡ current_text c.args.self.now.state = c.current-old.ensures.text ∙ ap current_text same in
    let old = text_of c.current-old.result.now in
    let inserted = chars c.args.inserted.now in
    let marked : IsMarked old c.in_ok-part.part = subst (λ t. IsMarked t c.in_ok-part.part) (sym here) c.in_ok-part.ensures.part.marked in
    let changed : AreChanges (c.change-change.result ∷ []) 0 0 old (text_of c.in_ok-new.new) (line_count inserted) =
    subst (λ t. AreChanges (c.change-change.result ∷ []) 0 0 old t (line_count inserted)) (sym c.in_ok-new.ensures.text) (c.change-change.ensures.changes old marked) in
    let rows : rows_anew c.args.self.now.state inserted ≡ line_count inserted = ap (λ p. if is_some p then line_count inserted else 0) is in
    record { grows = c.patches.ensures.once.grows; made = omega (arith, c.patches.ensures.count (line_count inserted) changed, rows); no_whole = c.patches.ensures.once.no_whole }

pub returns-in_err-add-2-clause-rows : goal.returns-in_err-add-2-clause-rows
returns-in_err-add-2-clause-rows c =
    let history = c.self.inside.history in
    let finder = c.in-Some.search.finder in
    let state : BufferState = record { texts = history.texts; current = history.current; pattern = Some finder } in
    let one : c.self.inside.search ≡ Some c.in-Some.search = c.in-Some.is in
    let same : state ≡ c.args.self.now.state =
    ap (λ (o : Option Search). record { texts = history.texts; current = history.current; pattern = option_map (λ (s : Search). s.finder) o }) (sym one)
    ∙ ap (λ (v : LimitedBuffer). v.state) c.self.view_is in
    let is : c.args.self.now.state.pattern ≡ Some finder = ap (λ (b : BufferState). b.pattern) (sym same) in
    let here : text_of c.current-old.result.now ≡ current_text c.args.self.now.state = c.current-old.ensures.text ∙ ap current_text same in
    let old = text_of c.current-old.result.now in
    let inserted = chars c.args.inserted.now in
    let marked : IsMarked old c.in_ok-part.part = subst (λ t. IsMarked t c.in_ok-part.part) (sym here) c.in_ok-part.ensures.part.marked in
    let changed : AreChanges (c.change-change.result ∷ []) 0 0 old (text_of c.in_ok-new.new) (line_count inserted) =
    subst (λ t. AreChanges (c.change-change.result ∷ []) 0 0 old t (line_count inserted)) (sym c.in_ok-new.ensures.text) (c.change-change.ensures.changes old marked) in
    let rows : rows_anew c.args.self.now.state inserted ≡ line_count inserted = ap (λ p. if is_some p then line_count inserted else 0) is in
    record { grows = c.patches.ensures.once.grows; made = omega (arith, c.patches.ensures.count (line_count inserted) changed, rows); no_whole = c.patches.ensures.once.no_whole }

pub returns-clause-rows : goal.returns-clause-rows
returns-clause-rows c =
    let history = c.self.inside.history in
    let finder = c.in-Some.search.finder in
    let state : BufferState = record { texts = history.texts; current = history.current; pattern = Some finder } in
    let one : c.self.inside.search ≡ Some c.in-Some.search = c.in-Some.is in
    let same : state ≡ c.args.self.now.state =
    ap (λ (o : Option Search). record { texts = history.texts; current = history.current; pattern = option_map (λ (s : Search). s.finder) o }) (sym one)
    ∙ ap (λ (v : LimitedBuffer). v.state) c.self.view_is in
    let is : c.args.self.now.state.pattern ≡ Some finder = ap (λ (b : BufferState). b.pattern) (sym same) in
    let here : text_of c.current-old.result.now ≡ current_text c.args.self.now.state = c.current-old.ensures.text ∙ ap current_text same in
    let old = text_of c.current-old.result.now in
    let inserted = chars c.args.inserted.now in
    let marked : IsMarked old c.in_ok-part.part = subst (λ t. IsMarked t c.in_ok-part.part) (sym here) c.in_ok-part.ensures.part.marked in
    let changed : AreChanges (c.change-change.result ∷ []) 0 0 old (text_of c.in_ok-new.new) (line_count inserted) =
    subst (λ t. AreChanges (c.change-change.result ∷ []) 0 0 old t (line_count inserted)) (sym c.in_ok-new.ensures.text) (c.change-change.ensures.changes old marked) in
    let rows : rows_anew c.args.self.now.state inserted ≡ line_count inserted = ap (λ p. if is_some p then line_count inserted else 0) is in
    record { grows = c.patches.ensures.once.grows; made = omega (arith, c.patches.ensures.count (line_count inserted) changed, rows); no_whole = c.patches.ensures.once.no_whole }

pub returns-in_default-clause-kept : goal.returns-in_default-clause-kept
returns-in_default-clause-kept c =
    let len = length c.args.inserted.now in
    let bytes : byte_len (chars c.args.inserted.now) ≡ len = ap length (encodes-chars c.args.inserted.now c.utf8.inserted) in
    keeps_edit c.args.self.now _ c.args.from c.args.to (current_text c.args.self.now.state) (chars c.args.inserted.now) c.in_ok-part.part c.change-change.result len refl
    c.in_ok-part.ensures.part c.change-change.ensures.places bytes (ap (λ (t : Texts). t.changes) c.in_ok-add.ensures.ok ∙ ap (λ (b : LimitedBuffer). with_changes b (c.change-change.result ∷ [])) c.self.view_is)
    (ap (λ (t : Texts). ranges_in t.is_back t.last) c.in_ok-add.ensures.ok)

pub returns-clause-kept : goal.returns-clause-kept
returns-clause-kept c =
    let len = length c.args.inserted.now in
    let bytes : byte_len (chars c.args.inserted.now) ≡ len = ap length (encodes-chars c.args.inserted.now c.utf8.inserted) in
    keeps_edit c.args.self.now _ c.args.from c.args.to (current_text c.args.self.now.state) (chars c.args.inserted.now) c.in_ok-part.part c.change-change.result len refl
    c.in_ok-part.ensures.part c.change-change.ensures.places bytes (ap (λ (t : Texts). t.changes) c.in_ok-add-2.ensures.ok ∙ ap (λ (b : LimitedBuffer). with_changes b (c.change-change.result ∷ [])) c.self.view_is)
    (ap (λ (t : Texts). ranges_in t.is_back t.last) c.in_ok-add-2.ensures.ok)

pub returns-clause-changed : goal.returns-clause-changed
returns-clause-changed c =
    let history = c.self.inside.history in
    let finder = c.in-Some.search.finder in
    let state : BufferState = record { texts = history.texts; current = history.current; pattern = Some finder } in
    let one : c.self.inside.search ≡ Some c.in-Some.search = c.in-Some.is in
    let same : state ≡ c.args.self.now.state =
    ap (λ (o : Option Search). record { texts = history.texts; current = history.current; pattern = option_map (λ (s : Search). s.finder) o }) (sym one)
    ∙ ap (λ (v : LimitedBuffer). v.state) c.self.view_is in
    let is : c.args.self.now.state.pattern ≡ Some finder = ap (λ (b : BufferState). b.pattern) (sym same) in
    let here : text_of c.current-old.result.now ≡ current_text c.args.self.now.state = c.current-old.ensures.text ∙ ap current_text same in
    let after : BufferState = record { texts = c.add-2.new.self.texts; current = c.add-2.new.self.current; pattern = Some c.apply.new.self.finder } in
    replaces-told c.args.self.now.state after finder (text_of c.current-old.result.now) (text_of c.in_ok-new.new) c.in_ok-patches.patches.changed
    is (ap Some (c.apply.ensures.finder ∙ c.patches.ensures.finder)) here (sym c.in_ok-add-2.ensures.current) c.in_ok-patches.ensures.changed

pub returns-clause-added : goal.returns-clause-added
returns-clause-added c =
    let history = c.self.inside.history in
    let finder = c.in-Some.search.finder in
    let state : BufferState = record { texts = history.texts; current = history.current; pattern = Some finder } in
    let one : c.self.inside.search ≡ Some c.in-Some.search = c.in-Some.is in
    let same : state ≡ c.args.self.now.state =
    ap (λ (o : Option Search). record { texts = history.texts; current = history.current; pattern = option_map (λ (s : Search). s.finder) o }) (sym one)
    ∙ ap (λ (v : LimitedBuffer). v.state) c.self.view_is in
    let is : c.args.self.now.state.pattern ≡ Some finder = ap (λ (b : BufferState). b.pattern) (sym same) in
    let here : text_of c.current-old.result.now ≡ current_text c.args.self.now.state = c.current-old.ensures.text ∙ ap current_text same in
    let old = text_of c.current-old.result.now in
    let inserted = chars c.args.inserted.now in
    let marked : IsMarked old c.in_ok-part.part = subst (λ t. IsMarked t c.in_ok-part.part) (sym here) c.in_ok-part.ensures.part.marked in
    let changed : AreChanges (c.change-change.result ∷ []) 0 0 old (text_of c.in_ok-new.new) (line_count inserted) =
    subst (λ t. AreChanges (c.change-change.result ∷ []) 0 0 old t (line_count inserted)) (sym c.in_ok-new.ensures.text) (c.change-change.ensures.changes old marked) in
    let rows : rows_anew c.args.self.now.state inserted ≡ line_count inserted = ap (λ p. if is_some p then line_count inserted else 0) is in
    let is_text : IsText (text_of c.in_ok-new.new) = cutting_scalars c.in_ok-new.new c.len_bytes.ensures.cut.cut in
    let lines = c.changes_put_lines.ensures (c.change-change.result ∷ []) old (text_of c.in_ok-new.new) (line_count inserted) is_text changed in
    omega (arith, c.in_ok-patches.ensures.added, lines, rows)

pub returns-in_default-clause-text_changes : goal.returns-in_default-clause-text_changes
returns-in_default-clause-text_changes c =
    tells-ranges _ _ _ _ _ _ (ap (λ (v : LimitedBuffer). current_text v.state) c.self.view_is) (sym c.in_ok-add.ensures.current)
    (sym (ap (λ (t : Texts). ranges_in t.is_back t.last) c.in_ok-add.ensures.ok)) c.in_ok-add.ensures.ranges

pub returns-clause-text_changes : goal.returns-clause-text_changes
returns-clause-text_changes c =
    tells-ranges _ _ _ _ _ _ (ap (λ (v : LimitedBuffer). current_text v.state) c.self.view_is) (sym c.in_ok-add-2.ensures.current)
    (sym (ap (λ (t : Texts). ranges_in t.is_back t.last) c.in_ok-add-2.ensures.ok)) c.in_ok-add-2.ensures.ranges

pub invariant_of-self-2 : goal.invariant_of-self-2
invariant_of-self-2 c =
    let history = c.self.inside.history in
    let finder = c.in-Some.search.finder in
    let here : List ℕ = text_at c.add-2.new.self.texts c.add-2.new.self.current in
    let patches = c.in_ok-patches.patches.patches.items in
    let same : c.apply.new.self.finder ≡ finder = c.apply.ensures.finder ∙ c.patches.ensures.finder in
    let rows : c.apply.new.self.rows.items ≡ patched 0 c.in-Some.search.rows.items patches = c.apply.ensures.rows ∙ ap (λ rs. patched 0 rs patches) c.patches.ensures.rows in
    let report : IsReport here finder (patched 0 c.in-Some.search.rows.items patches) =
    subst (λ t. IsReport t finder (patched 0 c.in-Some.search.rows.items patches)) (sym c.in_ok-add-2.ensures.current) c.in_ok-patches.ensures.report in
    let set : option_map (λ (s : Search). s.finder) c.self.inside.search ≡ Some c.in-Some.search.finder = ap (option_map (λ (s : Search). s.finder)) c.in-Some.is in (
      (
        subst (λ f. IsReport here f c.apply.new.self.rows.items) (sym same) (subst (IsReport here finder) (sym rows) report),
        subst (λ rs. match_count rs < 2 ^ 64) (sym rows) c.in_ok-patches.ensures.few,
      ),
      c.keep_before_change-2.ensures.holds,
      kept-added history c.add-2.new.self (text_of c.in_ok-new.new) c.in-Some.search.finder c.apply.new.self.finder _ c.self.inside.kept c.keep_before.new.kept c.undo_steps.result
          c.current-old.ensures.inside set c.self.invariant.2 c.undo_steps.ensures c.keep_before.ensures.dropped
          (ap (λ (t : Texts). t.texts) c.in_ok-add-2.ensures.ok) (ap (λ (t : Texts). t.current) c.in_ok-add-2.ensures.ok) same,
    )
