-- The rows of its report that a buffer reports as replaced, and what the buffers of a session
-- report.
use Rattle.std.proofs.Common.{◌≡◌, ℕ, ◌+◌, ◌≤◌, List, [], length, map, refl, sym, ap, ◌∙◌, subst, arith, slice_index_or, slice_set, if◌then◌else◌}
use Rattle.std.specs.Prelude.{Option, None, Some, is_some, option_map}
use Rattle.std.specs.Str.{chars}
use Rattle.std.proofs.lemmas.List.{map-set, get_or-map, get_or-set_same, set-get_or, length-map, drop_all}
use Rattle.std.proofs.lemmas.Option.{MatchOption-at_none, MatchOption-at_some}
use Rattle.rope_search_reports.specs.Laws.{HasARowALine}
use Rattle.rope_search_reports.specs.Report.{IsReport}
use Rattle.rope_search_reports.specs.Text.{line_count}
use Rattle.rope_search_reports.specs.declared.positions.Position.{Position}
use Rattle.rope_search.specs.declared.search.Search.{Search}
use Rattle.rope_search.specs.declared.stretches.Stretch.{Stretch}
use Rattle.rope_search.specs.Changed.{Replaces, SpansMatches, AddsFew, TellsRows}
use Rattle.rope_search.specs.Cost.{rows_anew}
use Rattle.rope_search.specs.Histories.{text_at}
use Rattle.rope_search.specs.Order.{Order, EditText, ReplaceAll}
use Rattle.rope_search.specs.Session.{BufferState, LimitedBuffer, LimitedSession, fresh, current_text, chosen_buffer, IsReportIn}
use Rattle.rope_search.specs.Stretches.{ReplacesIn, whole_stretch}
use Rattle.rope_search.proofs.SessionLemmas.{Chosen, Chosen-state, state_with}

-- ---- a buffer

-- with a pattern, as in the texts
pub replaces-with : (old new : BufferState) (pattern : List ℕ) (stretch : Stretch) → old.pattern ≡ Some pattern → new.pattern ≡ Some pattern
    → ReplacesIn (current_text old) (current_text new) pattern stretch → Replaces old new stretch
replaces-with old new pattern stretch is is' replaces = λ rows rows' are are'.
    replaces rows rows' (MatchOption-at_some (rows ≡ []) (λ p. IsReport (current_text old) p rows) pattern is are)
    (MatchOption-at_some (rows' ≡ []) (λ p. IsReport (current_text new) p rows') pattern is' are')

pub replaces-told : (old new : BufferState) (pattern text text' : List ℕ) (stretch : Stretch) → old.pattern ≡ Some pattern → new.pattern ≡ Some pattern
    → text ≡ current_text old → text' ≡ current_text new → ReplacesIn text text' pattern stretch → Replaces old new stretch
replaces-told old new pattern text text' stretch is is' here here' replaces =
    replaces-with old new pattern stretch is is'
    (subst (λ t. ReplacesIn t (current_text new) pattern stretch) here (subst (λ t. ReplacesIn text t pattern stretch) here' replaces))

-- the number of rows is that of the text's lines, if there is a pattern
rows-counted : HasARowALine → (buffer : BufferState) (pattern : Option (List ℕ)) (rows : List (List (ℕ × ℕ))) → buffer.pattern ≡ pattern → IsReportIn buffer rows
    → length rows ≡ (if is_some pattern then line_count (current_text buffer) else 0)
rows-counted law buffer None rows is are = ap length (MatchOption-at_none (rows ≡ []) (λ p. IsReport (current_text buffer) p rows) is are)
rows-counted law buffer (Some pattern) rows is are =
    law (current_text buffer) pattern rows (MatchOption-at_some (rows ≡ []) (λ p. IsReport (current_text buffer) p rows) pattern is are)

pub replaces-whole : HasARowALine → (old new : BufferState) (removed added : ℕ) → removed ≡ rows_anew old (current_text old) → added ≡ rows_anew new (current_text new)
    → Replaces old new (whole_stretch removed added)
replaces-whole law old new removed added is is' = λ rows rows' are are'.
    let all : length rows ≡ removed = rows-counted law old old.pattern rows refl are ∙ sym is in
    let all' : length rows' ≡ added = rows-counted law new new.pattern rows' refl are' ∙ sym is' in
    record {
      before = refl;
      behind = drop_all (0 + added) rows' (omega (arith, all')) ∙ sym (drop_all (0 + removed) rows (omega (arith, all)));
      within = omega (arith, all);
      within_new = omega (arith, all');
    }

-- if the pattern is dropped
pub replaces-off : HasARowALine → (texts : List (List ℕ)) (current : ℕ) (search : Option Search) (old : BufferState) (text : List ℕ) (removed : ℕ) (stretch : Stretch)
    → record { texts = texts; current = current; pattern = option_map (λ (s : Search). s.finder) search } ≡ old → text ≡ text_at texts current
    → removed ≡ (if is_some search then line_count text else 0) → stretch ≡ whole_stretch removed 0
    → Replaces old (record { texts = texts; current = current; pattern = None }) stretch
replaces-off law texts current None old text removed stretch same here is told =
    let before : BufferState = record { texts = texts; current = current; pattern = None } in
    subst (λ b. Replaces b before stretch) same (subst (Replaces before before) (sym told) (replaces-whole law before before removed 0 is refl))
replaces-off law texts current (Some s) old text removed stretch same here is told =
    let before : BufferState = record { texts = texts; current = current; pattern = Some s.finder } in
    let after : BufferState = record { texts = texts; current = current; pattern = None } in
    subst (λ b. Replaces b after stretch) same (subst (Replaces before after) (sym told) (replaces-whole law before after removed 0 (is ∙ ap line_count here) refl))

-- ---- the buffers of a session

-- what they report, with another buffer in place of the chosen one
abbrev pub told_with : List LimitedBuffer → ℕ → LimitedBuffer → List Stretch
told_with items k new = map (λ (b : LimitedBuffer). b.changed) (slice_set items k new)

pub told-set : (items : List LimitedBuffer) (k limit : ℕ) (old new : LimitedBuffer) (s : LimitedSession) → Chosen items k limit old s
    → told_with items k new ≡ slice_set s.changed s.state.chosen new.changed
told-set items k limit old new s c =
    let changed : LimitedBuffer → Stretch = λ b. b.changed in
    subst (λ (t : LimitedSession). told_with items k new ≡ slice_set t.changed t.state.chosen new.changed) c.seen (map-set changed items k new)

-- that reports what it did before
pub told-kept : (items : List LimitedBuffer) (k limit : ℕ) (old new : LimitedBuffer) (s : LimitedSession) → Chosen items k limit old s → new.changed ≡ old.changed
    → told_with items k new ≡ s.changed
told-kept items k limit old new s c same =
    let changed : LimitedBuffer → Stretch = λ b. b.changed in
    let all = map changed items in
    let here : slice_index_or all k old.changed ≡ old.changed = get_or-map changed items k old old.changed c.inside ∙ ap changed (sym c.is) in
    map-set changed items k new ∙ ap (slice_set all k) (same ∙ sym here) ∙ set-get_or all k old.changed ∙ ap (λ (t : LimitedSession). t.changed) c.seen

pub chosen-with : (items : List LimitedBuffer) (k limit : ℕ) (old new : LimitedBuffer) (s : LimitedSession) → Chosen items k limit old s
    → chosen_buffer (state_with items k new) ≡ new.state
chosen-with items k limit old new s c =
    let state : LimitedBuffer → BufferState = λ b. b.state in
    ap (λ (bs : List BufferState). slice_index_or bs k (fresh [])) (map-set state items k new)
    ∙ get_or-set_same (map state items) k new.state (fresh []) (omega (arith, c.inside, length-map items state))

-- that reports the rows that a command replaced
pub tells : (order : Order) (items : List LimitedBuffer) (k limit : ℕ) (old new : LimitedBuffer) (s : LimitedSession) → Chosen items k limit old s
    → Replaces old.state new.state new.changed → AddsFew s.state order (state_with items k new) new.changed
    → TellsRows s.state order (state_with items k new) s.changed (told_with items k new)
tells order items k limit old new s c replaces few = record {
  stretch = new.changed;
  replaces = rw (Chosen-state items k limit old s c, chosen-with items k limit old new s c) replaces;
  few = few;
  others = told-set items k limit old new s c;
}

pub tells-edit : (from to : Position) (bytes : List ℕ) (items : List LimitedBuffer) (k limit : ℕ) (old new : LimitedBuffer) (s : LimitedSession) → Chosen items k limit old s
    → Replaces old.state new.state new.changed → new.changed.added ≤ rows_anew old.state (chars bytes)
    → TellsRows s.state (EditText from to bytes) (state_with items k new) s.changed (told_with items k new)
tells-edit from to bytes items k limit old new s c replaces few =
    tells (EditText from to bytes) items k limit old new s c replaces
    (subst (λ b. new.changed.added ≤ rows_anew b (chars bytes)) (sym (Chosen-state items k limit old s c)) few)

pub tells-replace : (bytes : List ℕ) (items : List LimitedBuffer) (k limit : ℕ) (old new : LimitedBuffer) (s : LimitedSession) → Chosen items k limit old s
    → Replaces old.state new.state new.changed → SpansMatches old.state (chars bytes) new.state new.changed
    → TellsRows s.state (ReplaceAll bytes) (state_with items k new) s.changed (told_with items k new)
tells-replace bytes items k limit old new s c replaces few =
    tells (ReplaceAll bytes) items k limit old new s c replaces
    (rw (Chosen-state items k limit old s c, chosen-with items k limit old new s c) few)
