-- The answer to a request for the edit of a match, in a buffer and in a session.
use Rattle.std.proofs.Common.{◌≡◌, ◌≢◌, ◌↔◌, ℕ, ◌+◌, ◌<◌, ◌≤◌, ◌⊎◌, inl, inr, List, [], ◌∷◌, Option, None, Some, Result, Ok, Err, IfOk, IfErr, OnOk, OnErr, IsUtf8, length, refl, ap, sym, subst, ◌∙◌, arith, slice_set}
use Rattle.std.specs.Prelude.{MatchOption, option_map, slice_get, string_bytes}
use Rattle.std.specs.Str.{chars}
use Rattle.std.proofs.lemmas.Result.{IfErr-weaker, IfOk-weaker}
use Rattle.str_indices.specs.Text.{byte_len}
use Rattle.rope_search_io.specs.declared.faults.Fault.{Fault}
use Rattle.rope_search_io.specs.declared.faults.Fault.TheVariants.{Nothing, Range, Utf8, Pattern, Limit, Size, Memory}
use Rattle.rope_search_reports.specs.Laws.{HasOneListOfGroups}
use Rattle.rope_search_reports.specs.LineGroups.{TellsGroups, in_columns}
use Rattle.rope_search_reports.specs.Position.{line_text}
use Rattle.rope_search_reports.specs.Replacement.{Groups, whole}
use Rattle.rope_search_reports.specs.Text.{IsText, bytes_of, line_count}
use Rattle.rope_search_reports.specs.Report.{IsReport}
use Rattle.rope_search_reports.specs.declared.positions.Position.{Position}
use Rattle.rope_search.specs.GroupsAt.{TellsGroupsAt, TellsGroupsIn}
use Rattle.rope_search.specs.MatchEdits.{AnswersEdit, ForMatch, IsTooLongIn, ListsNoMatch, ReplacesMatch, ReplacesMatchIn, expansion}
use Rattle.rope_search.specs.Places.{GetsTooLong, HasNoneBetween}
use Rattle.rope_search.specs.Session.{BufferState, IsReportIn, LimitedSession, State, chosen_buffer, current_text}
use Rattle.rope_search.specs.Order.{EditText, Order}
use Rattle.rope_search.specs.Step.{Answer, Step}
use Rattle.rope_search.specs.Changed.{TellsAfter}
use Rattle.rope_search.specs.TextsKept.{KeepsAfter}
use Rattle.rope_search.specs.declared.match_edits.MatchEdit.{MatchEdit}
use Rattle.rope_search.proofs.StepLaws.{refused_edit_size}

-- ---- there is one edit for a match

one-pattern : (b : BufferState) (p q : List ℕ) → b.pattern ≡ Some p → b.pattern ≡ Some q → p ≡ q
one-pattern b p q is other = let e : Some p ≡ Some q = sym is ∙ other in cc

one-told : HasOneListOfGroups → (pattern line : List ℕ) (number : ℕ) (told told' : Option Groups) → TellsGroups pattern line number told → TellsGroups pattern line number told' → told ≡ told'
one-told law pattern line number told told' one other =
    one.told_is ∙ ap (λ all. option_map (in_columns (bytes_of line)) (slice_get all number)) (law pattern (bytes_of line) one.all other.all one.are other.are) ∙ sym other.told_is

-- what holds of one holds of any
pub of-any-edit : HasOneListOfGroups → (b : BufferState) (line number : ℕ) (template : List ℕ) (from to from' to' : Position) (inserted inserted' : List ℕ)
    (P : Position → Position → List ℕ → Type 0) → ReplacesMatch b line number template from to inserted → ReplacesMatch b line number template from' to' inserted'
    → P from to inserted → P from' to' inserted'
of-any-edit law b line number template from to from' to' inserted inserted' P one other holds =
    let text = current_text b in
    let own = line_text text line in
    let same = one-pattern b one.pattern other.pattern one.is_pattern other.is_pattern in
    let tells = subst (λ p. TellsGroups p own number (Some one.edit.groups)) same one.edit.found.tells in
    let told : Some one.edit.groups ≡ Some other.edit.groups = one-told law other.pattern own number (Some one.edit.groups) (Some other.edit.groups) tells other.edit.found.tells in
    let groups : one.edit.groups ≡ other.edit.groups = cc in
    let start : Groups → Position = λ g. record { line = line; column = (whole g).0 } in
    let stop : Groups → Position = λ g. record { line = line; column = (whole g).1 } in
    let a : from ≡ from' = one.edit.starts ∙ ap start groups ∙ sym other.edit.starts in
    let z : to ≡ to' = one.edit.ends ∙ ap stop groups ∙ sym other.edit.ends in
    let by : inserted ≡ inserted' = one.edit.expands ∙ ap (λ g. expansion own g template) groups ∙ sym other.edit.expands in
    subst (λ i. P from' to' i) by (subst (λ q. P from' q inserted) z (subst (λ p. P p to inserted) a holds))

-- none is listed, or one is
pub not-both : HasOneListOfGroups → (b : BufferState) (line number : ℕ) (template : List ℕ) (from to : Position) (inserted : List ℕ)
    → ReplacesMatch b line number template from to inserted → ListsNoMatch b line number → ⊥
not-both law b line number template from to inserted is (some, inl past) =
    let inside = is.edit.found.inside in omega (arith, inside, past)
not-both law b line number template from to inserted is (some, inr none) =
    let own = line_text (current_text b) line in
    let same = one-pattern b is.pattern none.pattern is.is_pattern none.is_pattern in
    let tells = subst (λ p. TellsGroups p own number (Some is.edit.groups)) same is.edit.found.tells in
    let told : Some is.edit.groups ≡ None = one-told law none.pattern own number (Some is.edit.groups) None tells none.tells.tells in absurd (cc)

-- ---- a buffer answers as its search does

pub lists-none : (b : BufferState) (pattern text : List ℕ) (line number : ℕ) → b.pattern ≡ Some pattern → text ≡ current_text b
    → ((line_count text ≤ line) ⊎ TellsGroupsIn text pattern line number None) ↔ ListsNoMatch b line number
lists-none b pattern text line number is here = (there, back)
  where
    some : b.pattern ≢ None
    some none = let e : Some pattern ≡ None = sym is ∙ none in absurd (cc)

    there : (line_count text ≤ line) ⊎ TellsGroupsIn text pattern line number None → ListsNoMatch b line number
    there (inl past) = (some, inl (subst (λ t. line_count t ≤ line) here past))
    there (inr none) = (some, inr (record { pattern = pattern; is_pattern = is; tells = subst (λ t. TellsGroupsIn t pattern line number None) here none }))

    back : ListsNoMatch b line number → (line_count text ≤ line) ⊎ TellsGroupsIn text pattern line number None
    back (has, inl past) = inl (subst (λ t. line_count t ≤ line) (sym here) past)
    back (has, inr none) =
        let same = one-pattern b none.pattern pattern none.is_pattern is in
        inr (subst (λ t. TellsGroupsIn t pattern line number None) (sym here) (subst (λ p. TellsGroupsIn (current_text b) p line number None) same none.tells))

pub answers-edit : (limit : ℕ) (b : BufferState) (pattern text : List ℕ) (line number : ℕ) (template : List ℕ) (r : Result MatchEdit Fault)
    → b.pattern ≡ Some pattern → text ≡ current_text b
    → IfOk r (λ edit. ReplacesMatchIn text pattern line number template edit.from edit.to (chars (string_bytes edit.inserted)))
    → IfOk r (λ edit. IsUtf8 (string_bytes edit.inserted)) → IfOk r (λ edit. HasNoneBetween text edit.from edit.to → ⊥)
    → (r ≡ Err Range) ↔ ((line_count text ≤ line) ⊎ TellsGroupsIn text pattern line number None)
    → (r ≡ Err Size → IsTooLongIn limit text pattern line number template)
    → IfErr r (λ fault. (fault ≡ Range) ⊎ ((fault ≡ Size) ⊎ (fault ≡ Memory))) → AnswersEdit limit b line number template r
answers-edit limit b pattern text line number template r is here edit utf8 there range size fault =
    let none = lists-none b pattern text line number is here in
    let Edit : MatchEdit → Type 0 = λ edit. ReplacesMatchIn text pattern line number template edit.from edit.to (chars (string_bytes edit.inserted)) in
    let Told : MatchEdit → Type 0 = λ edit. ReplacesMatch b line number template edit.from edit.to (chars (string_bytes edit.inserted)) in
    record {
      edit = IfOk-weaker r Edit Told (λ edit told. record {
        pattern = pattern;
        is_pattern = is;
        edit = subst (λ t. ReplacesMatchIn t pattern line number template edit.from edit.to (chars (string_bytes edit.inserted))) here told;
      }) edit;
      utf8 = utf8;
      there = subst (λ t. IfOk r (λ edit. HasNoneBetween t edit.from edit.to → ⊥)) here there;
      nothing = (λ e. absurd (not-nothing r e fault), λ none. let e : Some pattern ≡ None = sym is ∙ none in absurd (cc));
      range = (λ e. none.0 (range.0 e), λ l. range.1 (none.1 l));
      size = λ e.
          let long = size e in
          record {
            from = long.from;
            to = long.to;
            inserted = long.inserted;
            replaces = record { pattern = pattern; is_pattern = is; edit = subst (λ t. ReplacesMatchIn t pattern line number template long.from long.to long.inserted) here long.replaces };
            holds = (long.scalars, subst (λ t. GetsTooLong limit t long.from long.to (byte_len long.inserted)) here long.long);
          };
      fault = IfErr-weaker r (λ fault. (fault ≡ Range) ⊎ ((fault ≡ Size) ⊎ (fault ≡ Memory)))
          (λ fault. (fault ≡ Nothing) ⊎ ((fault ≡ Range) ⊎ ((fault ≡ Size) ⊎ (fault ≡ Memory)))) (λ fault h. inr h) fault;
    }
  where
    not-nothing : (r : Result MatchEdit Fault) → r ≡ Err Nothing → IfErr r (λ fault. (fault ≡ Range) ⊎ ((fault ≡ Size) ⊎ (fault ≡ Memory))) → ⊥
    not-nothing (Ok edit) e fault = absurd (cc)
    not-nothing (Err f) e (inl h) = let same : f ≡ Nothing = cc in let x : Nothing ≡ Range = sym same ∙ h in absurd (cc)
    not-nothing (Err f) e (inr (inl h)) = let same : f ≡ Nothing = cc in let x : Nothing ≡ Size = sym same ∙ h in absurd (cc)
    not-nothing (Err f) e (inr (inr h)) = let same : f ≡ Nothing = cc in let x : Nothing ≡ Memory = sym same ∙ h in absurd (cc)

-- without a pattern
pub answers-none : (limit : ℕ) (b : BufferState) (line number : ℕ) (template : List ℕ) → b.pattern ≡ None → AnswersEdit limit b line number template (Err Nothing)
answers-none limit b line number template none = record {
  edit = tt;
  utf8 = tt;
  there = tt;
  nothing = (λ _. none, λ _. refl);
  range = (λ e. absurd (cc), λ listed. absurd (listed.0 none));
  size = λ e. absurd (cc);
  fault = inl refl;
}

-- ---- an unchanged session

pub session-same : (old new : LimitedSession) → new.limit ≡ old.limit → new.state ≡ old.state → new.changed ≡ old.changed → new.buffers ≡ old.buffers → new ≡ old
session-same old new limit state changed buffers =
    let a : new ≡ record { limit = old.limit; state = new.state; changed = new.changed; buffers = new.buffers } =
    ap (λ l. record { limit = l; state = new.state; changed = new.changed; buffers = new.buffers }) limit in
    let b = ap (λ s. record { limit = old.limit; state = s; changed = new.changed; buffers = new.buffers }) state in
    let d = ap (λ c. record { limit = old.limit; state = old.state; changed = c; buffers = new.buffers }) changed in
    a ∙ b ∙ d ∙ ap (λ bs. record { limit = old.limit; state = old.state; changed = old.changed; buffers = bs }) buffers

pub refused-same : (limit : ℕ) (old new : State) (order : Order) (fault : Fault) → Step limit old order (Err fault) new → new ≡ old
refused-same limit old new order Nothing step = step.1
refused-same limit old new order Range step = step.1
refused-same limit old new order Utf8 step = step.1
refused-same limit old new order Pattern step = step.1
refused-same limit old new order Limit step = step.1
refused-same limit old new order Size step = step.1
refused-same limit old new order Memory step = step.1

pub err-same : (old new : LimitedSession) (order : Order) (r : Answer) → Step old.limit old.state order r new.state → new.limit ≡ old.limit
    → TellsAfter old.state order r new.state old.changed new.changed → KeepsAfter old order r new → OnErr r (new ≡ old)
err-same old new order (Ok reply) step limit changed kept = tt
err-same old new order (Err fault) step limit changed kept = session-same old new limit (refused-same old.limit old.state new.state order fault step) changed kept

-- ---- the report of a buffer with a pattern

pub report-of : (b : BufferState) (rows : List (List (ℕ × ℕ))) → IsReportIn b rows → b.pattern ≢ None
    → (p : List ℕ) × (b.pattern ≡ Some p) × IsReport (current_text b) p rows
report-of b rows is some = by b.pattern refl is
  where
    by : (o : Option (List ℕ)) → b.pattern ≡ o → MatchOption o (rows ≡ []) (λ p. IsReport (current_text b) p rows)
        → (p : List ℕ) × (b.pattern ≡ Some p) × IsReport (current_text b) p rows
    by None e is = absurd (some e)
    by (Some p) e is = (p, e, is)

-- what holds of any answer holds of one that isn't refused
pub if-done : {T E : Type 0} (r : Result T E) (P : Type 0) → P → OnOk r P
if-done (Ok t) P p = p
if-done (Err e) P p = tt

-- the edit that is refused for its size
pub refused-size : HasOneListOfGroups → (limit : ℕ) (s : State) (line number : ℕ) (template : List ℕ) (from to : Position) (inserted : List ℕ)
    → ReplacesMatch (chosen_buffer s) line number template from to inserted
    → ForMatch (chosen_buffer s) line number template (λ from to inserted. IsText inserted × GetsTooLong limit (current_text (chosen_buffer s)) from to (byte_len inserted))
    → Step limit s (EditText from to (bytes_of inserted)) (Err Size) s
refused-size law limit s line number template from to inserted is long =
    let there = of-any-edit law (chosen_buffer s) line number template long.from long.to from to long.inserted inserted
    (λ p q i. IsText i × GetsTooLong limit (current_text (chosen_buffer s)) p q (byte_len i)) long.replaces is long.holds in
    (refused_edit_size limit s from to (bytes_of inserted) (inserted, (there.0, refl)) there.1, refl)

-- and what else is refused
pub refused-edit : HasOneListOfGroups → (limit : ℕ) (s : State) (line number : ℕ) (template : List ℕ) (from to : Position) (inserted : List ℕ) (fault : Fault)
    → ReplacesMatch (chosen_buffer s) line number template from to inserted → AnswersEdit limit (chosen_buffer s) line number template (Err fault)
    → Step limit s (EditText from to (bytes_of inserted)) (Err fault) s
refused-edit law limit s line number template from to inserted fault is told = by told.fault
  where
    by : (fault ≡ Nothing) ⊎ ((fault ≡ Range) ⊎ ((fault ≡ Size) ⊎ (fault ≡ Memory))) → Step limit s (EditText from to (bytes_of inserted)) (Err fault) s
    by (inl e) =
        let none = told.nothing.0 (ap Err e) in
        let x : Some is.pattern ≡ None = sym is.is_pattern ∙ none in absurd (cc)
    by (inr (inl e)) = absurd (not-both law (chosen_buffer s) line number template from to inserted is (told.range.0 (ap Err e)))
    by (inr (inr (inl e))) =
        subst (λ f. Step limit s (EditText from to (bytes_of inserted)) (Err f) s) (sym e) (refused-size law limit s line number template from to inserted is (told.size (ap Err e)))
    by (inr (inr (inr e))) = subst (λ f. Step limit s (EditText from to (bytes_of inserted)) (Err f) s) (sym e) (tt, refl)
