-- Several edits as one: where they are, their result, and why they are refused.
use Rattle.std.proofs.Common.{◌≡◌, ℕ, ◌+◌, ◌<◌, ◌≤◌, ◌⊎◌, inl, inr, true, false, Bool, List, [], ◌∷◌, ◌++◌, length, map, take, drop, get_or, sum_by, refl, sym, ap, ◌∙◌, subst, arith, append_assoc, append-nil, All, IsUtf8, Ok, Err}
use Rattle.std.specs.Prelude.{Result, OnOk, OnErr, IfOk, IfErr}
use Rattle.std.specs.Str.{chars}
use Rattle.std.proofs.lemmas.Bool.{true≢false}
use Rattle.std.proofs.lemmas.List.{drop_all, drop_more, drop-map, length-map}
use Rattle.std.proofs.lemmas.List.Elements.{All-nil, All-cons, All-head, All-tail, All-append, All-take}
use Rattle.std.proofs.lemmas.List.Sums.{sum_by-cons}
use Rattle.std.proofs.lemmas.Str.{scalars-chars}
use Rattle.str_indices.specs.Text.{byte_len}
use Rattle.rope_search_io.specs.declared.faults.Fault.{Fault}
use Rattle.rope_search_io.specs.declared.faults.Fault.TheVariants.{Nothing, Range, Utf8, Pattern, Limit, Size, Memory}
use Rattle.rope_search_reports.specs.Laws.{HasOnePlace}
use Rattle.rope_search_reports.specs.Text.{IsText, bytes_of, line_count}
use Rattle.rope_search_reports.specs.Position.{IsAt}
use Rattle.rope_search_templates.specs.Substitutions.{Substitution, substituted, SubstitutionsFollow, SubstitutedIsText, SubstitutionsAreChanges, changes_by, lines_by}
use Rattle.ropey.specs.Chunks.{text_of}
use Rattle.rope_search_templates.specs.declared.replacing.Replacement.{Replacement}
use Rattle.rope_search_reports.specs.Changes.{AreChanges}
use Rattle.rope_search_changes.specs.declared.Change.{Change}
use Rattle.rope_search.specs.declared.edits.Edit.{Edit}
use Rattle.rope_search.specs.Laws.{HoldsTexts}
use Rattle.rope_search.specs.Session.{BufferState, LimitedBuffer, LimitedSession, current_text, chosen_buffer}
use Rattle.rope_search.specs.Edits.{FullEdit, in_full, PayloadsAreUtf8, LiesBehind, LieInOrder, AreEdits, SpansEdits, RefusesEdits, IsFirstAgainst, AcceptsEdits, StepByEdits, TellsEdits, lines_of_edits}
use Rattle.rope_search.specs.Changed.{Replaces}
use Rattle.rope_search.proofs.HoldLaws.{one_text, text_holds}
use Rattle.rope_search.proofs.SessionLemmas.{Chosen, Chosen-state, Chosen-limit, Chosen-set, Chosen-kept, state_with}
use Rattle.rope_search.proofs.ChangedLemmas.{told_with, told-set, chosen-with}

-- ---- where one is

-- at one pair of offsets
one_span : HasOnePlace → (text : List ℕ) → IsText text → (at at' : ℕ) (edit : FullEdit) (start end start' end' : ℕ)
    → LiesBehind text at edit start end → LiesBehind text at' edit start' end' → (start ≡ start') × (end ≡ end')
one_span law text is at at' edit start end start' end' one other = (
  law text (edit.from.line, edit.from.column) start start' is one.starts other.starts,
  law text (edit.to.line, edit.to.column) end end' is one.ends other.ends,
)

-- at none if its positions are in no order
pub lies_nowhere : HasOnePlace → (text : List ℕ) → IsText text → (at : ℕ) (edit : FullEdit) (start end : ℕ) → IsAt text (edit.from.line, edit.from.column) start
    → IsAt text (edit.to.line, edit.to.column) end → (at ≤ start → start ≤ end → ⊥) → (start' end' : ℕ) → LiesBehind text at edit start' end' → ⊥
lies_nowhere law text is at edit start end starts ends apart start' end' lies =
    let same = law text (edit.from.line, edit.from.column) start start' is starts lies.starts in
    let same' = law text (edit.to.line, edit.to.column) end end' is ends lies.ends in
    apart (omega (arith, same, lies.behind)) (omega (arith, same, same', lies.ordered))

-- ---- one after the other

abbrev is_utf8 : FullEdit → Type 0
is_utf8 edit = IsUtf8 edit.payload

-- They are known up to this offset: those made and the remaining ones are all, and whether all so
-- far are UTF-8 is known.
pub record AreSoFar (text : List ℕ) (at : ℕ) (left all : List FullEdit) (made : List Substitution) (utf8 : Bool) : Type 0 where
  pub good : utf8 ≡ true → (rest : List Substitution) → LieInOrder text at left rest → LieInOrder text 0 all (made ++ rest)
  pub onward : (whole : List Substitution) → LieInOrder text 0 all whole → (rest : List Substitution) × LieInOrder text at left rest
  pub back : (rest : List Substitution) → LieInOrder text at left rest → (whole : List Substitution) × LieInOrder text 0 all whole
  pub own : utf8 ≡ true → PayloadsAreUtf8 left → PayloadsAreUtf8 all
  pub keeps : PayloadsAreUtf8 all → PayloadsAreUtf8 left
  pub broken : utf8 ≡ false → PayloadsAreUtf8 all → ⊥

pub so_far-start : (text : List ℕ) (all : List FullEdit) (made : List Substitution) → made ≡ [] → AreSoFar text 0 all all made true
so_far-start text all made none =
    subst (λ m. AreSoFar text 0 all all m true) (sym none)
    (record {
      good = λ e rest lie. lie;
      onward = λ whole lie. (whole, lie);
      back = λ rest lie. (rest, lie);
      own = λ e utf8. utf8;
      keeps = λ utf8. utf8;
      broken = λ e utf8. true≢false e;
    })

pub so_far-more : HasOnePlace → (text : List ℕ) → IsText text → (at : ℕ) (edit : FullEdit) (left all : List FullEdit) (made made' : List Substitution) (utf8 utf8' : Bool) (one : Substitution)
    → AreSoFar text at (edit ∷ left) all made utf8 → LiesBehind text at edit one.start one.end → made' ≡ made ++ one ∷ []
    → (utf8' ≡ true → (utf8 ≡ true) × IsUtf8 edit.payload × (one.text ≡ chars edit.payload))
    → (utf8' ≡ false → (utf8 ≡ false) ⊎ ¬ (IsUtf8 edit.payload))
    → AreSoFar text one.end left all made' utf8'
so_far-more law text is at edit left all made made' utf8 utf8' one so lies more tells tells_not = record {
  good = λ e rest lie. let t = tells e in
      subst (LieInOrder text 0 all) (sym (ap (λ m. m ++ rest) more ∙ append_assoc made (one ∷ []) rest)) (so.good t.0 (one ∷ rest) (lies, t.2, lie));
  onward = λ whole lie. let r = so.onward whole lie in first r.0 r.1;
  back = λ rest lie. so.back (record { start = one.start; end = one.end; text = chars edit.payload } ∷ rest) (lies, refl, lie);
  own = λ e ahead. let t = tells e in so.own t.0 (All-cons is_utf8 edit left t.1 ahead);
  keeps = λ every. All-tail is_utf8 edit left (so.keeps every);
  broken = λ e every. either (tells_not e) every;
}
  where
    first : (rest : List Substitution) → LieInOrder text at (edit ∷ left) rest → (others : List Substitution) × LieInOrder text one.end left others
    first [] lie = absurd lie
    first (r ∷ rest) lie = (rest, subst (λ n. LieInOrder text n left rest) (one_span law text is at at edit r.start r.end one.start one.end lie.0 lies).1 lie.2)

    either : (utf8 ≡ false) ⊎ ¬ (IsUtf8 edit.payload) → PayloadsAreUtf8 all → ⊥
    either (inl e) every = so.broken e every
    either (inr apart) every = apart (All-head is_utf8 edit left (so.keeps every))

-- at the next of the given ones, and after the last
pub edit-next : (text : List ℕ) (at : ℕ) (given : List Edit) (i : ℕ) (one : Edit) (all : List FullEdit) (made : List Substitution) (utf8 : Bool) → i < length given
    → AreSoFar text at (drop i (map in_full given)) all made utf8
    → AreSoFar text at (in_full (get_or given i one) ∷ drop (i + 1) (map in_full given)) all made utf8
edit-next text at given i one all made utf8 inside so =
    subst (λ es. AreSoFar text at es all made utf8)
    (drop-map in_full i given ∙ ap (map in_full) (drop_more given i one inside) ∙ ap (λ l. in_full (get_or given i one) ∷ l) (sym (drop-map in_full (i + 1) given))) so

pub edit-last : (text : List ℕ) (at : ℕ) (given : List Edit) (i : ℕ) (all : List FullEdit) (made : List Substitution) (utf8 : Bool) → length given ≤ i
    → AreSoFar text at (drop i (map in_full given)) all made utf8 → AreSoFar text at [] all made utf8
edit-last text at given i all made utf8 none so =
    subst (λ es. AreSoFar text at es all made utf8) (drop_all i (map in_full given) (omega (arith, none, length-map given in_full))) so

-- if the next one has no offsets, they have none
pub so_far-none : (text : List ℕ) (at : ℕ) (edit : FullEdit) (left all : List FullEdit) (made : List Substitution) (utf8 : Bool)
    → AreSoFar text at (edit ∷ left) all made utf8 → ((start end : ℕ) → LiesBehind text at edit start end → ⊥)
    → (whole : List Substitution) → LieInOrder text 0 all whole → ⊥
so_far-none text at edit left all made utf8 so nowhere whole lie = let r = so.onward whole lie in first r.0 r.1
  where
    first : (rest : List Substitution) → LieInOrder text at (edit ∷ left) rest → ⊥
    first [] lie = lie
    first (r ∷ rest) lie = nowhere r.start r.end lie.0

-- and at the end
pub so_far-end : (text : List ℕ) (at : ℕ) (all : List FullEdit) (made : List Substitution) → AreSoFar text at [] all made true → LieInOrder text 0 all made
so_far-end text at all made so = subst (LieInOrder text 0 all) (append-nil made) (so.good refl [] tt)

pub so_far-placed : (text : List ℕ) (at : ℕ) (all : List FullEdit) (made : List Substitution) (utf8 : Bool) → AreSoFar text at [] all made utf8
    → (whole : List Substitution) × LieInOrder text 0 all whole
so_far-placed text at all made utf8 so = so.back [] tt

-- they have one list of offsets
pub one_order : HasOnePlace → (text : List ℕ) → IsText text → (at : ℕ) (edits : List FullEdit) (ones others : List Substitution) → LieInOrder text at edits ones
    → LieInOrder text at edits others → ones ≡ others
one_order law text is at [] [] [] lie lie' = refl
one_order law text is at [] [] (o ∷ os) lie lie' = absurd lie'
one_order law text is at [] (o ∷ os) others lie lie' = absurd lie
one_order law text is at (e ∷ es) [] others lie lie' = absurd lie
one_order law text is at (e ∷ es) (o ∷ os) [] lie lie' = absurd lie'
one_order law text is at (e ∷ es) (o ∷ os) (p ∷ ps) lie lie' =
    let same = one_span law text is at at e o.start o.end p.start p.end lie.0 lie'.0 in
    let put : o.text ≡ p.text = lie.1 ∙ sym lie'.1 in
    let made : ℕ → ℕ → List ℕ → Substitution = λ a b t. record { start = a; end = b; text = t } in
    let own : o ≡ p = ap (λ n. made n o.end o.text) same.0 ∙ ap (λ n. made p.start n o.text) same.1 ∙ ap (made p.start p.end) put in
    let later = one_order law text is o.end es os ps lie.2 (subst (λ n. LieInOrder text n es ps) (sym same.1) lie'.2) in
    ap (λ s. s ∷ os) own ∙ ap (λ ss. p ∷ ss) later

-- ---- their effect on the text

pub follow_on : (text : List ℕ) (at : ℕ) (edits : List FullEdit) (ones : List Substitution) → LieInOrder text at edits ones → SubstitutionsFollow (bytes_of text) at ones
follow_on text at [] [] lie = tt
follow_on text at [] (o ∷ os) lie = absurd lie
follow_on text at (e ∷ es) [] lie = absurd lie
follow_on text at (e ∷ es) (o ∷ os) lie =
    (lie.0.behind, lie.0.ordered, lie.0.starts.boundary, lie.0.ends.boundary, follow_on text o.end es os lie.2)

-- they may have this number of lines searched: that of the lines they insert
abbrev lines_of_edit : FullEdit → ℕ
lines_of_edit edit = line_count (chars edit.payload)

pub lines_same : (text : List ℕ) (at : ℕ) (edits : List FullEdit) (ones : List Substitution) → LieInOrder text at edits ones
    → lines_by ones ≡ sum_by (λ (edit : FullEdit). line_count (chars edit.payload)) edits
lines_same text at [] [] lie = refl
lines_same text at [] (o ∷ os) lie = absurd lie
lines_same text at (e ∷ es) [] lie = absurd lie
lines_same text at (e ∷ es) (o ∷ os) lie =
    sum_by-cons (λ (s : Substitution). line_count s.text) o os
    ∙ ap (λ n. line_count o.text + n) (lines_same text o.end es os lie.2)
    ∙ ap (λ t. line_count t + sum_by lines_of_edit es) lie.1
    ∙ sym (sum_by-cons lines_of_edit e es)

texts_put : (text : List ℕ) (at : ℕ) (edits : List FullEdit) (ones : List Substitution) → PayloadsAreUtf8 edits → LieInOrder text at edits ones
    → All (λ (one : Substitution). IsText one.text) ones
texts_put text at [] [] utf8 lie = All-nil (λ (one : Substitution). IsText one.text)
texts_put text at [] (o ∷ os) utf8 lie = absurd lie
texts_put text at (e ∷ es) [] utf8 lie = absurd lie
texts_put text at (e ∷ es) (o ∷ os) utf8 lie =
    All-cons (λ (one : Substitution). IsText one.text) o os (subst IsText (sym lie.1) (scalars-chars e.payload (All-head is_utf8 e es utf8)))
    (texts_put text o.end es os (All-tail is_utf8 e es utf8) lie.2)

-- then the buffer holds texts
pub holds_edits : SubstitutedIsText → (old new : BufferState) (edits : List FullEdit) → HoldsTexts old → AreEdits old edits new → HoldsTexts new
holds_edits law old new edits h are =
    let text = current_text old in
    let make = are.make in
    let is : IsText are.text = subst IsText (sym make.text_is)
    (law text make.substitutions (text_holds old h) (follow_on text 0 edits make.substitutions make.lie) (texts_put text 0 edits make.substitutions make.utf8 make.lie)) in
    let texts = All-append IsText (take (old.current + 1) old.texts) (are.text ∷ []) (All-take IsText (old.current + 1) old.texts h.texts) (one_text are.text is) in
    subst HoldsTexts (sym are.changed) (record { texts = texts; pattern = h.pattern })

-- the changes that they are
pub edit-changes : SubstitutionsAreChanges → (text : List ℕ) → IsText text → (edits : List FullEdit) (ones : List Substitution) → LieInOrder text 0 edits ones
    → (new : List ℕ) → new ≡ substituted (bytes_of text) 0 ones → (changes : List Change) → changes ≡ changes_by 0 0 ones
    → AreChanges changes 0 0 text new (lines_of_edits edits)
edit-changes law text is edits ones lie new told changes are =
    subst (λ n. AreChanges changes 0 0 text new n) (lines_same text 0 edits ones lie)
    (subst (λ t. AreChanges changes 0 0 text t (lines_by ones)) (sym told)
    (subst (λ cs. AreChanges cs 0 0 text (substituted (bytes_of text) 0 ones) (lines_by ones)) (sym are) (law text ones is (follow_on text 0 edits ones lie))))

-- ---- why they are refused

module _ (limit : ℕ) (text : List ℕ) (edits : List FullEdit) where
  pub accepts : HasOnePlace → IsText text → (ones : List Substitution) → LieInOrder text 0 edits ones → PayloadsAreUtf8 edits
      → byte_len (substituted (bytes_of text) 0 ones) ≤ limit → AcceptsEdits limit text edits
  accepts law is ones lie utf8 fits Range h = h ones lie
  accepts law is ones lie utf8 fits Utf8 h = h utf8
  accepts law is ones lie utf8 fits Size h =
      let same = one_order law text is 0 edits h.substitutions ones h.lie lie in
      omega (arith, fits, h.long, ap (λ os. byte_len (substituted (bytes_of text) 0 os)) same)
  accepts law is ones lie utf8 fits fault h = h

-- ---- in a session

module _ (items : List LimitedBuffer) (k limit : ℕ) (old new : LimitedBuffer) (s : LimitedSession) (c : Chosen items k limit old s) (edits : List FullEdit) where
  pub refuses_there : (fault : Fault) → RefusesEdits s.limit (current_text (chosen_buffer s.state)) edits fault → RefusesEdits old.limit (current_text old.state) edits fault
  refuses_there fault h =
      subst (λ n. RefusesEdits n (current_text old.state) edits fault) (sym (Chosen-limit items k limit old s c))
      (subst (λ b. RefusesEdits s.limit (current_text b) edits fault) (Chosen-state items k limit old s c) h)

  first_there : (fault : Fault) → IsFirstAgainst old.limit (current_text old.state) edits fault → IsFirstAgainst s.limit (current_text (chosen_buffer s.state)) edits fault
  first_there fault h =
      subst (λ n. IsFirstAgainst n (current_text (chosen_buffer s.state)) edits fault) (Chosen-limit items k limit old s c)
      (subst (λ b. IsFirstAgainst old.limit (current_text b) edits fault) (sym (Chosen-state items k limit old s c)) h)

  pub step_made : AcceptsEdits old.limit (current_text old.state) edits → AreEdits old.state edits new.state → StepByEdits s.limit s.state edits (Ok tt) (state_with items k new)
  step_made accepted are = (
    λ fault h. accepted fault (refuses_there fault h),
    (
      new.state,
      subst (λ b. AreEdits b edits new.state) (sym (Chosen-state items k limit old s c)) are,
      Chosen-set items k limit old new s (λ b. new.state) c refl,
    ),
  )

  pub step_refused : (fault : Fault) → new ≡ old → (fault ≡ Memory) ⊎ IsFirstAgainst old.limit (current_text old.state) edits fault
      → StepByEdits s.limit s.state edits (Err fault) (state_with items k new)
  step_refused fault same which = told fault which
    where
      kept : state_with items k new ≡ s.state
      kept = Chosen-kept items k limit old new s c same

      told : (fault : Fault) → (fault ≡ Memory) ⊎ IsFirstAgainst old.limit (current_text old.state) edits fault → StepByEdits s.limit s.state edits (Err fault) (state_with items k new)
      told Memory which = kept
      told Nothing (inl e) = absurd cc
      told Nothing (inr h) = absurd h.refuses
      told Range (inl e) = absurd cc
      told Range (inr h) = (first_there Range h, kept)
      told Utf8 (inl e) = absurd cc
      told Utf8 (inr h) = (first_there Utf8 h, kept)
      told Pattern (inl e) = absurd cc
      told Pattern (inr h) = absurd h.refuses
      told Limit (inl e) = absurd cc
      told Limit (inr h) = absurd h.refuses
      told Size (inl e) = absurd cc
      told Size (inr h) = (first_there Size h, kept)

  pub step_told : (result : Result (Unit {0}) Fault) → OnOk result (AcceptsEdits old.limit (current_text old.state) edits) → OnOk result (AreEdits old.state edits new.state)
      → IfErr result (λ fault. (fault ≡ Memory) ⊎ IsFirstAgainst old.limit (current_text old.state) edits fault) → OnErr result (new ≡ old)
      → StepByEdits s.limit s.state edits result (state_with items k new)
  step_told (Ok tt) accepted are fault same = step_made accepted are
  step_told (Err fault) accepted are which same = step_refused fault same which

  pub tells_edits : Replaces old.state new.state new.changed → SpansEdits old.state edits new.state new.changed
      → TellsEdits s.state edits (state_with items k new) s.changed (told_with items k new)
  tells_edits replaces few = record {
    stretch = new.changed;
    replaces = rw (Chosen-state items k limit old s c, chosen-with items k limit old new s c) replaces;
    few = rw (Chosen-state items k limit old s c, chosen-with items k limit old new s c) few;
    others = told-set items k limit old new s c;
  }

  pub tells_told : (result : Result (Unit {0}) Fault) → OnOk result (Replaces old.state new.state new.changed) → OnOk result (SpansEdits old.state edits new.state new.changed)
      → OnOk result (TellsEdits s.state edits (state_with items k new) s.changed (told_with items k new))
  tells_told (Ok tt) replaces few = tells_edits replaces few
  tells_told (Err fault) replaces few = tt

-- then it holds texts, whatever the answer
pub holds_told : SubstitutedIsText → (old new : LimitedBuffer) (edits : List FullEdit) → HoldsTexts old.state → (result : Result (Unit {0}) Fault)
    → OnOk result (AreEdits old.state edits new.state) → OnErr result (new ≡ old) → HoldsTexts new.state
holds_told law old new edits h (Ok tt) are same = holds_edits law old.state new.state edits h are
holds_told law old new edits h (Err fault) are same = subst (λ (b : LimitedBuffer). HoldsTexts b.state) (sym same) h

-- ---- the answer once their offsets are known

pub changes-told : SubstitutionsAreChanges → (text : List ℕ) → IsText text → (edits : List FullEdit) (ones : List Substitution) → LieInOrder text 0 edits ones
    → (result : Result Replacement Fault) → IfOk result (λ new. text_of new.text ≡ substituted (bytes_of text) 0 ones) → IfOk result (λ new. new.changes.items ≡ changes_by 0 0 ones)
    → IfOk result (λ new. AreChanges new.changes.items 0 0 text (text_of new.text) (lines_of_edits edits))
changes-told law text is edits ones lie (Ok new) told are = edit-changes law text is edits ones lie (text_of new.text) told new.changes.items are
changes-told law text is edits ones lie (Err fault) told are = tt

pub accepts-told : (limit : ℕ) → HasOnePlace → (text : List ℕ) → IsText text → (edits : List FullEdit) (ones : List Substitution) → LieInOrder text 0 edits ones → PayloadsAreUtf8 edits
    → (result : Result Replacement Fault) → OnOk result (byte_len (substituted (bytes_of text) 0 ones) ≤ limit) → OnOk result (AcceptsEdits limit text edits)
accepts-told limit law text is edits ones lie utf8 (Ok new) fits = accepts limit text edits law is ones lie utf8 fits
accepts-told limit law text is edits ones lie utf8 (Err fault) fits = tt
