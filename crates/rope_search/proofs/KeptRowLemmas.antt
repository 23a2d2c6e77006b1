-- Rows that are kept for a step of a history, and calls that go over it or change the history.
use Rattle.std.proofs.Common.{◌≡◌, inl, inr, ℕ, ◌+◌, ◌-◌, ◌<◌, ◌≤◌, List, [], ◌∷◌, ◌++◌, length, take, drop, sym, ap, ◌∙◌, subst, arith}
use Rattle.std.specs.Prelude.{Option, Some, IfSome}
use Rattle.std.proofs.lemmas.List.{get_or-take, length-take-le}
use Rattle.std.proofs.Math.ListN.{get_or-append}
use Rattle.rope_search_reports.specs.declared.patches.Patch.{Patch}
use Rattle.rope_search.specs.declared.kept_rows.KeptRows.{KeptRows}
use Rattle.rope_search_reports.specs.Patches.{AreInTurn, patched}
use Rattle.rope_search_reports.specs.Laws.{HasARowALine, HasOneReport}
use Rattle.rope_search_reports.specs.Report.{IsReport}
use Rattle.rope_search.specs.KeptRows.{HoldsKept, HoldsStep, KeepsStep, PutBack, TurnRows}
use Rattle.rope_search.specs.Histories.{Texts, text_at}

-- what puts the rows of one report back in place of another's does so for any report of these texts, because each has one
pub turn-back : HasOneReport → HasARowALine → (old new pattern : List ℕ) (rows rows' : List (List (ℕ × ℕ))) (patches : List Patch)
    → IsReport old pattern rows → IsReport new pattern rows' → PutBack rows' rows patches → TurnRows pattern new old patches
turn-back one a_line old new pattern rows rows' patches is is' back = record {
  in_turn = subst (λ n. AreInTurn 0 n patches) (a_line new pattern rows' is') back.in_turn;
  still = back.still;
  report = λ rs are. subst (IsReport old pattern) (sym (ap (λ r. patched 0 r patches) (one new pattern rs rows' are is') ∙ back.old_is)) is;
}

-- ---- one step back or forward

pub held-back : (texts : List (List ℕ)) (current : ℕ) (pattern : List ℕ) (kept kept' : Option KeptRows) → 0 < current
    → ((rows : KeptRows) → kept ≡ Some rows → HoldsStep texts current pattern rows)
    → KeepsStep current pattern (text_at texts current) (text_at texts (current - 1)) kept kept'
    → (rows : KeptRows) → kept' ≡ Some rows → HoldsStep texts (current - 1) pattern rows
held-back texts current pattern kept kept' later held keeps rows is = elim (keeps rows is) [
  | inl own ↦ record {
    back = λ low. absurd (omega (arith, low, own.0, later));
    forward = λ high. subst (λ n. TurnRows pattern (text_at texts (n - 1)) (text_at texts n) rows.patches.items) (sym own.0) own.1;
  }
  | inr other ↦
      let h = held rows other.0 in
      record { back = λ low. h.back (omega (arith, low)); forward = λ high. h.forward (omega (arith, high, other.1, later)) }
]

pub held-forward : (texts : List (List ℕ)) (current : ℕ) (pattern : List ℕ) (kept kept' : Option KeptRows)
    → ((rows : KeptRows) → kept ≡ Some rows → HoldsStep texts current pattern rows)
    → KeepsStep (current + 1) pattern (text_at texts current) (text_at texts (current + 1)) kept kept'
    → (rows : KeptRows) → kept' ≡ Some rows → HoldsStep texts (current + 1) pattern rows
held-forward texts current pattern kept kept' held keeps rows is = elim (keeps rows is) [
  | inl own ↦
      let before : rows.step - 1 ≡ current = omega (arith, own.0) in
      record {
        back = λ low. subst (λ k. TurnRows pattern (text_at texts rows.step) (text_at texts k) rows.patches.items) (sym before)
            (subst (λ n. TurnRows pattern (text_at texts n) (text_at texts current) rows.patches.items) (sym own.0) own.1);
        forward = λ high. absurd (omega (arith, high, own.0));
      }
  | inr other ↦
      let h = held rows other.0 in
      record { back = λ low. h.back (omega (arith, low, other.1)); forward = λ high. h.forward (omega (arith, high)) }
]

-- what the kept rows of the step at hand do
pub step-back : (texts : List (List ℕ)) (current : ℕ) (pattern : List ℕ) (rows : KeptRows) → HoldsStep texts current pattern rows → rows.step ≡ current
    → TurnRows pattern (text_at texts current) (text_at texts (current - 1)) rows.patches.items
step-back texts current pattern rows held is =
    subst (λ n. TurnRows pattern (text_at texts n) (text_at texts (n - 1)) rows.patches.items) is (held.back (omega (arith, is)))

pub step-forward : (texts : List (List ℕ)) (current : ℕ) (pattern : List ℕ) (rows : KeptRows) → HoldsStep texts current pattern rows → rows.step ≡ current + 1
    → TurnRows pattern (text_at texts current) (text_at texts (current + 1)) rows.patches.items
step-forward texts current pattern rows held is =
    let before : rows.step - 1 ≡ current = omega (arith, is) in
    subst (λ n. TurnRows pattern (text_at texts current) (text_at texts n) rows.patches.items) is
    (subst (λ k. TurnRows pattern (text_at texts k) (text_at texts rows.step) rows.patches.items) before (held.forward (omega (arith, is))))

-- ---- a history whose first texts stay

pub held-before : (texts texts' : List (List ℕ)) (current current' number : ℕ) (pattern : List ℕ) (rows : KeptRows) → HoldsStep texts current pattern rows
    → rows.step < number → number ≤ current + 1 → number ≤ current' + 1 → ((k : ℕ) → k < number → text_at texts' k ≡ text_at texts k)
    → HoldsStep texts' current' pattern rows
held-before texts texts' current current' number pattern rows held low within within' same = record {
  back = λ up. subst (λ t. TurnRows pattern t (text_at texts' (rows.step - 1)) rows.patches.items) (sym (same rows.step low))
      (subst (λ t. TurnRows pattern (text_at texts rows.step) t rows.patches.items) (sym (same (rows.step - 1) (omega (arith, low)))) (held.back (omega (arith, low, within))));
  forward = λ high. absurd (omega (arith, high, low, within'));
}

-- the first texts of a list, with others after them
pub first-stay : (texts others : List (List ℕ)) (number k : ℕ) → number ≤ length texts → k < number → text_at (take number texts ++ others) k ≡ text_at texts k
first-stay texts others number k within low =
    get_or-append (take number texts) others [] k (omega (arith, length-take-le number texts within, low)) ∙ get_or-take number texts k [] low

-- one more text after the current one
pub held-added : (texts : List (List ℕ)) (text : List ℕ) (current : ℕ) (pattern : List ℕ) (rows : KeptRows) → current < length texts → HoldsStep texts current pattern rows
    → rows.step < current + 1 → HoldsStep (take (current + 1) texts ++ text ∷ []) (current + 1) pattern rows
held-added texts text current pattern rows inside held low =
    held-before texts (take (current + 1) texts ++ text ∷ []) current (current + 1) (current + 1) pattern rows held low (omega arith) (omega arith)
    (λ k less. first-stay texts (text ∷ []) (current + 1) k (omega (arith, inside)) less)

-- ---- what a buffer holds after its calls

-- a pattern that is shown is the one
shown-own : (pattern own : List ℕ) → Some pattern ≡ Some own → pattern ≡ own
shown-own pattern own is = cc

-- the kept rows of the step that is undone
pub turns-back : (old : Texts) (here there pattern : List ℕ) (shown : Option (List ℕ)) (kept : Option KeptRows) (step : ℕ)
    → step ≡ old.current → shown ≡ Some pattern → HoldsKept old.texts old.current shown kept → here ≡ text_at old.texts old.current
    → there ≡ text_at old.texts (old.current - 1)
    → (rows : KeptRows) → kept ≡ Some rows → rows.step ≡ step → TurnRows pattern here there rows.patches.items
turns-back old here there pattern shown kept step now set held here_is there_is rows is own =
    subst (λ t. TurnRows pattern t there rows.patches.items) (sym here_is)
    (subst (λ t. TurnRows pattern (text_at old.texts old.current) t rows.patches.items) (sym there_is)
    (step-back old.texts old.current pattern rows (held pattern rows set is) (own ∙ now)))

-- and of the one that is redone
pub turns-forward : (old : Texts) (here there pattern : List ℕ) (shown : Option (List ℕ)) (kept : Option KeptRows) (step : ℕ)
    → step ≡ old.current + 1 → shown ≡ Some pattern → HoldsKept old.texts old.current shown kept → here ≡ text_at old.texts old.current
    → there ≡ text_at old.texts (old.current + 1)
    → (rows : KeptRows) → kept ≡ Some rows → rows.step ≡ step → TurnRows pattern here there rows.patches.items
turns-forward old here there pattern shown kept step now set held here_is there_is rows is own =
    subst (λ t. TurnRows pattern t there rows.patches.items) (sym here_is)
    (subst (λ t. TurnRows pattern (text_at old.texts old.current) t rows.patches.items) (sym there_is)
    (step-forward old.texts old.current pattern rows (held pattern rows set is) (own ∙ now)))

-- the texts at hand are those of the history
keeps-there : (texts : List (List ℕ)) (from to step step' : ℕ) (here there pattern : List ℕ) (kept kept' : Option KeptRows) → step ≡ step'
    → here ≡ text_at texts from → there ≡ text_at texts to → KeepsStep step pattern here there kept kept'
    → KeepsStep step' pattern (text_at texts from) (text_at texts to) kept kept'
keeps-there texts from to step step' here there pattern kept kept' now here_is there_is keeps =
    subst (λ n. KeepsStep n pattern (text_at texts from) (text_at texts to) kept kept') now
    (subst (λ t. KeepsStep step pattern t (text_at texts to) kept kept') here_is
    (subst (λ t. KeepsStep step pattern here t kept kept') there_is keeps))

pub kept-back : (old new : Texts) (here there pattern pattern' : List ℕ) (shown : Option (List ℕ)) (kept kept' : Option KeptRows) (step : ℕ)
    → 0 < old.current → step ≡ old.current → shown ≡ Some pattern → HoldsKept old.texts old.current shown kept → here ≡ text_at old.texts old.current
    → there ≡ text_at old.texts (old.current - 1) → KeepsStep step pattern here there kept kept'
    → new.texts ≡ old.texts → new.current ≡ old.current - 1 → pattern' ≡ pattern → HoldsKept new.texts new.current (Some pattern') kept'
kept-back old new here there pattern pattern' shown kept kept' step later now set held here_is there_is keeps texts current same = λ own rows p is.
    let there_ = keeps-there old.texts old.current (old.current - 1) step old.current here there pattern kept kept' now here_is there_is keeps in
    let done = held-back old.texts old.current pattern kept kept' later (λ r e. held pattern r set e) there_ rows is in
    subst (λ q. HoldsStep new.texts new.current q rows) (sym same ∙ shown-own pattern' own p)
    (subst (λ ts. HoldsStep ts new.current pattern rows) (sym texts) (subst (λ n. HoldsStep old.texts n pattern rows) (sym current) done))

pub kept-forward : (old new : Texts) (here there pattern pattern' : List ℕ) (shown : Option (List ℕ)) (kept kept' : Option KeptRows) (step : ℕ)
    → step ≡ old.current + 1 → shown ≡ Some pattern → HoldsKept old.texts old.current shown kept → here ≡ text_at old.texts old.current
    → there ≡ text_at old.texts (old.current + 1) → KeepsStep step pattern here there kept kept'
    → new.texts ≡ old.texts → new.current ≡ old.current + 1 → pattern' ≡ pattern → HoldsKept new.texts new.current (Some pattern') kept'
kept-forward old new here there pattern pattern' shown kept kept' step now set held here_is there_is keeps texts current same = λ own rows p is.
    let there_ = keeps-there old.texts old.current (old.current + 1) step (old.current + 1) here there pattern kept kept' now here_is there_is keeps in
    let done = held-forward old.texts old.current pattern kept kept' (λ r e. held pattern r set e) there_ rows is in
    subst (λ q. HoldsStep new.texts new.current q rows) (sym same ∙ shown-own pattern' own p)
    (subst (λ ts. HoldsStep ts new.current pattern rows) (sym texts) (subst (λ n. HoldsStep old.texts n pattern rows) (sym current) done))

-- after one more text
pub kept-added : (old new : Texts) (text pattern pattern' : List ℕ) (shown : Option (List ℕ)) (kept kept' : Option KeptRows) (number : ℕ)
    → old.current < length old.texts → shown ≡ Some pattern → HoldsKept old.texts old.current shown kept → number ≡ new.current
    → ((rows : KeptRows) → kept' ≡ Some rows → (kept ≡ Some rows) × (rows.step < number))
    → new.texts ≡ take (old.current + 1) old.texts ++ text ∷ [] → new.current ≡ old.current + 1 → pattern' ≡ pattern
    → HoldsKept new.texts new.current (Some pattern') kept'
kept-added old new text pattern pattern' shown kept kept' number inside set held now dropped texts current same = λ own rows p is.
    let was = dropped rows is in
    let low : rows.step < old.current + 1 = omega (arith, was.1, now, current) in
    let done = held-added old.texts text old.current pattern rows inside (held pattern rows set was.0) low in
    subst (λ q. HoldsStep new.texts new.current q rows) (sym same ∙ shown-own pattern' own p)
    (subst (λ ts. HoldsStep ts new.current pattern rows) (sym texts)
    (subst (λ n. HoldsStep (take (old.current + 1) old.texts ++ text ∷ []) n pattern rows) (sym current) done))

-- with the rows that a replacement took out
pub kept-made : HasOneReport → HasARowALine → (old new : Texts) (text pattern pattern' : List ℕ) (rows rows' : List (List (ℕ × ℕ))) (kept : Option KeptRows) (step : ℕ)
    → old.current < length old.texts → new.texts ≡ take (old.current + 1) old.texts ++ text ∷ [] → new.current ≡ old.current + 1
    → step ≡ new.current → IsReport (text_at old.texts old.current) pattern rows → IsReport (text_at new.texts new.current) pattern rows'
    → IfSome kept (λ (k : KeptRows). k.step ≡ step) → IfSome kept (λ (k : KeptRows). PutBack rows' rows k.patches.items) → pattern' ≡ pattern
    → HoldsKept new.texts new.current (Some pattern') kept
kept-made one a_line old new text pattern pattern' rows rows' kept step inside texts current now is is' steps back same = λ own k p there.
    let step_is : k.step ≡ new.current = subst (λ o. IfSome o (λ (r : KeptRows). r.step ≡ step)) there steps ∙ now in
    let put : PutBack rows' rows k.patches.items = subst (λ o. IfSome o (λ (r : KeptRows). PutBack rows' rows r.patches.items)) there back in
    let before : text_at new.texts (k.step - 1) ≡ text_at old.texts old.current =
    ap (λ ts. text_at ts (k.step - 1)) texts ∙ ap (text_at (take (old.current + 1) old.texts ++ text ∷ [])) (omega (arith, step_is, current))
    ∙ first-stay old.texts (text ∷ []) (old.current + 1) old.current (omega (arith, inside)) (omega arith) in
    let turn = turn-back one a_line (text_at old.texts old.current) (text_at new.texts new.current) pattern rows rows' k.patches.items is is' put in
    subst (λ q. HoldsStep new.texts new.current q k) (sym same ∙ shown-own pattern' own p) (record {
      back = λ low. subst (λ n. TurnRows pattern (text_at new.texts n) (text_at new.texts (k.step - 1)) k.patches.items) (sym step_is)
          (subst (λ t. TurnRows pattern (text_at new.texts new.current) t k.patches.items) (sym before) turn);
      forward = λ high. absurd (omega (arith, high, step_is));
    })

-- the rows that are put back are those of the report before, by either name
pub put-back : (rows old old' : List (List (ℕ × ℕ))) (kept : Option KeptRows) → old ≡ old'
    → IfSome kept (λ (k : KeptRows). PutBack rows old k.patches.items) → IfSome kept (λ (k : KeptRows). PutBack rows old' k.patches.items)
put-back rows old old' kept same back = subst (λ o. IfSome kept (λ (k : KeptRows). PutBack rows o k.patches.items)) same back

-- without the texts between some
pub kept-joined : (texts texts' : List (List ℕ)) (current number number' : ℕ) (shown : Option (List ℕ)) (kept kept' : Option KeptRows)
    → number ≤ current → current < length texts → HoldsKept texts current shown kept → number' ≡ number
    → ((rows : KeptRows) → kept' ≡ Some rows → (kept ≡ Some rows) × (rows.step < number'))
    → texts' ≡ take number texts ++ drop current texts → HoldsKept texts' number shown kept'
kept-joined texts texts' current number number' shown kept kept' low inside held now dropped is = λ own rows p there.
    let was = dropped rows there in
    let less : rows.step < number = omega (arith, was.1, now) in
    held-before texts texts' current number number own rows (held own rows p was.0) less (omega (arith, low)) (omega arith)
    (λ k below. ap (λ ts. text_at ts k) is ∙ first-stay texts (drop current texts) number k (omega (arith, low, inside)) below)
