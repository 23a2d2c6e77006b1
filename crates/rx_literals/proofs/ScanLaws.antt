-- Going on from piece to piece.
use Rattle.std.proofs.Common.{◌≡◌, ℕ, ◌+◌, ◌-◌, ◌<◌, ◌≤◌, ◌⊎◌, List, min, length, Some, None, sym, ap, subst, ◌∙◌, arith, inl, inr}
use Rattle.std.proofs.lemmas.Bool.{cases_lt}
use Rattle.std.proofs.lemmas.List.{length-take}
use Rattle.rx_util.specs.declared.search.Span.{Span}
use Rattle.rx_input.specs.Cursors.{IsSameContent}
use Rattle.rx_input.specs.Inputs.{InputState, HoldsPlace, Asked, IsMoved, between}
use Rattle.rx_literals.specs.Needles.{AreNeedles, FoundAt, FoundBetween, nowhere, bytes_to_end}
use Rattle.rx_literals.proofs.NeedleLaws.{none_past}
use Rattle.rx_literals.proofs.InputLaws.{same_bytes}
use Rattle.rx_literals.proofs.FoundLaws.{earlier, later, nowhere_between, piece_length}

-- an input that was moved to a place, or to the content's end, before which nothing is found; so
-- many bytes of the span are left in its piece
pub record IsUnderWay (needles : List (List ℕ)) (i j : InputState) (at len : ℕ) : Type 0 where
  pub holds : HoldsPlace j.cursor j.position
  pub same : bytes_to_end i ≡ bytes_to_end j
  pub stop : j.asked.span.end ≡ i.asked.span.end
  pub position : j.position ≡ min at (length j.cursor.content)
  pub left : len ≡ min j.asked.span.end j.cursor.end - j.position
  pub behind : i.asked.span.start ≤ at
  pub none : (k : ℕ) → i.asked.span.start ≤ k → k < at → FoundAt (bytes_to_end i) k needles None

pub under_way : (needles : List (List ℕ)) (i k j : InputState) (at : ℕ) (hay : List ℕ) → IsSameContent i.cursor k.cursor → k.asked ≡ i.asked → IsMoved k j (min at (length k.cursor.content)) k.asked
    → hay ≡ between j.position (min j.asked.span.end j.cursor.end) j.cursor.content → HoldsPlace j.cursor j.position → i.asked.span.start ≤ at
    → ((place : ℕ) → i.asked.span.start ≤ place → place < at → FoundAt (bytes_to_end i) place needles None) → IsUnderWay needles i j at (length hay)
under_way needles i k j at hay same asked moved part holds behind none =
    let asked' = moved.asked_is ∙ asked in
    record {
      holds = holds;
      same = same_bytes i j (record { content = moved.same.content ∙ same.content; is_sized = moved.same.is_sized ∙ same.is_sized }) asked';
      stop = ap (λ (a : Asked). a.span.end) asked';
      position = moved.position_is ∙ ap (λ xs. min at (length xs)) (sym moved.same.content);
      left = piece_length j.cursor.content hay j.position j.cursor.end j.asked.span.end holds.lawful.within part;
      behind = behind;
      none = none;
    }

module _ (needles : List (List ℕ)) (i j : InputState) (at len : ℕ) (way : IsUnderWay needles i j at len) where
  at_end : len ≡ 0 → i.asked.span.end ≤ j.position ⊎ (length j.cursor.content ≤ j.position)
  at_end none_left = elim (cases_lt j.position i.asked.span.end) [
    | inl before ↦ (
        let last : j.position ≡ j.cursor.end = omega (arith, way.left, way.stop, none_left, before, way.holds.before_end) in
        inr (omega (arith, last, way.holds.at_end last)))
    | inr behind ↦ inl behind
  ]

  -- where none is left, the bytes up to the span's end are
  pub past : len ≡ 0 → (k : ℕ) → at ≤ k → k < i.asked.span.end → length (bytes_to_end i) ≤ k
  past none_left k above high = elim (at_end none_left) [
    | inl done ↦ absurd (omega (arith, done, above, high, way.position))
    | inr last ↦ omega (arith, ap length way.same, length-take j.asked.span.end j.cursor.content, last, above, way.position)
  ]

  -- and none comes
  pub over : AreNeedles needles → len ≡ 0 → FoundBetween (bytes_to_end i) needles i.asked.span.start i.asked.span.end None
  over are none_left = nowhere (λ k low high. elim (cases_lt k at) [
    | inl below ↦ way.none k low below
    | inr above ↦ none_past (bytes_to_end i) k (past none_left k above high) needles are.each
  ])

  module _ (some : len ≡ 0 → ⊥) where
    pub place : j.position ≡ at
    place = omega (arith, way.position, way.left, some, way.holds.lawful.within)

    pub end_is : at + len ≡ min j.asked.span.end j.cursor.end
    end_is = omega (arith, place, way.left, some)

    -- the position lies in the span
    pub in_span : j.position ≤ min j.asked.span.end j.cursor.end
    in_span = omega (arith, way.left, some)

    pub found : {span : Span} → FoundBetween (bytes_to_end j) needles j.position (min j.asked.span.end j.cursor.end) (Some span)
        → FoundBetween (bytes_to_end i) needles i.asked.span.start i.asked.span.end (Some span)
    found {span} here =
        let own : FoundBetween (bytes_to_end i) needles at (min j.asked.span.end j.cursor.end) (Some span) =
        subst (λ k. FoundBetween (bytes_to_end i) needles k (min j.asked.span.end j.cursor.end) (Some span)) place (subst (λ bytes. FoundBetween bytes needles j.position (min j.asked.span.end j.cursor.end) (Some span)) (sym way.same) here) in
        later (omega (arith, way.stop)) (earlier way.behind way.none own)

    pub none_yet : FoundBetween (bytes_to_end j) needles j.position (min j.asked.span.end j.cursor.end) None
        → (k : ℕ) → i.asked.span.start ≤ k → k < at + len → FoundAt (bytes_to_end i) k needles None
    none_yet here k low high = elim (cases_lt k at) [
      | inl below ↦ way.none k low below
      | inr above ↦ subst (λ bytes. FoundAt bytes k needles None) (sym way.same) (nowhere_between here k (omega (arith, place, above)) (omega (arith, high, end_is)))
    ]

    -- less of the content is left
    pub less_left : (a b : ℕ) → a ≡ length j.cursor.content → b ≡ length j.cursor.content → a - (at + len) < b - at
    less_left a b is is' = omega (arith, is, is', end_is, way.holds.lawful.within, place, some, way.left)
