-- The first member of a set of bytes in a span, piece by piece.
use Rattle.std.proofs.Common.{◌≡◌, ℕ, ◌+◌, ◌-◌, ◌<◌, ◌≤◌, Bool, false, List, [], get_or, length, min, Some, sym, ap, subst, ◌∙◌, arith, inl, inr}
use Rattle.std.proofs.lemmas.Bool.{cases_lt}
use Rattle.rx_input.specs.Cursors.{IsSameContent}
use Rattle.rx_input.specs.Inputs.{HoldsPlace, InputState, IsMoved, between}
use Rattle.rx_literals.specs.ByteSets.{FirstMemberBetween, HasMemberAt, HasNoMemberBetween}
use Rattle.rx_literals.specs.Needles.{bytes_to_end, no_needle}
use Rattle.rx_literals.proofs.FoundLaws.{piece_is_part}
use Rattle.rx_literals.proofs.NeedleLaws.{IsPart}
use Rattle.rx_literals.proofs.ScanLaws.{IsUnderWay, end_is, in_span, past, place, under_way}

-- an input that was moved to a place, with the bytes of the span that are left in its piece
pub on_way : (i k j : InputState) (at : ℕ) (hay : List ℕ) → IsSameContent i.cursor k.cursor → k.asked ≡ i.asked → IsMoved k j (min at (length k.cursor.content)) k.asked
    → hay ≡ between j.position (min j.asked.span.end j.cursor.end) j.cursor.content → HoldsPlace j.cursor j.position → i.asked.span.start ≤ at → IsUnderWay [] i j at (length hay)
on_way i k j at hay same asked moved part holds behind = under_way [] i k j at hay same asked moved part holds behind (λ place low below. no_needle)

module _ (members : List Bool) (i j : InputState) (at : ℕ) (hay : List ℕ) (way : IsUnderWay [] i j at (length hay)) where
  abbrev Has : ℕ → Type 0
  Has k = HasMemberAt members (bytes_to_end i) k

  abbrev NoneTo : ℕ → Type 0
  NoneTo to = HasNoMemberBetween members (bytes_to_end i) i.asked.span.start to

  -- where no byte is left, no member comes
  pub no_more : NoneTo at → length hay ≡ 0 → NoneTo i.asked.span.end
  no_more none empty k low high has = elim (cases_lt k at) [
    | inl below ↦ none k low below has
    | inr above ↦ omega (arith, past [] i j at (length hay) way empty k above high, has.inside)
  ]

  module _ (some : length hay ≡ 0 → ⊥) (is : hay ≡ between j.position (min j.asked.span.end j.cursor.end) j.cursor.content) (none : NoneTo at) where
    part : IsPart hay (bytes_to_end i) at
    part =
        subst (λ n. IsPart hay (bytes_to_end i) n) (place [] i j at (length hay) way some)
        (subst (λ bytes. IsPart hay bytes j.position) (sym way.same)
        (piece_is_part j.cursor.content hay j.position j.cursor.end j.asked.span.end (in_span [] i j at (length hay) way some) way.holds.lawful.within is))

    out : (k : ℕ) → HasMemberAt members hay k → Has (at + k)
    out k has = record {
      inside = omega (arith, has.inside, part.inside);
      is_member = ap (λ b. get_or members b false) (sym (part.reads k has.inside)) ∙ has.is_member;
    }

    back : (k : ℕ) → k < length hay → Has (at + k) → HasMemberAt members hay k
    back k below has = record {
      inside = below;
      is_member = ap (λ b. get_or members b false) (part.reads k below) ∙ has.is_member;
    }

    none_to : (to : ℕ) → to ≤ length hay → HasNoMemberBetween members hay 0 to → NoneTo (at + to)
    none_to to within absent k low high has = elim (cases_lt k at) [
      | inl below ↦ none k low below has
      | inr above ↦ (let same : k ≡ at + (k - at) = omega (arith, above) in
          absent (k - at) (omega arith) (omega (arith, high, above)) (back (k - at) (omega (arith, high, above, within)) (subst Has same has)))
    ]

    pub none_yet : HasNoMemberBetween members hay 0 (length hay) → NoneTo (at + length hay)
    none_yet absent = none_to (length hay) (omega arith) absent

    pub first_there : (index : ℕ) → FirstMemberBetween members hay 0 (length hay) (Some index) → FirstMemberBetween members (bytes_to_end i) i.asked.span.start i.asked.span.end (Some (at + index))
    first_there index first = record {
      low = omega (arith, way.behind);
      high = omega (arith, first.high, end_is [] i j at (length hay) way some, way.stop);
      has = out index first.has;
      before = none_to index (omega (arith, first.high)) first.before;
    }
