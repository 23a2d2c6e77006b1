-- Needles in a part of the haystack, and needles one after the other.
use Rattle.std.proofs.Common.{◌≡◌, ℕ, suc, ◌+◌, ◌-◌, ◌<◌, ◌≤◌, List, [], ◌∷◌, map, take, drop, get_or, length, Option, Some, None, refl, sym, ap, subst, ◌∙◌, add-one, drop-cons, arith, length-drop}
use Rattle.std.specs.Prelude.{◌↔◌}
use Rattle.std.specs.List.{All}
use Rattle.std.proofs.lemmas.List.{drop_all, get_or-drop, get_or-take, length-take, take_rest}
use Rattle.std.proofs.lemmas.Option.{slice_get-get_or}
use Rattle.std.proofs.Common.{slice_get}
use Rattle.std.proofs.lemmas.List.Elements.{All-head, All-tail, All-get_or, All-same}
use Rattle.std.proofs.lemmas.List.{length-map}
use Rattle.rx_literals.proofs.SliceLaws.{get_or_mapped}
use Rattle.memchr.specs.Find.{OccursAt}
use Rattle.rx_util.specs.declared.search.Span.{Span}
use Rattle.rx_literals.specs.Needles.{IsNeedle, FoundAt, no_needle, this_needle, other_needle}

-- the bytes from an offset on begin with these
pub record IsPart (hay bytes : List ℕ) (at : ℕ) : Type 0 where
  pub inside : at + length hay ≤ length bytes
  pub reads : (k : ℕ) → k < length hay → get_or hay k 0 ≡ get_or bytes (at + k) 0

pub occurs_out : (hay bytes needle : List ℕ) (at i : ℕ) → IsPart hay bytes at → OccursAt hay needle i → OccursAt bytes needle (at + i)
occurs_out hay bytes needle at i part occurs = record {
  fits = omega (arith, part.inside, occurs.fits);
  reads = λ j below.
      let same : at + i + j ≡ at + (i + j) = omega arith in
      ap (λ k. get_or bytes k 0) same ∙ sym (part.reads (i + j) (omega (arith, below, occurs.fits))) ∙ occurs.reads j below;
}

pub occurs_in : (hay bytes needle : List ℕ) (at i : ℕ) → IsPart hay bytes at → i + length needle ≤ length hay → OccursAt bytes needle (at + i) → OccursAt hay needle i
occurs_in hay bytes needle at i part fits occurs = record {
  fits = fits;
  reads = λ j below.
      let same : at + (i + j) ≡ at + i + j = omega arith in
      part.reads (i + j) (omega (arith, below, fits)) ∙ ap (λ k. get_or bytes k 0) same ∙ occurs.reads j below;
}

pub rest_is : (bytes : List ℕ) (at : ℕ) → at ≤ length bytes → IsPart (drop at bytes) bytes at
rest_is bytes at inside = record { inside = omega (arith, length-drop at bytes, inside); reads = λ k below. get_or-drop at bytes k 0 }

-- what the bytes from an offset on begin with occurs there
pub prefix_is : (bytes needle : List ℕ) (at : ℕ) → at ≤ length bytes → OccursAt (take (length bytes - at) (drop at bytes)) needle 0 ↔ OccursAt bytes needle at
prefix_is bytes needle at inside =
    let part = rest_is bytes at inside in
    let same : at + 0 ≡ at = omega arith in
    let rest : take (length bytes - at) (drop at bytes) ≡ drop at bytes = take_rest bytes at in (
      λ occurs. subst (OccursAt bytes needle) same (occurs_out (drop at bytes) bytes needle at 0 part (subst (λ xs. OccursAt xs needle 0) rest occurs)),
      λ occurs. subst (λ xs. OccursAt xs needle 0) (sym rest) (occurs_in (drop at bytes) bytes needle at 0 part (omega (arith, occurs.fits, length-drop at bytes)) (subst (OccursAt bytes needle) (sym same) occurs)),
    )

-- ---- one needle after the other

module _ {X : Type 0} (items : X → List ℕ) (bytes : List ℕ) (at : ℕ) where
  -- the find of the needles from one on is that of all
  abbrev pub Carries : List X → ℕ → Type 0
  Carries xs k = (out : Option Span) → FoundAt bytes at (map items (drop k xs)) out → FoundAt bytes at (map items xs) out

  needle_at : (xs : List X) (k : ℕ) (x : X) → k < length xs → x ≡ get_or xs k x → drop k xs ≡ x ∷ drop (suc k) xs
  needle_at xs k x below is = drop-cons xs k x below ∙ ap (λ y. y ∷ drop (suc k) xs) (sym is)

  pub carries_on : (xs : List X) (k : ℕ) (x : X) → k < length xs → x ≡ get_or xs k x → (OccursAt bytes (items x) at → ⊥) → Carries xs k → Carries xs (k + 1)
  carries_on xs k x below is absent carries out found =
      carries out (subst (λ ys. FoundAt bytes at (map items ys) out) (sym (needle_at xs k x below is))
      (other_needle absent (subst (λ n. FoundAt bytes at (map items (drop n xs)) out) (add-one k) found)))

  pub carries_this : (xs : List X) (k : ℕ) (x : X) → k < length xs → x ≡ get_or xs k x → OccursAt bytes (items x) at → Carries xs k
      → FoundAt bytes at (map items xs) (Some (record { start = at; end = at + length (items x) }))
  carries_this xs k x below is occurs carries =
      carries _ (subst (λ ys. FoundAt bytes at (map items ys) (Some (record { start = at; end = at + length (items x) }))) (sym (needle_at xs k x below is)) (this_needle occurs))

  pub carries_end : (xs : List X) (k : ℕ) → length xs ≤ k → Carries xs k → FoundAt bytes at (map items xs) None
  carries_end xs k over carries = carries None (subst (λ ys. FoundAt bytes at (map items ys) None) (sym (drop_all k xs over)) no_needle)

-- no needle occurs past the end
pub none_past : (bytes : List ℕ) (i : ℕ) → length bytes ≤ i → (needles : List (List ℕ)) → All IsNeedle needles → FoundAt bytes i needles None
none_past bytes i past [] each = no_needle
none_past bytes i past (needle ∷ needles) each =
    let some = All-head IsNeedle needle needles each in
    other_needle (λ occurs. omega (arith, occurs.fits, some.0, past)) (none_past bytes i past needles (All-tail IsNeedle needle needles each))

-- a find starts at the offset
pub found_start : {bytes : List ℕ} {i : ℕ} {needles : List (List ℕ)} {span : Span} → FoundAt bytes i needles (Some span) → span.start ≡ i
found_start found = by found refl
  where
    by : {bytes : List ℕ} {i : ℕ} {needles : List (List ℕ)} {out : Option Span} {span : Span} → FoundAt bytes i needles out → out ≡ Some span → span.start ≡ i
    by no_needle e = absurd (cc e)
    by (this_needle {needle = needle} occurs) e = started e
      where
        started : {i n : ℕ} {span : Span} → Some (record { start = i; end = n }) ≡ Some span → span.start ≡ i
        started e = cc e
    by (other_needle absent found) e = by found e

-- ---- a needle that is read byte by byte

pub byte_there : (content needle : List ℕ) (stop at index byte : ℕ) → index < length needle → byte ≡ get_or needle index 0 → OccursAt (take stop content) needle at → slice_get content (at + index) ≡ Some byte
byte_there content needle stop at index byte below is occurs =
    let long = length-take stop content in
    let inside : at + index < length content = omega (arith, occurs.fits, long, below) in
    slice_get-get_or content (at + index) 0 inside
    ∙ ap Some (sym (get_or-take stop content (at + index) 0 (omega (arith, occurs.fits, long, below))) ∙ occurs.reads index below ∙ sym is)

-- ---- needles that are kept as lists of bytes

module _ {X : Type 0} (items : X → List ℕ) (bytes : List ℕ) (at : ℕ) (xs : List X) (k : ℕ) (x : X) (needle : List ℕ) (here : k < length xs) (at_k : x ≡ get_or xs k x) (is : needle ≡ items x) where
  pub found_this : (view : List (List ℕ)) (len : ℕ) → view ≡ map items xs → len ≡ length needle → OccursAt bytes needle at → Carries items bytes at xs k
      → FoundAt bytes at view (Some (record { start = at; end = at + len }))
  found_this view len same long occurs carries =
      let found = carries_this items bytes at xs k x here at_k (subst (λ n. OccursAt bytes n at) is occurs) carries in
      let end : at + length (items x) ≡ at + len = ap (λ n. at + n) (sym (long ∙ ap length is)) in
      subst (λ v. FoundAt bytes at v (Some (record { start = at; end = at + len }))) (sym same)
      (subst (λ n. FoundAt bytes at (map items xs) (Some (record { start = at; end = n }))) end found)

  pub carried_on : (OccursAt bytes needle at → ⊥) → Carries items bytes at xs k → Carries items bytes at xs (k + 1)
  carried_on absent carries = carries_on items bytes at xs k x here at_k (λ occurs. absent (subst (λ n. OccursAt bytes n at) (sym is) occurs)) carries

  pub has_some : (view : List (List ℕ)) → map items xs ≡ view → All IsNeedle view → 1 ≤ length needle
  has_some view same each =
      let own : IsNeedle (items (get_or xs k x)) = subst IsNeedle (get_or_mapped items xs k x [] here)
      (All-get_or IsNeedle (map items xs) k [] (omega (arith, here, length-map xs items)) (All-same IsNeedle (map items xs) view same each)) in
      let mine : IsNeedle needle = subst IsNeedle (ap items (sym at_k) ∙ sym is) own in
      mine.0

pub found_none : {X : Type 0} (items : X → List ℕ) (bytes : List ℕ) (at : ℕ) (xs : List X) (k : ℕ) (view : List (List ℕ)) → view ≡ map items xs → length xs ≤ k → Carries items bytes at xs k → FoundAt bytes at view None
found_none items bytes at xs k view same over carries = subst (λ v. FoundAt bytes at v None) (sym same) (carries_end items bytes at xs k over carries)

-- a find ends in the bytes
pub found_end : {bytes : List ℕ} {i : ℕ} {needles : List (List ℕ)} {span : Span} → FoundAt bytes i needles (Some span) → span.end ≤ length bytes
found_end {bytes} found = by found refl
  where
    by : {i : ℕ} {needles : List (List ℕ)} {out : Option Span} {span : Span} → FoundAt bytes i needles out → out ≡ Some span → span.end ≤ length bytes
    by no_needle e = absurd (cc e)
    by (this_needle {needle = needle} occurs) e = ended occurs.fits e
      where
        ended : {i n : ℕ} {span : Span} → n ≤ length bytes → Some (record { start = i; end = n }) ≡ Some span → span.end ≤ length bytes
        ended fits e = subst (λ n. n ≤ length bytes) (ends_at e) fits
          where
            ends_at : {i n : ℕ} {span : Span} → Some (record { start = i; end = n }) ≡ Some span → n ≡ span.end
            ends_at e = cc e
    by (other_needle absent found) e = by found e
