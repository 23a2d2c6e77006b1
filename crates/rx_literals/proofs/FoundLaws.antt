-- Finds in a part, and from an offset on, compared with finds in all.
use Rattle.std.proofs.Common.{◌≡◌, ℕ, ◌+◌, ◌-◌, ◌<◌, ◌≤◌, List, [], ◌∷◌, length, Option, Some, None, refl, sym, ap, subst, ◌∙◌, arith, inl, inr}
use Rattle.std.specs.List.{All}
use Rattle.std.proofs.lemmas.Bool.{cases_lt, eq-eqb, eqb-true}
use Rattle.std.proofs.lemmas.List.Elements.{All-head, All-tail}
use Rattle.std.proofs.Common.{take, min, get_or}
use Rattle.std.proofs.lemmas.List.{length-take, get_or-drop, get_or-take}
use Rattle.memchr.specs.Find.{FindsNeedle, NoneBefore, Nowhere, OccursAt, Passes, is_byte}
use Rattle.rx_input.specs.Inputs.{between}
use Rattle.rx_literals.proofs.PieceLaws.{length_between}
use Rattle.rx_util.specs.declared.search.Span.{Span}
use Rattle.rx_literals.specs.Needles.{FoundAt, no_needle, this_needle, other_needle, FoundBetween, nowhere, at_least_place}
use Rattle.rx_literals.proofs.NeedleLaws.{IsPart, occurs_out, occurs_in, found_start, found_end}

abbrev pub moved : ℕ → Option Span → Option Span
moved at None = None
moved at (Some span) = Some (record { start = at + span.start; end = at + span.end })

module _ (hay bytes : List ℕ) (at : ℕ) (part : IsPart hay bytes at) where
  -- a needle that occurs in all is inside the part
  abbrev pub Lies : ℕ → List ℕ → Type 0
  Lies i needle = OccursAt bytes needle (at + i) → i + length needle ≤ length hay

  found_out : {i : ℕ} {needles : List (List ℕ)} {out : Option Span} → All (Lies i) needles → FoundAt hay i needles out → FoundAt bytes (at + i) needles (moved at out)
  found_out lie no_needle = no_needle
  found_out {i} lie (this_needle {needle = needle} {needles = needles} occurs) =
      let same : at + i + length needle ≡ at + (i + length needle) = omega arith in
      subst (λ n. FoundAt bytes (at + i) (needle ∷ needles) (Some (record { start = at + i; end = n }))) same (this_needle {needles = needles} (occurs_out hay bytes needle at i part occurs))
  found_out {i} lie (other_needle {needle = needle} {needles = needles} absent found) =
      other_needle (λ occurs. absent (occurs_in hay bytes needle at i part (All-head (Lies i) needle needles lie occurs) occurs)) (found_out (All-tail (Lies i) needle needles lie) found)

  module _ (needles : List (List ℕ)) (told : ℕ) (within : told ≤ length hay) (lies : (i : ℕ) → i < told → All (Lies i) needles) where
    none_out : (k : ℕ) → ((i : ℕ) → i < k → FoundAt hay i needles None) → k ≤ told → (j : ℕ) → at ≤ j → j < at + k → FoundAt bytes j needles None
    none_out k none low j from below =
        let same : at + (j - at) ≡ j = omega (arith, from) in
        subst (λ i. FoundAt bytes i needles None) same (found_out (lies (j - at) (omega (arith, below, low, from))) (none (j - at) (omega (arith, below, from))))

    -- a find in the part
    pub told_found : {span : Span} → FoundBetween hay needles 0 (length hay) (Some span) → span.start < told
        → FoundBetween bytes needles at (at + length hay) (Some (record { start = at + span.start; end = at + span.end }))
    told_found {span} found below = by found refl
      where
        by : {out : Option Span} → FoundBetween hay needles 0 (length hay) out → out ≡ Some span
            → FoundBetween bytes needles at (at + length hay) (Some (record { start = at + span.start; end = at + span.end }))
        by (nowhere none) e = absurd (cc e)
        by (at_least_place i from to here before) e =
            let here' : FoundAt hay i needles (Some span) = subst (λ o. FoundAt hay i needles o) e here in
            let low : i < told = omega (arith, below, found_start here') in
            at_least_place (at + i) (omega arith) (omega (arith, to)) (found_out (lies i low) here')
            (λ j from' below'. none_out i (λ k under. before k (omega arith) under) (omega (arith, low)) j from' below')

    -- otherwise none is found at the offsets of which the part decides
    pub untold : {out : Option Span} → FoundBetween hay needles 0 (length hay) out → ((span : Span) → out ≡ Some span → told ≤ span.start)
        → (j : ℕ) → at ≤ j → j < at + told → FoundAt bytes j needles None
    untold (nowhere none) late = none_out told (λ i below. none i (omega arith) (omega (arith, below, within))) (omega arith)
    untold (at_least_place {span = span} i from to here before) late =
        let high = late span refl in
        none_out told (λ k below. before k (omega arith) (omega (arith, below, high, found_start here))) (omega arith)

-- from an earlier offset on
pub earlier : {bytes : List ℕ} {needles : List (List ℕ)} {from middle to : ℕ} {out : Option Span} → from ≤ middle
    → ((j : ℕ) → from ≤ j → j < middle → FoundAt bytes j needles None)
    → FoundBetween bytes needles middle to out → FoundBetween bytes needles from to out
earlier {middle = middle} before none (nowhere absent) = nowhere (λ i low high. elim (cases_lt i middle) [ inl below ↦ none i low below | inr above ↦ absent i above high ])
earlier {middle = middle} before none (at_least_place i low high here absent) =
    at_least_place i (omega (arith, before, low)) high here (λ j low' below. elim (cases_lt j middle) [ inl under ↦ none j low' under | inr above ↦ absent j above below ])

-- up to a later offset
pub later : {bytes : List ℕ} {needles : List (List ℕ)} {from to further : ℕ} {span : Span} → to ≤ further
    → FoundBetween bytes needles from to (Some span) → FoundBetween bytes needles from further (Some span)
later {bytes} {needles} {from} {to} {further} {span} wider found = by found refl
  where
    by : {out : Option Span} → FoundBetween bytes needles from to out → out ≡ Some span → FoundBetween bytes needles from further (Some span)
    by (nowhere none) e = absurd (cc e)
    by (at_least_place i low high here absent) e = at_least_place i low (omega (arith, high, wider)) (subst (λ o. FoundAt bytes i needles o) e here) absent

pub nowhere_between : {bytes : List ℕ} {needles : List (List ℕ)} {from to : ℕ} → FoundBetween bytes needles from to None → (i : ℕ) → from ≤ i → i < to → FoundAt bytes i needles None
nowhere_between {bytes} {needles} {from} {to} found = by found refl
  where
    by : {out : Option Span} → FoundBetween bytes needles from to out → out ≡ None → (i : ℕ) → from ≤ i → i < to → FoundAt bytes i needles None
    by (nowhere none) e = none
    by (at_least_place i low high here absent) e = absurd (cc e)

-- ---- a single needle

pub one_nowhere : (hay needle : List ℕ) → FindsNeedle hay needle 0 None → FoundBetween hay (needle ∷ []) 0 (length hay) None
one_nowhere hay needle none = nowhere (λ i low high. other_needle (none i low (omega (arith, high))) no_needle)

pub one_somewhere : (hay needle : List ℕ) (k end : ℕ) → 1 ≤ length needle → end ≡ k + length needle → FindsNeedle hay needle 0 (Some k) → FoundBetween hay (needle ∷ []) 0 (length hay) (Some (record { start = k; end = end }))
one_somewhere hay needle k end some is first =
    at_least_place k (omega arith) (omega (arith, first.1.fits, some))
    (subst (λ n. FoundAt hay k (needle ∷ []) (Some (record { start = k; end = n }))) (sym is) (this_needle {needles = []} first.1))
    (λ j low below. other_needle (first.0.before j low below) no_needle)

pub end_inside : {hay : List ℕ} {needles : List (List ℕ)} {from to : ℕ} {span : Span} → FoundBetween hay needles from to (Some span) → span.end ≤ length hay
end_inside {hay} {needles} {from} {to} {span} found = by found refl
  where
    by : {out : Option Span} → FoundBetween hay needles from to out → out ≡ Some span → span.end ≤ length hay
    by (nowhere none) e = absurd (cc e)
    by (at_least_place i low high here absent) e = found_end (subst (λ o. FoundAt hay i needles o) e here)

-- ---- what a chunk decides

-- at this number of offsets of a part each needle that occurs is inside it
pub record Tells (hay bytes : List ℕ) (at : ℕ) (needles : List (List ℕ)) (told : ℕ) : Type 0 where
  pub within : told ≤ length hay
  pub lies : (i : ℕ) → i < told → All (λ needle. OccursAt bytes needle (at + i) → i + length needle ≤ length hay) needles

pub all_told : (hay content : List ℕ) (stop at told : ℕ) (needles : List (List ℕ)) → at + length hay ≡ stop → told ≡ length hay → Tells hay (take stop content) at needles told
all_told hay content stop at told needles ends is = record {
  within = omega (arith, is);
  lies = λ i below k d in_list occurs. omega (arith, occurs.fits, length-take stop content, ends);
}

pub some_told : (hay bytes : List ℕ) (at told longest : ℕ) (needles : List (List ℕ)) → 1 ≤ longest → All (λ needle. length needle ≤ longest) needles → told ≡ length hay + 1 - longest → Tells hay bytes at needles told
some_told hay bytes at told longest needles some all is = record {
  within = omega (arith, is, some);
  lies = λ i below k d in_list occurs. omega (arith, all k d in_list, below, is);
}

-- the part of a chunk that is in a span is a part of the bytes up to the span's end
pub piece_is_part : (content hay : List ℕ) (position end stop : ℕ) → position ≤ min stop end → end ≤ length content → hay ≡ between position (min stop end) content → IsPart hay (take stop content) position
piece_is_part content hay position end stop before inside is =
    let high = min stop end in
    let low : high ≤ length content = omega arith in
    let long : length hay ≡ high - position = ap length is ∙ length_between content position high low in
    record {
      inside = omega (arith, long, before, length-take stop content);
      reads = λ k below.
          let under : position + k < high = omega (arith, long, below) in
          ap (λ xs. get_or xs k 0) is ∙ get_or-drop position (take high content) k 0 ∙ get_or-take high content (position + k) 0 under
          ∙ sym (get_or-take stop content (position + k) 0 (omega (arith, under)));
    }

pub piece_length : (content hay : List ℕ) (position end stop : ℕ) → end ≤ length content → hay ≡ between position (min stop end) content → length hay ≡ min stop end - position
piece_length content hay position end stop inside is =
    let low : min stop end ≤ length content = omega arith in
    ap length is ∙ length_between content position (min stop end) low

-- if a part doesn't decide the find, the remaining offsets do
pub told_else : (hay bytes : List ℕ) (at from stop : ℕ) → IsPart hay bytes at → (needles : List (List ℕ)) (told : ℕ) → Tells hay bytes at needles told → from ≡ at → from + length hay ≡ stop
    → {found out : Option Span} → FoundBetween hay needles 0 (length hay) found → ((span : Span) → found ≡ Some span → told ≤ span.start)
    → FoundBetween bytes needles (from + told) (from + length hay) out → FoundBetween bytes needles at stop out
told_else hay bytes at from stop part needles told tells same ends {found} {out} in_part late on =
    let behind : from + told ≡ at + told = omega (arith, same) in
    earlier (omega arith) (untold hay bytes at part needles told tells.within tells.lies in_part late)
    (subst (λ n. FoundBetween bytes needles (at + told) n out) ends (subst (λ n. FoundBetween bytes needles n (from + length hay) out) behind on))

-- ---- a needle of one byte

byte_there : (hay : List ℕ) (byte k : ℕ) → k < length hay → Passes (is_byte byte) hay k → OccursAt hay (byte ∷ []) k
byte_there hay byte k below is = record {
  fits = omega (arith, below);
  reads = λ j low.
      let first : j ≡ 0 = omega (arith, low) in
      let same : k + 0 ≡ k = omega arith in
      subst (λ n. get_or hay (k + n) 0 ≡ get_or (byte ∷ []) n 0) (sym first) (ap (λ n. get_or hay n 0) same ∙ eqb-true (get_or hay k 0) byte is);
}

there_byte : (hay : List ℕ) (byte k : ℕ) → OccursAt hay (byte ∷ []) k → Passes (is_byte byte) hay k
there_byte hay byte k occurs =
    let same : k ≡ k + 0 = omega arith in
    let is : get_or hay k 0 ≡ byte = ap (λ n. get_or hay n 0) same ∙ occurs.reads 0 (omega arith) in
    eq-eqb (get_or hay k 0) byte is

pub byte_first : (hay : List ℕ) (byte k : ℕ) → NoneBefore (Passes (is_byte byte) hay) 0 (length hay) k × Passes (is_byte byte) hay k → FindsNeedle hay (byte ∷ []) 0 (Some k)
byte_first hay byte k first = (
  record { low = first.0.low; high = omega (arith, first.0.high); before = λ j low below occurs. first.0.before j low below (there_byte hay byte j occurs) },
  byte_there hay byte k first.0.high first.1,
)

pub byte_nowhere : (hay : List ℕ) (byte : ℕ) → Nowhere (Passes (is_byte byte) hay) 0 (length hay) → FindsNeedle hay (byte ∷ []) 0 None
byte_nowhere hay byte none j low below occurs = none j low (omega (arith, occurs.fits)) (there_byte hay byte j occurs)
