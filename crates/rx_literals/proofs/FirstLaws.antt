-- Needles that begin with few bytes, and the offsets of these bytes.
use Rattle.std.proofs.Common.{◌≡◌, ℕ, ◌+◌, ◌-◌, ◌≤◌, Bool, true, List, [], ◌∷◌, take, drop, get_or, length, Some, None, slice_get, sym, ap, subst, ◌∙◌, arith}
use Rattle.std.proofs.lemmas.List.{get_or-drop, length-drop, take_rest}
use Rattle.std.proofs.lemmas.List.Elements.{All-head, All-tail}
use Rattle.std.proofs.lemmas.Option.{slice_get_within, get_or_from_slice_get}
use Rattle.memchr.specs.Find.{Nowhere, NoneBefore, OccursAt, Passes}
use Rattle.rx_literals.specs.declared.first_bytes.FirstBytes.{FirstBytes}
use Rattle.rx_literals.specs.FirstBytes.{is_among, BeginsAmong, BeginAmong}
use Rattle.rx_literals.specs.Needles.{FoundAt, no_needle, other_needle}

-- ---- the rest of a chunk

module _ (test : ℕ → Bool) (hay : List ℕ) (from : ℕ) (inside : from ≤ length hay) where
  abbrev Rest : List ℕ
  Rest = take (length hay - from) (drop from hay)

  rest_is : Rest ≡ drop from hay
  rest_is = take_rest hay from

  long : length Rest ≡ length hay - from
  long = ap length rest_is ∙ length-drop from hay

  pub passes_out : (k : ℕ) → Passes test Rest k → Passes test hay (from + k)
  passes_out k passes = ap test (sym (ap (λ xs. get_or xs k 0) rest_is ∙ get_or-drop from hay k 0)) ∙ passes

  pub passes_in : (k : ℕ) → Passes test hay (from + k) → Passes test Rest k
  passes_in k passes = ap test (ap (λ xs. get_or xs k 0) rest_is ∙ get_or-drop from hay k 0) ∙ passes

  none_out : (to : ℕ) → Nowhere (Passes test Rest) 0 to → Nowhere (Passes test hay) from (from + to)
  none_out to none k low high passes =
      let back : from + (k - from) ≡ k = omega (arith, low) in
      none (k - from) (omega arith) (omega (arith, low, high)) (passes_in (k - from) (subst (λ i. Passes test hay i) (sym back) passes))

  pub first_behind : (k : ℕ) → NoneBefore (Passes test Rest) 0 (length Rest) k × Passes test Rest k → NoneBefore (Passes test hay) from (length hay) (from + k) × Passes test hay (from + k)
  first_behind k found = (
    record {
      low = omega arith;
      high = omega (arith, found.0.high, long);
      before = none_out k found.0.before;
    },
    passes_out k found.1,
  )

  pub none_behind : Nowhere (Passes test Rest) 0 (length Rest) → Nowhere (Passes test hay) from (length hay)
  none_behind none k low high =
      none_out (length Rest) none k low (omega (arith, low, high, long))

-- ---- needles

-- a needle that occurs has its first byte there
first_passes : (first : FirstBytes) (hay needle : List ℕ) (i : ℕ) → BeginsAmong first needle → OccursAt hay needle i → Passes (is_among first) hay i
first_passes first hay needle i begins occurs =
    let same : i + 0 ≡ i = omega arith in
    let here : get_or hay i 0 ≡ get_or needle 0 0 = ap (λ k. get_or hay k 0) (sym same) ∙ occurs.reads 0 (omega (arith, begins.0)) in
    ap (is_among first) here ∙ begins.1

pub none_without : (first : FirstBytes) (hay : List ℕ) (i : ℕ) → (Passes (is_among first) hay i → ⊥) → (needles : List (List ℕ)) → BeginAmong first needles → FoundAt hay i needles None
none_without first hay i absent [] begin = no_needle
none_without first hay i absent (needle ∷ needles) begin =
    other_needle (λ occurs. absent (first_passes first hay needle i (All-head (BeginsAmong first) needle needles begin) occurs))
    (none_without first hay i absent needles (All-tail (BeginsAmong first) needle needles begin))

-- the bytes of one more needle
pub begins_more : (first more : FirstBytes) → ((x : ℕ) → is_among first x ≡ true → is_among more x ≡ true) → (needle : List ℕ) → BeginsAmong first needle → BeginsAmong more needle
begins_more first more keeps needle begins = (begins.0, keeps _ begins.1)

-- a needle whose first byte is one of them
pub begins_first : (first : FirstBytes) (needle : List ℕ) (byte : ℕ) → Some byte ≡ slice_get needle 0 → is_among first byte ≡ true → BeginsAmong first needle
begins_first first needle byte is among = (
  slice_get_within needle 0 byte (sym is),
  ap (is_among first) (get_or_from_slice_get needle 0 byte 0 (sym is)) ∙ among,
)
