-- The start of the character that holds a unit leads back to that unit, or from the second unit of a pair to the first.
use Rattle.std.proofs.Common.{◌≡◌, ℕ, ◌+◌, ◌-◌, ◌<◌, ◌≤◌, inl, inr, Bool, true, false, cond, List, [], ◌∷◌, ◌++◌, length, replicate, get_or, min, nat_le, refl, ap, sym, ◌∙◌, arith, length-append}
use Rattle.std.specs.Char.{len_utf8}
use Rattle.std.proofs.lemmas.Bool.{cases_lt}
use Rattle.std.proofs.lemmas.List.{length-replicate, get_or_default}
use Rattle.std.proofs.lemmas.List.Sums.{sum_by-cons}
use Rattle.str_indices.specs.Text.{byte_len, ends_from, starts_from, ends_up_to, units_of, units}
use Rattle.str_indices.specs.Laws.{SecondUnitComesBackToFirst, OtherUnitsComeBack}
use Rattle.str_indices.proofs.Spread.{long, among-equal, past-equal, up_to-start}
use Rattle.str_indices.proofs.Places.{bytes-cons, starts-low, up_to-cons}

abbrev count : ℕ → List ℕ → ℕ
count c cs = units_of c

one_or_two : (c : ℕ) → (1 ≤ units_of c) × (units_of c ≤ 2)
one_or_two c = at_test (nat_le 0x1_0000 c)
  where
    at_test : (b : Bool) → (1 ≤ cond b 2 1) × (cond b 2 1 ≤ 2)
    at_test true = (omega arith, omega arith)
    at_test false = (omega arith, omega arith)

length-starts : (at : ℕ) (text : List ℕ) → length (starts_from count at text) ≡ units text
length-starts at [] = refl
length-starts at (c ∷ cs) =
    length-append (replicate (units_of c) at) (starts_from count (at + len_utf8 c) cs)
    ∙ omega (arith, length-replicate {A = ℕ} (units_of c) at, length-starts (at + len_utf8 c) cs, sum_by-cons units_of c cs)

-- unit k starts where the one before it does, in a text that starts at a place
record IsSecond (at : ℕ) (text : List ℕ) (k : ℕ) : Type 0 where
  some : 0 < k
  within : k < length (starts_from count at text)
  same : get_or (starts_from count at text) (k - 1) 0 ≡ get_or (starts_from count at text) k 0

-- past the first character, it is so in the rest
second-rest : (at c k last : ℕ) (cs : List ℕ) → at + byte_len (c ∷ cs) ≤ last → units_of c ≤ k → IsSecond at (c ∷ cs) k → IsSecond (at + len_utf8 c) cs (k - units_of c)
second-rest at c k last cs h past found =
    let n = len_utf8 c in
    let w = units_of c in
    let rest = starts_from count (at + n) cs in
    let whole : length (replicate w at ++ rest) ≡ w + length rest = omega (arith, length-append (replicate w at) rest, length-replicate {A = ℕ} w at) in
    let room : at + n + byte_len cs ≤ last = omega (arith, bytes-cons c cs) in
    elim (cases_lt w k) [
      | inl more ↦ record {
        some = omega arith;
        within = omega (arith, found.within, whole);
        same =
            ap (λ m. get_or rest m 0) (let e : k - w - 1 ≡ k - 1 - w = omega arith in e)
            ∙ sym (past-equal w at (k - 1) 0 rest (omega arith))
            ∙ found.same
            ∙ past-equal w at k 0 rest past;
      }
      | inr at_seam ↦
          let here : k ≡ w = omega arith in
          let inside : 0 < length rest = omega (arith, found.within, whole) in
          let before : get_or (replicate w at ++ rest) (k - 1) 0 ≡ at = among-equal w at (k - 1) 0 rest (omega (arith, (one_or_two c).0)) in
          let after : get_or (replicate w at ++ rest) k 0 ≡ get_or rest 0 last =
          past-equal w at k 0 rest past ∙ ap (λ m. get_or rest m 0) (let e : k - w ≡ 0 = omega arith in e) ∙ get_or_default rest 0 0 last inside in
          absurd (omega (arith, before, after, found.same, starts-low count (at + n) 0 last cs room, long c))
    ]

rest-second : (at c k : ℕ) (cs : List ℕ) → units_of c ≤ k → IsSecond (at + len_utf8 c) cs (k - units_of c) → IsSecond at (c ∷ cs) k
rest-second at c k cs past found =
    let n = len_utf8 c in
    let w = units_of c in
    let rest = starts_from count (at + n) cs in
    let whole : length (replicate w at ++ rest) ≡ w + length rest = omega (arith, length-append (replicate w at) rest, length-replicate {A = ℕ} w at) in
    record {
      some = omega (arith, found.some);
      within = omega (arith, found.within, found.some, whole);
      same =
          past-equal w at (k - 1) 0 rest (omega (arith, found.some))
          ∙ ap (λ m. get_or rest m 0) (let e : k - 1 - w ≡ k - w - 1 = omega arith in e)
          ∙ found.same
          ∙ sym (past-equal w at k 0 rest past);
    }

second-back : (at k last : ℕ) (text : List ℕ) → at + byte_len text ≤ last → IsSecond at text k
    → ends_up_to (get_or (starts_from count at text) k last) (ends_from count at text) + 1 ≡ k
second-back at k last [] h found = absurd (omega (arith, found.within))
second-back at k last (c ∷ cs) h found =
    let n = len_utf8 c in
    let w = units_of c in
    let starts = starts_from count (at + n) cs in
    let ends = ends_from count (at + n) cs in
    let room : at + n + byte_len cs ≤ last = omega (arith, bytes-cons c cs) in
    elim (cases_lt k w) [
      | inl here ↦
          ap (λ b. ends_up_to b (ends_from count at (c ∷ cs)) + 1) (among-equal w at k last starts here)
          ∙ omega (arith, up_to-start count at at (c ∷ cs) (omega arith), found.some, one_or_two c)
      | inr later ↦
          let place = get_or starts (k - w) last in
          ap (λ b. ends_up_to b (ends_from count at (c ∷ cs)) + 1) (past-equal w at k last starts later)
          ∙ omega (
            arith,
            up_to-cons w (at + n) place ends (starts-low count (at + n) (k - w) last cs room),
            second-back (at + n) (k - w) last cs room (second-rest at c k last cs h later found),
          )
    ]

other-back : (at k last : ℕ) (text : List ℕ) → at + byte_len text ≤ last → ¬ (IsSecond at text k)
    → ends_up_to (get_or (starts_from count at text) k last) (ends_from count at text) ≡ min k (units text)
other-back at k last [] h other = omega arith
other-back at k last (c ∷ cs) h other =
    let n = len_utf8 c in
    let w = units_of c in
    let starts = starts_from count (at + n) cs in
    let ends = ends_from count (at + n) cs in
    let room : at + n + byte_len cs ≤ last = omega (arith, bytes-cons c cs) in
    elim (cases_lt k w) [
      | inl here ↦ elim (cases_lt 0 k) [
        | inl some ↦ absurd (other (record {
          some = some;
          within = omega (arith, length-append (replicate w at) starts, length-replicate {A = ℕ} w at);
          same = among-equal w at (k - 1) 0 starts (omega arith) ∙ sym (among-equal w at k 0 starts here);
        }))
        | inr none ↦
            ap (λ b. ends_up_to b (ends_from count at (c ∷ cs))) (among-equal w at k last starts here)
            ∙ omega (arith, up_to-start count at at (c ∷ cs) (omega arith))
      ]
      | inr later ↦
          let place = get_or starts (k - w) last in
          ap (λ b. ends_up_to b (ends_from count at (c ∷ cs))) (past-equal w at k last starts later)
          ∙ omega (
            arith,
            up_to-cons w (at + n) place ends (starts-low count (at + n) (k - w) last cs room),
            other-back (at + n) (k - w) last cs room (λ s. other (rest-second at c k cs later s)),
            sum_by-cons units_of c cs,
          )
    ]

pub second_units-back : SecondUnitComesBackToFirst
second_units-back text k found =
    second-back 0 k (byte_len text) text (omega arith) (record { some = found.0; within = omega (arith, found.1, length-starts 0 text); same = found.2 })

pub other_units-back : OtherUnitsComeBack
other_units-back text k other =
    other-back 0 k (byte_len text) text (omega arith) (λ s. other (s.some, omega (arith, s.within, length-starts 0 text), s.same))
