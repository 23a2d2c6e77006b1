-- The places of ends and starts: they rise, they stand between characters, and they lead back to their index.
use Rattle.std.proofs.Common.{◌≡◌, ℕ, zero, suc, ◌+◌, ◌-◌, ◌≤◌, inl, inr, true, cond, List, [], ◌∷◌, ◌++◌, length, replicate, get_or, min, nat_le, refl, ap, subst, sym, ◌∙◌, arith, length-append, append_assoc}
use Rattle.std.specs.Prelude.{encode_utf8_all}
use Rattle.std.specs.Char.{encode_utf8, len_utf8}
use Rattle.std.specs.Str.{IsUtf8, IsCharBoundary, all_scalars}
use Rattle.std.proofs.lemmas.Bool.{cases_lt, and_parts}
use Rattle.std.proofs.lemmas.Bool.Decides.{nat_tests}
use Rattle.std.proofs.lemmas.List.{length-replicate}
use Rattle.std.proofs.lemmas.List.Sums.{sum_by-le-sum_by}
use Rattle.std.proofs.lemmas.Str.{length-encode, IsCharBoundary-end, IsCharBoundary-start, IsCharBoundary-at_seam}
use Rattle.str_indices.specs.Text.{byte_len, ends_from, starts_from, ends_up_to, end_place, units_of}
use Rattle.str_indices.specs.Laws.{UnitStartsRise, UnitStartsAreBoundaries}
use Rattle.str_indices.proofs.Spread.{among-equal, past-equal, up_to-start, up_to-append, up_to-replicate_within}

-- ---- the bytes of a character and of what follows it
pub bytes-cons : (c : ℕ) (cs : List ℕ) → byte_len (c ∷ cs) ≡ len_utf8 c + byte_len cs
bytes-cons c cs = omega (arith, length-append (encode_utf8 c) (encode_utf8_all cs), length-encode c)

-- ---- no end and no start lies before the text's start
pub ends-low : (count : ℕ → List ℕ → ℕ) (at k last : ℕ) (text : List ℕ) → at + byte_len text ≤ last → at ≤ get_or (ends_from count at text) k last
ends-low count at k last [] h = omega arith
ends-low count at k last (c ∷ cs) h =
    let n = len_utf8 c in
    let w = count c cs in
    let rest = ends_from count (at + n) cs in
    let room : at + n + byte_len cs ≤ last = omega (arith, bytes-cons c cs) in
    elim (cases_lt k w) [
      | inl here ↦ omega (arith, among-equal w (at + n) k last rest here)
      | inr later ↦ omega (arith, past-equal w (at + n) k last rest later, ends-low count (at + n) (k - w) last cs room)
    ]

pub starts-low : (count : ℕ → List ℕ → ℕ) (at k last : ℕ) (text : List ℕ) → at + byte_len text ≤ last → at ≤ get_or (starts_from count at text) k last
starts-low count at k last [] h = omega arith
starts-low count at k last (c ∷ cs) h =
    let n = len_utf8 c in
    let w = count c cs in
    let rest = starts_from count (at + n) cs in
    let room : at + n + byte_len cs ≤ last = omega (arith, bytes-cons c cs) in
    elim (cases_lt k w) [
      | inl here ↦ omega (arith, among-equal w at k last rest here)
      | inr later ↦ omega (arith, past-equal w at k last rest later, starts-low count (at + n) (k - w) last cs room)
    ]

-- ---- they rise
ends-rise : (count : ℕ → List ℕ → ℕ) (at j k last : ℕ) (text : List ℕ) → at + byte_len text ≤ last → j ≤ k → get_or (ends_from count at text) j last ≤ get_or (ends_from count at text) k last
ends-rise count at j k last [] h le = omega arith
ends-rise count at j k last (c ∷ cs) h le =
    let n = len_utf8 c in
    let w = count c cs in
    let rest = ends_from count (at + n) cs in
    let room : at + n + byte_len cs ≤ last = omega (arith, bytes-cons c cs) in
    elim (cases_lt j w) [
      | inl first ↦ elim (cases_lt k w) [
        | inl second ↦ omega (arith, among-equal w (at + n) j last rest first, among-equal w (at + n) k last rest second)
        | inr later ↦ omega (arith, among-equal w (at + n) j last rest first, past-equal w (at + n) k last rest later, ends-low count (at + n) (k - w) last cs room)
      ]
      | inr later ↦
          let past : w ≤ k = omega arith in
          omega (arith, past-equal w (at + n) j last rest later, past-equal w (at + n) k last rest past, ends-rise count (at + n) (j - w) (k - w) last cs room (omega arith))
    ]

starts-rise : (count : ℕ → List ℕ → ℕ) (at j k last : ℕ) (text : List ℕ) → at + byte_len text ≤ last → j ≤ k → get_or (starts_from count at text) j last ≤ get_or (starts_from count at text) k last
starts-rise count at j k last [] h le = omega arith
starts-rise count at j k last (c ∷ cs) h le =
    let n = len_utf8 c in
    let w = count c cs in
    let rest = starts_from count (at + n) cs in
    let room : at + n + byte_len cs ≤ last = omega (arith, bytes-cons c cs) in
    elim (cases_lt j w) [
      | inl first ↦ elim (cases_lt k w) [
        | inl second ↦ omega (arith, among-equal w at j last rest first, among-equal w at k last rest second)
        | inr later ↦ omega (arith, among-equal w at j last rest first, past-equal w at k last rest later, starts-low count (at + n) (k - w) last cs room)
      ]
      | inr later ↦
          let past : w ≤ k = omega arith in
          omega (arith, past-equal w at j last rest later, past-equal w at k last rest past, starts-rise count (at + n) (j - w) (k - w) last cs room (omega arith))
    ]

pub rises_with_index : (count : ℕ → List ℕ → ℕ) (text : List ℕ) (j k : ℕ) → j ≤ k → end_place (ends_from count 0 text) j (byte_len text) ≤ end_place (ends_from count 0 text) k (byte_len text)
rises_with_index count text zero k h = omega arith
rises_with_index count text (suc j) zero h = absurd (omega arith)
rises_with_index count text (suc j) (suc k) h = ends-rise count 0 j k (byte_len text) text (omega arith) (omega arith)

pub unit_starts-rise : UnitStartsRise
unit_starts-rise text j k h = starts-rise (λ c _. units_of c) 0 j k (byte_len text) text (omega arith) h

pub rises_with_place : (ends : List ℕ) (a b : ℕ) → a ≤ b → ends_up_to a ends ≤ ends_up_to b ends
rises_with_place ends a b h = sum_by-le-sum_by (λ e. cond (nat_le e a) 1 0) (λ e. cond (nat_le e b) 1 0) ends (λ e. one e)
  where
    one : (e : ℕ) → cond {A = ℕ} (nat_le e a) 1 0 ≤ cond (nat_le e b) 1 0
    one e = grind (arith, nat_tests)

-- ---- they stand between characters
text-utf8 : (cs : List ℕ) → all_scalars cs ≡ true → IsUtf8 (encode_utf8_all cs)
text-utf8 cs scalar = (cs, (scalar, refl))

ends-boundary : (count : ℕ → List ℕ → ℕ) (before : List ℕ) (k : ℕ) (text : List ℕ) → all_scalars text ≡ true
    → IsCharBoundary (before ++ encode_utf8_all text) (get_or (ends_from count (length before) text) k (length (before ++ encode_utf8_all text)))
ends-boundary count before k [] scalar = IsCharBoundary-end (before ++ [])
ends-boundary count before k (c ∷ cs) scalar =
    let n = len_utf8 c in
    let w = count c cs in
    let whole = before ++ encode_utf8_all (c ∷ cs) in
    let more = before ++ encode_utf8 c in
    let joined : more ++ encode_utf8_all cs ≡ whole = append_assoc before (encode_utf8 c) (encode_utf8_all cs) in
    let reached : length more ≡ length before + n = omega (arith, length-append before (encode_utf8 c), length-encode c) in
    let rest = ends_from count (length before + n) cs in
    let scalars = (and_parts _ _ scalar).1 in
    elim (cases_lt k w) [
      | inl here ↦
          subst (λ at. IsCharBoundary whole at) (reached ∙ sym (among-equal w (length before + n) k (length whole) rest here))
          (IsCharBoundary-at_seam whole more (encode_utf8_all cs) (sym joined) (text-utf8 cs scalars))
      | inr later ↦
          subst (λ at. IsCharBoundary whole at) (sym (past-equal w (length before + n) k (length whole) rest later))
          (subst (λ at. IsCharBoundary whole (get_or (ends_from count at cs) (k - w) (length whole))) reached
          (subst (λ bs. IsCharBoundary bs (get_or (ends_from count (length more) cs) (k - w) (length bs))) joined
          (ends-boundary count more (k - w) cs scalars)))
    ]

starts-boundary : (count : ℕ → List ℕ → ℕ) (before : List ℕ) (k : ℕ) (text : List ℕ) → all_scalars text ≡ true
    → IsCharBoundary (before ++ encode_utf8_all text) (get_or (starts_from count (length before) text) k (length (before ++ encode_utf8_all text)))
starts-boundary count before k [] scalar = IsCharBoundary-end (before ++ [])
starts-boundary count before k (c ∷ cs) scalar =
    let n = len_utf8 c in
    let w = count c cs in
    let whole = before ++ encode_utf8_all (c ∷ cs) in
    let more = before ++ encode_utf8 c in
    let joined : more ++ encode_utf8_all cs ≡ whole = append_assoc before (encode_utf8 c) (encode_utf8_all cs) in
    let reached : length more ≡ length before + n = omega (arith, length-append before (encode_utf8 c), length-encode c) in
    let rest = starts_from count (length before + n) cs in
    let scalars = (and_parts _ _ scalar).1 in
    elim (cases_lt k w) [
      | inl here ↦
          subst (λ at. IsCharBoundary whole at) (sym (among-equal w (length before) k (length whole) rest here))
          (IsCharBoundary-at_seam whole before (encode_utf8_all (c ∷ cs)) refl (text-utf8 (c ∷ cs) scalar))
      | inr later ↦
          subst (λ at. IsCharBoundary whole at) (sym (past-equal w (length before) k (length whole) rest later))
          (subst (λ at. IsCharBoundary whole (get_or (starts_from count at cs) (k - w) (length whole))) reached
          (subst (λ bs. IsCharBoundary bs (get_or (starts_from count (length more) cs) (k - w) (length bs))) joined
          (starts-boundary count more (k - w) cs scalars)))
    ]

pub ends_are_boundaries : (count : ℕ → List ℕ → ℕ) (text : List ℕ) (k : ℕ) → all_scalars text ≡ true → IsCharBoundary (encode_utf8_all text) (end_place (ends_from count 0 text) k (byte_len text))
ends_are_boundaries count text zero scalar = IsCharBoundary-start (encode_utf8_all text) (text-utf8 text scalar)
ends_are_boundaries count text (suc k) scalar = ends-boundary count [] k text scalar

pub unit_starts-boundaries : UnitStartsAreBoundaries
unit_starts-boundaries text k scalar = starts-boundary (λ c _. units_of c) [] k text scalar

-- ---- they lead back to their index
pub up_to-cons : (w e b : ℕ) (rest : List ℕ) → e ≤ b → ends_up_to b (replicate w e ++ rest) ≡ w + ends_up_to b rest
up_to-cons w e b rest h = omega (arith, up_to-append b (replicate w e) rest, up_to-replicate_within w e b h)

pub ends-back : (count : ℕ → List ℕ → ℕ) → ((c : ℕ) (cs : List ℕ) → count c cs ≤ 1) → (at k last : ℕ) (text : List ℕ) → at + byte_len text ≤ last
    → ends_up_to (get_or (ends_from count at text) k last) (ends_from count at text) ≡ min (k + 1) (length (ends_from count at text))
ends-back count once at k last [] h = omega arith
ends-back count once at k last (c ∷ cs) h =
    let n = len_utf8 c in
    let w = count c cs in
    let rest = ends_from count (at + n) cs in
    let room : at + n + byte_len cs ≤ last = omega (arith, bytes-cons c cs) in
    let long_all : length (replicate w (at + n) ++ rest) ≡ w + length rest = omega (arith, length-append (replicate w (at + n)) rest, length-replicate {A = ℕ} w (at + n)) in
    elim (cases_lt k w) [
      | inl here ↦
          ap (λ b. ends_up_to b (replicate w (at + n) ++ rest)) (among-equal w (at + n) k last rest here)
          ∙ omega (arith, up_to-cons w (at + n) (at + n) rest (omega arith), up_to-start count (at + n) (at + n) cs (omega arith), long_all, once c cs)
      | inr later ↦
          let place = get_or rest (k - w) last in
          ap (λ b. ends_up_to b (replicate w (at + n) ++ rest)) (past-equal w (at + n) k last rest later)
          ∙ omega (arith, up_to-cons w (at + n) place rest (ends-low count (at + n) (k - w) last cs room), ends-back count once (at + n) (k - w) last cs room, long_all)
    ]

pub comes_back : (count : ℕ → List ℕ → ℕ) → ((c : ℕ) (cs : List ℕ) → count c cs ≤ 1) → (text : List ℕ) (k : ℕ)
    → ends_up_to (end_place (ends_from count 0 text) k (byte_len text)) (ends_from count 0 text) ≡ min k (length (ends_from count 0 text))
comes_back count once text zero = omega (arith, up_to-start count 0 0 text (omega arith))
comes_back count once text (suc k) =
    ends-back count once 0 k (byte_len text) text (omega arith) ∙ omega arith
