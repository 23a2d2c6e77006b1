-- How the order of places and the order of indices go together.
use Rattle.std.proofs.Common.{◌≡◌, ℕ, zero, suc, ◌+◌, ◌-◌, ◌<◌, ◌≤◌, ◌↔◌, inl, inr, Bool, true, false, cond, nat_le, List, [], ◌∷◌, ◌++◌, length, replicate, get_or, min, refl, ap, subst, ◌∙◌, arith}
use Rattle.std.specs.Char.{len_utf8}
use Rattle.std.proofs.lemmas.Bool.{cases_lt}
use Rattle.std.proofs.lemmas.List.Sums.{count_by-le-length}
use Rattle.str_indices.specs.Text.{byte_len, ends_from, starts_from, ends_up_to, end_place, char_ends, unit_ends, unit_starts, units_of}
use Rattle.str_indices.specs.Laws.{CharsAndBoundariesAgree, UnitsAndBoundariesAgree, CharsGoToLastBoundary, UnitsGoToLastBoundary, LastUnitStartIsBefore}
use Rattle.str_indices.proofs.Spread.{long, among-equal, past-equal, up_to-start, up_to-append, up_to-replicate_past}
use Rattle.str_indices.proofs.Places.{bytes-cons, starts-low, ends-back, up_to-cons, rises_with_place, unit_starts-rise}
use Rattle.str_indices.proofs.Indices.{starts_are_ends}
use Rattle.std.proofs.lemmas.List.{get_or_past}

-- ---- ends, where a character counts once at most
ends-high : (count : ℕ → List ℕ → ℕ) (at k last : ℕ) (text : List ℕ) → at + byte_len text ≤ last → get_or (ends_from count at text) k last ≤ last
ends-high count at k last [] h = omega arith
ends-high count at k last (c ∷ cs) h =
    let n = len_utf8 c in
    let w = count c cs in
    let rest = ends_from count (at + n) cs in
    let room : at + n + byte_len cs ≤ last = omega (arith, bytes-cons c cs) in
    elim (cases_lt k w) [
      | inl here ↦ omega (arith, among-equal w (at + n) k last rest here, room)
      | inr later ↦ omega (arith, past-equal w (at + n) k last rest later, ends-high count (at + n) (k - w) last cs room)
    ]

-- before the place of an end there are only the ends before it
up_to-before : (count : ℕ → List ℕ → ℕ) (at k b last : ℕ) (text : List ℕ) → at + byte_len text ≤ last → b < get_or (ends_from count at text) k last → ends_up_to b (ends_from count at text) ≤ k
up_to-before count at k b last [] h before = omega arith
up_to-before count at k b last (c ∷ cs) h before =
    let n = len_utf8 c in
    let w = count c cs in
    let rest = ends_from count (at + n) cs in
    let room : at + n + byte_len cs ≤ last = omega (arith, bytes-cons c cs) in
    elim (cases_lt b (at + n)) [
      | inl inside ↦ omega (arith, up_to-append b (replicate w (at + n)) rest, up_to-replicate_past w (at + n) b inside, up_to-start count (at + n) b cs (omega arith))
      | inr past ↦ elim (cases_lt k w) [
        | inl here ↦ absurd (omega (arith, before, among-equal w (at + n) k last rest here))
        | inr later ↦ omega (arith, up_to-cons w (at + n) b rest past, up_to-before count (at + n) (k - w) b last cs room (omega (arith, before, past-equal w (at + n) k last rest later)))
      ]
    ]

-- an end lies at or before a place exactly if so many ends do
pub end_place-le : (count : ℕ → List ℕ → ℕ) → ((c : ℕ) (cs : List ℕ) → count c cs ≤ 1) → (text : List ℕ) (k b : ℕ) → k ≤ length (ends_from count 0 text)
    → (end_place (ends_from count 0 text) k (byte_len text) ≤ b) ↔ (k ≤ ends_up_to b (ends_from count 0 text))
end_place-le count once text zero b within = (λ _. omega arith, λ _. omega arith)
end_place-le count once text (suc k) b within =
    let ends = ends_from count 0 text in
    let last = byte_len text in
    let place = get_or ends k last in
    let counted : ends_up_to place ends ≡ k + 1 = ends-back count once 0 k last text (omega arith) ∙ omega arith in (
      λ h. omega (arith, counted, rises_with_place ends place b h),
      λ h. elim (cases_lt b place) as (λ _. place ≤ b) [
        | inl before ↦ absurd (omega (arith, h, up_to-before count 0 k b last text (omega arith) before))
        | inr reached ↦ reached
      ],
    )

-- so the last end at or before a place lies at or before it
pub end_before : (count : ℕ → List ℕ → ℕ) → ((c : ℕ) (cs : List ℕ) → count c cs ≤ 1) → (text : List ℕ) (b : ℕ)
    → end_place (ends_from count 0 text) (ends_up_to b (ends_from count 0 text)) (byte_len text) ≤ min b (byte_len text)
end_before count once text b =
    let ends = ends_from count 0 text in
    let within = count_by-le-length (λ e. nat_le e b) ends in
    let low = (end_place-le count once text (ends_up_to b ends) b within).1 (omega arith) in
    omega (arith, low, high (ends_up_to b ends))
  where
    high : (k : ℕ) → end_place (ends_from count 0 text) k (byte_len text) ≤ byte_len text
    high zero = omega arith
    high (suc k) = ends-high count 0 k (byte_len text) text (omega arith)

-- ---- starts, where a character counts once at least
-- a character boundary lies at or before a start exactly if no more counts end up to it
start_after : (count : ℕ → ℕ) → ((c : ℕ) → 1 ≤ count c) → (at k last : ℕ) (before after : List ℕ) → at + byte_len (before ++ after) ≤ last
    → (at + byte_len before ≤ get_or (starts_from (λ c _. count c) at (before ++ after)) k last) ↔ (ends_up_to (at + byte_len before) (ends_from (λ c _. count c) at (before ++ after)) ≤ k)
start_after count some at k last [] after h =
    let none = up_to-start (λ c _. count c) at (at + 0) after (omega arith) in
    (λ _. omega (arith, none), λ _. omega (arith, starts-low (λ c _. count c) at k last after h))
start_after count some at k last (c ∷ cs) after h =
    let each = λ (c : ℕ) (rest : List ℕ). count c in
    let n = len_utf8 c in
    let w = count c in
    let text = cs ++ after in
    let starts = starts_from each (at + n) text in
    let ends = ends_from each (at + n) text in
    let room : at + n + byte_len text ≤ last = omega (arith, bytes-cons c text) in
    let b = at + byte_len (c ∷ cs) in
    let same : b ≡ at + n + byte_len cs = omega (arith, bytes-cons c cs) in
    let counted : ends_up_to b (replicate w (at + n) ++ ends) ≡ w + ends_up_to b ends = up_to-cons w (at + n) b ends (omega (arith, same)) in
    let moved : ends_up_to b ends ≡ ends_up_to (at + n + byte_len cs) ends = ap (λ e. ends_up_to e ends) same in
    let rest = start_after count some (at + n) (k - w) last cs after room in
    elim (cases_lt k w) [
      | inl here ↦
          let start = among-equal w at k last starts here in
          (λ le. absurd (omega (arith, le, start, same, long c)), λ le. absurd (omega (arith, le, counted)))
      | inr later ↦
          let start = past-equal w at k last starts later in (
            λ le. omega (arith, counted, moved, rest.0 (omega (arith, le, start, same))),
            λ le. omega (arith, start, same, rest.1 (omega (arith, le, counted, moved))),
          )
    ]

-- the start of what has not ended at a place lies at or before it
start_before : (count : ℕ → ℕ) → ((c : ℕ) → 1 ≤ count c) → (at b last : ℕ) (text : List ℕ) → at + byte_len text ≡ last → at ≤ b
    → get_or (starts_from (λ c _. count c) at text) (ends_up_to b (ends_from (λ c _. count c) at text)) last ≤ b
start_before count some at b last [] e low = omega (arith, e)
start_before count some at b last (c ∷ cs) e low =
    let each = λ (c : ℕ) (rest : List ℕ). count c in
    let n = len_utf8 c in
    let w = count c in
    let starts = starts_from each (at + n) cs in
    let ends = ends_from each (at + n) cs in
    let room : at + n + byte_len cs ≡ last = omega (arith, e, bytes-cons c cs) in
    elim (cases_lt b (at + n)) [
      | inl inside ↦
          let none : ends_up_to b (replicate w (at + n) ++ ends) ≡ 0 = omega (arith, up_to-append b (replicate w (at + n)) ends, up_to-replicate_past w (at + n) b inside, up_to-start each (at + n) b cs (omega arith)) in
          omega (arith, ap (λ k. get_or (replicate w at ++ starts) k last) none, among-equal w at 0 last starts (omega (arith, some c)))
      | inr past ↦
          let counted = up_to-cons w (at + n) b ends past in
          let k = ends_up_to b ends in
          omega (
            arith,
            ap (λ k. get_or (replicate w at ++ starts) k last) counted,
            past-equal w at (w + k) last starts (omega arith),
            ap (λ m. get_or starts m last) (let d : w + k - w ≡ k = omega arith in d),
            start_before count some (at + n) b last cs room past,
          )
    ]

-- at the start of the text, and at the bytes that it takes
whole : (count : ℕ → ℕ) → ((c : ℕ) → 1 ≤ count c) → (before after : List ℕ) (k : ℕ)
    → (byte_len before ≤ get_or (starts_from (λ c _. count c) 0 (before ++ after)) k (byte_len (before ++ after))) ↔ (ends_up_to (byte_len before) (ends_from (λ c _. count c) 0 (before ++ after)) ≤ k)
whole count some before after k =
    let e : 0 + byte_len before ≡ byte_len before = omega arith in
    subst (λ m. (m ≤ get_or (starts_from (λ c _. count c) 0 (before ++ after)) k (byte_len (before ++ after))) ↔ (ends_up_to m (ends_from (λ c _. count c) 0 (before ++ after)) ≤ k)) e
    (start_after count some 0 k (byte_len (before ++ after)) before after (omega arith))

once : (c : ℕ) → 1 ≤ 1
once c = omega arith

units_some : (c : ℕ) → 1 ≤ units_of c
units_some c = at_test (nat_le 0x1_0000 c)
  where
    at_test : (b : Bool) → 1 ≤ cond b 2 1
    at_test true = omega arith
    at_test false = omega arith

pub chars-and-boundaries : CharsAndBoundariesAgree
chars-and-boundaries before after k =
    subst (λ m. (byte_len before ≤ m) ↔ (ends_up_to (byte_len before) (char_ends (before ++ after)) ≤ k))
    (starts_are_ends k (byte_len (before ++ after)) (before ++ after) refl) (whole (λ _. 1) once before after k)

pub units-and-boundaries : UnitsAndBoundariesAgree
units-and-boundaries before after k = whole units_of units_some before after k

pub chars-nearest : CharsGoToLastBoundary
chars-nearest before after b low =
    (chars-and-boundaries before after (ends_up_to b (char_ends (before ++ after)))).1 (rises_with_place (char_ends (before ++ after)) (byte_len before) b low)

pub units-nearest : UnitsGoToLastBoundary
units-nearest before after b low =
    (units-and-boundaries before after (ends_up_to b (unit_ends (before ++ after)))).1 (rises_with_place (unit_ends (before ++ after)) (byte_len before) b low)

pub unit_start-before : LastUnitStartIsBefore
unit_start-before text b =
    let starts = unit_starts text in
    let last = byte_len text in
    let k = ends_up_to b (unit_ends text) in
    let end : get_or starts (k + length starts) last ≡ last = get_or_past starts (k + length starts) last (omega arith) in
    omega (arith, start_before units_of units_some 0 b last text (omega arith) (omega arith), unit_starts-rise text k (k + length starts) (omega arith), end)
