-- Ends and starts in a part of a text.
use Rattle.std.proofs.Common.{◌≡◌, ℕ, zero, suc, ◌+◌, ◌-◌, ◌<◌, ◌≤◌, ◌⊎◌, inl, inr, Bool, true, false, cond, List, [], ◌∷◌, ◌++◌, length, replicate, get_or, refl, ap, sym, ◌∙◌, arith, length-append, append_assoc}
use Rattle.std.specs.Prelude.{◌&&◌, not, ◌==◌}
use Rattle.std.specs.Char.{len_utf8}
use Rattle.std.proofs.lemmas.Bool.{cases_lt}
use Rattle.std.proofs.lemmas.List.{append-nil, length-replicate, get_or_append_left, get_or-append_right, get_or_default}
use Rattle.std.proofs.lemmas.List.Sums.{sum_by-cons}
use Rattle.std.proofs.lemmas.Str.{encodes-append}
use Rattle.str_indices.specs.Text.{byte_len, NoCrLfBetween, ends_from, starts_from, ends_break, ends_up_to, end_place, breaks, break_ends, char_ends, unit_ends, units_of, units}
use Rattle.str_indices.specs.Laws.{AnyTexts, EndsAddUp, PlacesAddUp, UnitStartsAddUp}
use Rattle.str_indices.proofs.Spread.{among-equal, past-equal, up_to-append, up_to-start, up_to-replicate_past, up_to-replicate_within}
use Rattle.str_indices.proofs.Places.{bytes-cons, up_to-cons}

pub byte_len-append : (s t : List ℕ) → byte_len (s ++ t) ≡ byte_len s + byte_len t
byte_len-append s t = ap length (encodes-append s t) ∙ length-append _ _

-- ---- a character counts the same with the second text behind it
abbrev CountsAlone : (ℕ → List ℕ → ℕ) → List ℕ → List ℕ → Type 0
CountsAlone count [] second = Unit {0}
CountsAlone count (c ∷ cs) second = (count c (cs ++ second) ≡ count c cs) × CountsAlone count cs second

alone : (count : ℕ → ℕ) (first second : List ℕ) → CountsAlone (λ c _. count c) first second
alone count [] second = tt
alone count (c ∷ cs) second = (refl, alone count cs second)

abbrev break_count : (ℕ → Bool) → ℕ → List ℕ → ℕ
break_count is_break c rest = cond (ends_break is_break c rest) 1 0

pub breaks-alone : (is_break : ℕ → Bool) (first second : List ℕ) → NoCrLfBetween first second → CountsAlone (break_count is_break) first second
breaks-alone is_break [] second h = tt
breaks-alone is_break (c ∷ []) second h = (ap (λ b. cond {A = ℕ} (is_break c && not b) 1 0) (h ∙ sym (none (c == 13))), tt)
  where
    none : (b : Bool) → (b && false) ≡ false
    none true = refl
    none false = refl
breaks-alone is_break (c ∷ d ∷ ds) second h = (refl, breaks-alone is_break (d ∷ ds) second h)

-- ---- joined texts
pub ends-joined : (count : ℕ → List ℕ → ℕ) (at next : ℕ) (first second : List ℕ) → CountsAlone count first second → next ≡ at + byte_len first
    → ends_from count at (first ++ second) ≡ ends_from count at first ++ ends_from count next second
ends-joined count at next [] second h e =
    let same : at ≡ next = omega (arith, e) in
    ap (λ n. ends_from count n second) same
ends-joined count at next (c ∷ cs) second h e =
    let n = len_utf8 c in
    ap (λ w. replicate w (at + n) ++ ends_from count (at + n) (cs ++ second)) h.0
    ∙ ap (λ es. replicate (count c cs) (at + n) ++ es) (ends-joined count (at + n) next cs second h.1 (omega (arith, e, bytes-cons c cs)))
    ∙ sym (append_assoc (replicate (count c cs) (at + n)) (ends_from count (at + n) cs) (ends_from count next second))

starts-joined : (count : ℕ → List ℕ → ℕ) (at next : ℕ) (first second : List ℕ) → CountsAlone count first second → next ≡ at + byte_len first
    → starts_from count at (first ++ second) ≡ starts_from count at first ++ starts_from count next second
starts-joined count at next [] second h e =
    let same : at ≡ next = omega (arith, e) in
    ap (λ n. starts_from count n second) same
starts-joined count at next (c ∷ cs) second h e =
    let n = len_utf8 c in
    ap (λ w. replicate w at ++ starts_from count (at + n) (cs ++ second)) h.0
    ∙ ap (λ es. replicate (count c cs) at ++ es) (starts-joined count (at + n) next cs second h.1 (omega (arith, e, bytes-cons c cs)))
    ∙ sym (append_assoc (replicate (count c cs) at) (starts_from count (at + n) cs) (starts_from count next second))

-- ---- the same text further on
pub up_to-moved : (count : ℕ → List ℕ → ℕ) (d at b at' b' : ℕ) (text : List ℕ) → at' ≡ d + at → b' ≡ d + b → ends_up_to b' (ends_from count at' text) ≡ ends_up_to b (ends_from count at text)
up_to-moved count d at b at' b' [] p q = refl
up_to-moved count d at b at' b' (c ∷ cs) p q =
    let n = len_utf8 c in
    let w = count c cs in
    let below = up_to-moved count d (at + n) b (at' + n) b' cs (omega (arith, p)) q in
    let whole = up_to-append b' (replicate w (at' + n)) (ends_from count (at' + n) cs) in
    let part = up_to-append b (replicate w (at + n)) (ends_from count (at + n) cs) in
    elim (cases_lt b (at + n)) [
      | inl past ↦ omega (arith, below, whole, part, up_to-replicate_past w (at + n) b past, up_to-replicate_past w (at' + n) b' (omega (arith, past, p, q)))
      | inr within ↦ omega (arith, below, whole, part, up_to-replicate_within w (at + n) b within, up_to-replicate_within w (at' + n) b' (omega (arith, within, p, q)))
    ]

ends-moved : (count : ℕ → List ℕ → ℕ) (d at at' k last last' : ℕ) (text : List ℕ) → at' ≡ d + at → last' ≡ d + last → get_or (ends_from count at' text) k last' ≡ d + get_or (ends_from count at text) k last
ends-moved count d at at' k last last' [] p q = q
ends-moved count d at at' k last last' (c ∷ cs) p q =
    let n = len_utf8 c in
    let w = count c cs in
    elim (cases_lt k w) [
      | inl here ↦ omega (arith, p, among-equal w (at + n) k last (ends_from count (at + n) cs) here, among-equal w (at' + n) k last' (ends_from count (at' + n) cs) here)
      | inr later ↦
          omega (
            arith,
            past-equal w (at + n) k last (ends_from count (at + n) cs) later,
            past-equal w (at' + n) k last' (ends_from count (at' + n) cs) later,
            ends-moved count d (at + n) (at' + n) (k - w) last last' cs (omega (arith, p)) q,
          )
    ]

starts-moved : (count : ℕ → List ℕ → ℕ) (d at at' k last last' : ℕ) (text : List ℕ) → at' ≡ d + at → last' ≡ d + last → get_or (starts_from count at' text) k last' ≡ d + get_or (starts_from count at text) k last
starts-moved count d at at' k last last' [] p q = q
starts-moved count d at at' k last last' (c ∷ cs) p q =
    let n = len_utf8 c in
    let w = count c cs in
    elim (cases_lt k w) [
      | inl here ↦ omega (arith, p, among-equal w at k last (starts_from count (at + n) cs) here, among-equal w at' k last' (starts_from count (at' + n) cs) here)
      | inr later ↦
          omega (
            arith,
            past-equal w at k last (starts_from count (at + n) cs) later,
            past-equal w at' k last' (starts_from count (at' + n) cs) later,
            starts-moved count d (at + n) (at' + n) (k - w) last last' cs (omega (arith, p)) q,
          )
    ]

-- ---- how many there are
up_to-all : (count : ℕ → List ℕ → ℕ) (at b : ℕ) (text : List ℕ) → at + byte_len text ≤ b → ends_up_to b (ends_from count at text) ≡ length (ends_from count at text)
up_to-all count at b [] h = refl
up_to-all count at b (c ∷ cs) h =
    let n = len_utf8 c in
    let w = count c cs in
    let room : at + n + byte_len cs ≤ b = omega (arith, h, bytes-cons c cs) in
    omega (arith, up_to-cons w (at + n) b (ends_from count (at + n) cs) (omega (arith, room)), up_to-all count (at + n) b cs room, length-append (replicate w (at + n)) (ends_from count (at + n) cs), length-replicate {A = ℕ} w (at + n))

as_many_starts : (count : ℕ → List ℕ → ℕ) (at : ℕ) (text : List ℕ) → length (starts_from count at text) ≡ length (ends_from count at text)
as_many_starts count at [] = refl
as_many_starts count at (c ∷ cs) =
    let n = len_utf8 c in
    let w = count c cs in
    omega (
      arith,
      length-append (replicate w at) (starts_from count (at + n) cs),
      length-append (replicate w (at + n)) (ends_from count (at + n) cs),
      length-replicate {A = ℕ} w at,
      length-replicate {A = ℕ} w (at + n),
      as_many_starts count (at + n) cs,
    )

chars-counted : (at : ℕ) (text : List ℕ) → length (ends_from (λ _ _. 1) at text) ≡ length text
chars-counted at [] = refl
chars-counted at (c ∷ cs) = omega (arith, chars-counted (at + len_utf8 c) cs)

units-counted : (at : ℕ) (text : List ℕ) → length (ends_from (λ c _. units_of c) at text) ≡ units text
units-counted at [] = refl
units-counted at (c ∷ cs) =
    let n = len_utf8 c in
    omega (
      arith,
      length-append (replicate (units_of c) (at + n)) (ends_from (λ c _. units_of c) (at + n) cs),
      length-replicate {A = ℕ} (units_of c) (at + n),
      units-counted (at + n) cs,
      sum_by-cons units_of c cs,
    )

-- ---- a part
part-up_to : (count : ℕ → List ℕ → ℕ) (before part after : List ℕ) (place : ℕ) → CountsAlone count before part → CountsAlone count (before ++ part) after
    → byte_len before ≤ place → place ≤ byte_len (before ++ part)
    → ends_up_to place (ends_from count 0 (before ++ part ++ after)) ≡ length (ends_from count 0 before) + ends_up_to (place - byte_len before) (ends_from count 0 part)
part-up_to count before part after place a b low high =
    let d = byte_len before in
    let through = byte_len (before ++ part) in
    let A = ends_from count 0 before in
    let B = ends_from count d part in
    let C = ends_from count through after in
    let outer : ends_from count 0 (before ++ part ++ after) ≡ ends_from count 0 (before ++ part) ++ C = ends-joined count 0 through (before ++ part) after b (omega arith) in
    let inner : ends_from count 0 (before ++ part) ≡ A ++ B = ends-joined count 0 d before part a (omega arith) in
    let all_before = up_to-all count 0 place before (omega (arith, low)) in
    let none_after = up_to-start count through place after high in
    let moved = up_to-moved count d 0 (place - d) d place part (omega arith) (omega (arith, low)) in
    ap (ends_up_to place) outer ∙ up_to-append place (ends_from count 0 (before ++ part)) C ∙ ap (λ es. ends_up_to place es + ends_up_to place C) inner
    ∙ omega (arith, up_to-append place A B, all_before, none_after, moved)

-- an end in the first of two texts
first-end : (count : ℕ → List ℕ → ℕ) (first second : List ℕ) (j last : ℕ) → CountsAlone count first second → j < length (ends_from count 0 first)
    → get_or (ends_from count 0 (first ++ second)) j last ≡ get_or (ends_from count 0 first) j last
first-end count first second j last a h =
    ap (λ es. get_or es j last) (ends-joined count 0 (byte_len first) first second a (omega arith)) ∙ get_or_append_left (ends_from count 0 first) (ends_from count (byte_len first) second) last j h

-- and in the second
second-end : (count : ℕ → List ℕ → ℕ) (first second : List ℕ) (j last last' : ℕ) → CountsAlone count first second → length (ends_from count 0 first) ≤ j → last' ≡ byte_len first + last
    → get_or (ends_from count 0 (first ++ second)) j last' ≡ byte_len first + get_or (ends_from count 0 second) (j - length (ends_from count 0 first)) last
second-end count first second j last last' a h e =
    let d = byte_len first in
    ap (λ es. get_or es j last') (ends-joined count 0 d first second a (omega arith))
    ∙ get_or-append_right (ends_from count 0 first) (ends_from count d second) (length (ends_from count 0 first)) j last' refl h
    ∙ ends-moved count d 0 d (j - length (ends_from count 0 first)) last last' second (omega arith) e

first-start : (count : ℕ → List ℕ → ℕ) (first second : List ℕ) (j last : ℕ) → CountsAlone count first second → j < length (starts_from count 0 first)
    → get_or (starts_from count 0 (first ++ second)) j last ≡ get_or (starts_from count 0 first) j last
first-start count first second j last a h =
    ap (λ es. get_or es j last) (starts-joined count 0 (byte_len first) first second a (omega arith)) ∙ get_or_append_left (starts_from count 0 first) (starts_from count (byte_len first) second) last j h

second-start : (count : ℕ → List ℕ → ℕ) (first second : List ℕ) (j last last' : ℕ) → CountsAlone count first second → length (starts_from count 0 first) ≤ j → last' ≡ byte_len first + last
    → get_or (starts_from count 0 (first ++ second)) j last' ≡ byte_len first + get_or (starts_from count 0 second) (j - length (starts_from count 0 first)) last
second-start count first second j last last' a h e =
    let d = byte_len first in
    ap (λ es. get_or es j last') (starts-joined count 0 d first second a (omega arith))
    ∙ get_or-append_right (starts_from count 0 first) (starts_from count d second) (length (starts_from count 0 first)) j last' refl h
    ∙ starts-moved count d 0 d (j - length (starts_from count 0 first)) last last' second (omega arith) e

part-end : (count : ℕ → List ℕ → ℕ) (before part after : List ℕ) (j : ℕ) → CountsAlone count before part → CountsAlone count (before ++ part) after → length (ends_from count 0 before) ≤ j
    → (j < length (ends_from count 0 (before ++ part))) ⊎ (after ≡ [])
    → get_or (ends_from count 0 (before ++ part ++ after)) j (byte_len (before ++ part ++ after)) ≡ byte_len before + get_or (ends_from count 0 part) (j - length (ends_from count 0 before)) (byte_len part)
part-end count before part after j a b low passed =
    let sums = byte_len-append before part in
    let inside = second-end count before part j (byte_len part) (byte_len (before ++ part)) a low sums in
    elim passed [
      | inl p ↦
          first-end count (before ++ part) after j (byte_len (before ++ part ++ after)) b p
          ∙ get_or_default (ends_from count 0 (before ++ part)) j (byte_len (before ++ part ++ after)) (byte_len (before ++ part)) p
          ∙ inside
      | inr e ↦
          let whole : before ++ part ++ after ≡ before ++ part = ap (λ t. before ++ part ++ t) e ∙ append-nil (before ++ part) in
          ap (λ t. get_or (ends_from count 0 t) j (byte_len t)) whole ∙ inside
    ]

part-start : (count : ℕ → List ℕ → ℕ) (before part after : List ℕ) (j : ℕ) → CountsAlone count before part → CountsAlone count (before ++ part) after → length (starts_from count 0 before) ≤ j
    → (j < length (starts_from count 0 (before ++ part))) ⊎ (after ≡ [])
    → get_or (starts_from count 0 (before ++ part ++ after)) j (byte_len (before ++ part ++ after)) ≡ byte_len before + get_or (starts_from count 0 part) (j - length (starts_from count 0 before)) (byte_len part)
part-start count before part after j a b low passed =
    let sums = byte_len-append before part in
    let inside = second-start count before part j (byte_len part) (byte_len (before ++ part)) a low sums in
    elim passed [
      | inl p ↦
          first-start count (before ++ part) after j (byte_len (before ++ part ++ after)) b p
          ∙ get_or_default (starts_from count 0 (before ++ part)) j (byte_len (before ++ part ++ after)) (byte_len (before ++ part)) p
          ∙ inside
      | inr e ↦
          let whole : before ++ part ++ after ≡ before ++ part = ap (λ t. before ++ part ++ t) e ∙ append-nil (before ++ part) in
          ap (λ t. get_or (starts_from count 0 t) j (byte_len t)) whole ∙ inside
    ]

-- ---- the laws
add-up : (count : ℕ → List ℕ → ℕ) (size : List ℕ → ℕ) (may_meet : List ℕ → List ℕ → Type 0) → ((first second : List ℕ) → may_meet first second → CountsAlone count first second)
    → ((text : List ℕ) → length (ends_from count 0 text) ≡ size text) → EndsAddUp may_meet size (λ text. ends_from count 0 text)
add-up count size may_meet counts sized before part after place a b low high =
    part-up_to count before part after place (counts before part a) (counts (before ++ part) after b) low high ∙ ap (λ n. n + ends_up_to (place - byte_len before) (ends_from count 0 part)) (sized before)

places-add : (count : ℕ → List ℕ → ℕ) (size : List ℕ → ℕ) (may_meet : List ℕ → List ℕ → Type 0) → ((first second : List ℕ) → may_meet first second → CountsAlone count first second)
    → ((text : List ℕ) → length (ends_from count 0 text) ≡ size text) → PlacesAddUp may_meet size (λ text. ends_from count 0 text)
places-add count size may_meet counts sized before part after zero a b low passed = absurd (omega (arith, low))
places-add count size may_meet counts sized before part after (suc j) a b low passed =
    let first = sized before in
    let long : (j < length (ends_from count 0 (before ++ part))) ⊎ (after ≡ []) = elim passed [
      | inl p ↦ inl (omega (arith, p, sized (before ++ part)))
      | inr e ↦ inr e
    ] in
    let index : suc j - size before ≡ suc (j - size before) = omega (arith, low) in
    part-end count before part after j (counts before part a) (counts (before ++ part) after b) (omega (arith, first, low)) long
    ∙ ap (λ n. byte_len before + get_or (ends_from count 0 part) (j - n) (byte_len part)) first
    ∙ ap (λ n. byte_len before + end_place (ends_from count 0 part) n (byte_len part)) (sym index)

pub chars-add_up : EndsAddUp AnyTexts length char_ends
chars-add_up = add-up (λ _ _. 1) length AnyTexts (λ first second h. alone (λ _. 1) first second) (chars-counted 0)

pub units-add_up : EndsAddUp AnyTexts units unit_ends
units-add_up = add-up (λ c _. units_of c) units AnyTexts (λ first second h. alone units_of first second) (units-counted 0)

pub breaks-add_up : (is_break : ℕ → Bool) → EndsAddUp NoCrLfBetween (breaks is_break) (break_ends is_break)
breaks-add_up is_break = add-up (break_count is_break) (breaks is_break) NoCrLfBetween (breaks-alone is_break) (λ text. refl)

pub char-places_add_up : PlacesAddUp AnyTexts length char_ends
char-places_add_up = places-add (λ _ _. 1) length AnyTexts (λ first second h. alone (λ _. 1) first second) (chars-counted 0)

pub break-places_add_up : (is_break : ℕ → Bool) → PlacesAddUp NoCrLfBetween (breaks is_break) (break_ends is_break)
break-places_add_up is_break = places-add (break_count is_break) (breaks is_break) NoCrLfBetween (breaks-alone is_break) (λ text. refl)

pub unit-starts_add_up : UnitStartsAddUp
unit-starts_add_up before part after k low passed =
    let count : ℕ → List ℕ → ℕ = λ c _. units_of c in
    let sized : (text : List ℕ) → length (starts_from count 0 text) ≡ units text = λ text. as_many_starts count 0 text ∙ units-counted 0 text in
    let long : (k < length (starts_from count 0 (before ++ part))) ⊎ (after ≡ []) = elim passed [
      | inl p ↦ inl (omega (arith, p, sized (before ++ part)))
      | inr e ↦ inr e
    ] in
    part-start count before part after k (alone units_of before part) (alone units_of (before ++ part) after) (omega (arith, low, sized before)) long
    ∙ ap (λ n. byte_len before + get_or (starts_from count 0 part) (k - n) (byte_len part)) (sized before)
