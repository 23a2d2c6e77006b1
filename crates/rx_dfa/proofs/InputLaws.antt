-- The bytes next to an input's position.
use Rattle.std.proofs.Common.{inl, inr, ◌≡◌, ℕ, zero, suc, ◌+◌, ◌-◌, ◌<◌, ◌≤◌, Bool, true, false, List, [], ◌∷◌, ◌++◌, length, take, drop, reverse, Option, Some, None, slice_get, refl, sym, ap, subst, ◌∙◌, arith}
use Rattle.std.proofs.lemmas.List.{length-take, length-drop, reverse-append}
use Rattle.std.proofs.lemmas.Option.{slice_get_within}
use Rattle.rx_input.specs.Cursors.{CursorState, piece_of}
use Rattle.rx_input.specs.Inputs.{HoldsPlace}
use Rattle.rx_walks.specs.Finds.{Search}
use Rattle.rx_dfa.specs.Searching.{byte_before}
use Rattle.rx_dfa.proofs.ClassLaws.{below_or_not}

pub get_dropped : (xs : List ℕ) (n k : ℕ) → slice_get (drop n xs) k ≡ slice_get xs (n + k)
get_dropped xs zero k = ap (λ j. slice_get xs j) (omega arith)
get_dropped [] (suc n) k = refl
get_dropped (x ∷ xs) (suc n) k =
    let more : suc (n + k) ≡ suc n + k = omega arith in
    get_dropped xs n k ∙ ap (λ j. slice_get (x ∷ xs) j) more

pub get_taken : (xs : List ℕ) (n k b : ℕ) → slice_get (take n xs) k ≡ Some b → slice_get xs k ≡ Some b
get_taken [] zero k b e = absurd (cc e)
get_taken [] (suc n) k b e = absurd (cc e)
get_taken (x ∷ xs) zero k b e = absurd (cc e)
get_taken (x ∷ xs) (suc n) zero b e = e
get_taken (x ∷ xs) (suc n) (suc k) b e = get_taken xs n k b e

-- ---- the bytes of the current chunk

piece_len : (c : CursorState) (i : ℕ) (piece : List ℕ) → piece ≡ piece_of c → HoldsPlace c i → length piece ≡ c.end - c.start
piece_len c i piece is holds = omega (arith, ap (λ (xs : List ℕ). length xs) is, length-take (c.end - c.start) (drop c.start c.content), length-drop c.start c.content, holds.lawful.within, holds.lawful.ordered)

-- an offset before the haystack's end is in the chunk
pub in_piece : (c : CursorState) (i pos : ℕ) (piece : List ℕ) → piece ≡ piece_of c → c.start + pos ≡ i → HoldsPlace c i → i < length c.content → pos < length piece
in_piece c i pos piece is at holds lt = elim (below_or_not i c.end) [
  | inl below ↦ omega (arith, below, at, piece_len c i piece is holds, holds.behind_start)
  | inr past ↦
      let here : i ≡ c.end = omega (arith, past, holds.before_end) in
      absurd (omega (arith, lt, here, holds.at_end here))
]

-- ---- the byte before

get_one : (xs : List ℕ) (n k : ℕ) → k < n → slice_get (take n xs) k ≡ slice_get xs k
get_one [] zero k lt = absurd (omega (arith, lt))
get_one [] (suc n) k lt = refl
get_one (x ∷ xs) zero k lt = absurd (omega (arith, lt))
get_one (x ∷ xs) (suc n) zero lt = refl
get_one (x ∷ xs) (suc n) (suc k) lt = get_one xs n k (omega (arith, lt))

there_is : (xs : List ℕ) (k : ℕ) → k < length xs → (x : ℕ) × (slice_get xs k ≡ Some x)
there_is [] k lt = absurd (omega (arith, lt))
there_is (x ∷ xs) zero lt = (x, refl)
there_is (x ∷ xs) (suc k) lt = there_is xs k (omega (arith, lt))

take_all : (n : ℕ) (xs : List ℕ) → length xs ≤ n → take n xs ≡ xs
take_all zero [] le = refl
take_all (suc n) [] le = refl
take_all zero (x ∷ xs) le = absurd (omega (arith, le))
take_all (suc n) (x ∷ xs) le = ap (λ ys. x ∷ ys) (take_all n xs (omega (arith, le)))

take_more : (xs : List ℕ) (i b : ℕ) → slice_get xs i ≡ Some b → take (suc i) xs ≡ take i xs ++ b ∷ []
take_more [] i b e = absurd (cc e)
take_more (x ∷ xs) zero b e = let same : Some x ≡ Some b = e in ap (λ y. y ∷ []) (cc same)
take_more (x ∷ xs) (suc i) b e = ap (λ ys. x ∷ ys) (take_more xs i b e)

-- the first element of a reversed list is the last one
back_first : (xs : List ℕ) (n : ℕ) → length xs ≡ suc n → slice_get (reverse xs) 0 ≡ slice_get xs n
back_first xs n len =
    let here = there_is xs n (omega (arith, len)) in
    let whole : xs ≡ take n xs ++ here.0 ∷ [] = sym (take_all (suc n) xs (omega (arith, len))) ∙ take_more xs n here.0 here.1 in
    ap (λ ys. slice_get (reverse ys) 0) whole ∙ ap (λ ys. slice_get ys 0) (reverse-append (take n xs) (here.0 ∷ [])) ∙ sym here.1

nothing_in : (xs : List ℕ) (k : ℕ) → length xs ≡ 0 → slice_get (reverse xs) 0 ≡ slice_get xs k
nothing_in [] k e = refl
nothing_in (x ∷ xs) k e = absurd (omega (arith, e))

nothing_at : (xs : List ℕ) (j : ℕ) → length xs ≡ 0 → slice_get xs j ≡ None
nothing_at [] j e = refl
nothing_at (x ∷ xs) j e = absurd (omega (arith, e))

-- the byte before an offset is in the slice
pub before_there : (s : Search) (i b : ℕ) → s.slice_start ≤ i → i ≤ length s.content → byte_before s i ≡ Some b → (s.slice_start < i) × (slice_get s.content (i - 1) ≡ Some b)
before_there s i b le within e = elim (below_or_not s.slice_start i) [
  | inl lt ↦
      let low = s.slice_start in
      let whole = drop low (take i s.content) in
      let n = i - low - 1 in
      let len : length whole ≡ suc n = omega (arith, lt, length-drop low (take i s.content), length-take i s.content, within) in
      let there : low + n ≡ i - 1 = omega (arith, lt) in
      (lt, sym (get_one s.content i (i - 1) (omega (arith, lt))) ∙ ap (λ j. slice_get (take i s.content) j) (sym there) ∙ sym (get_dropped (take i s.content) low n) ∙ sym (back_first whole n len) ∙ e)
  | inr ge ↦
      let whole = drop s.slice_start (take i s.content) in
      let empty : length whole ≡ 0 = omega (arith, ge, length-drop s.slice_start (take i s.content), length-take i s.content) in
      absurd (cc (sym (nothing_in whole 0 empty ∙ nothing_at whole 0 empty) ∙ e))
]

-- if the slice starts before an offset, the byte before that is the haystack's
pub before_is : (s : Search) (i b : ℕ) → s.slice_start < i → slice_get s.content (i - 1) ≡ Some b → byte_before s i ≡ Some b
before_is s i b lt is =
    let low = s.slice_start in
    let whole = drop low (take i s.content) in
    let n = i - low - 1 in
    let within = slice_get_within s.content (i - 1) b is in
    let len : length whole ≡ suc n = omega (arith, lt, length-drop low (take i s.content), length-take i s.content, within) in
    let there : low + n ≡ i - 1 = omega (arith, lt) in
    back_first whole n len ∙ get_dropped (take i s.content) low n ∙ ap (λ j. slice_get (take i s.content) j) there ∙ get_one s.content i (i - 1) (omega (arith, lt)) ∙ is

-- a byte of the current chunk is one of the haystack
pub shown_is : (c : CursorState) (piece : List ℕ) (k b : ℕ) → piece ≡ piece_of c → slice_get piece k ≡ Some b → slice_get c.content (c.start + k) ≡ Some b
shown_is c piece k b is e = sym (get_dropped c.content c.start k) ∙ get_taken (drop c.start c.content) (c.end - c.start) k b (subst (λ xs. slice_get xs k ≡ Some b) is e)

pub known_behind : (asks : Bool) (s : Search) (i b : ℕ) (o : Option ℕ) → (asks ≡ true → o ≡ byte_before s i) → (asks ≡ false → o ≡ None) → o ≡ Some b → byte_before s i ≡ Some b
known_behind true s i b o known unknown e = sym (known refl) ∙ e
known_behind false s i b o known unknown e = absurd (cc (sym (unknown refl) ∙ e))
