-- A search, offset by offset.
use Rattle.std.proofs.Common.{inl, inr, ◌≡◌, ℕ, zero, suc, ◌+◌, ◌<◌, ◌≤◌, Bool, true, false, not, ◌&&◌, ◌||◌, min, IsTrue, List, [], ◌∷◌, ◌++◌, length, take, drop, reverse, Option, Some, None, slice_get, slice_index, refl, sym, ap, ap₂, subst, ◌∙◌, arith}
use Rattle.std.specs.Prelude.{◌↔◌, nat_lt, nat_le}
use Rattle.std.specs.Str.{IsCharBoundary}
use Rattle.std.proofs.lemmas.Bool.{le-leb, lt-leb, lt-ltb, le-ltb}
use Rattle.std.proofs.lemmas.List.{length-take, reverse-append}
use Rattle.std.proofs.lemmas.Option.{get_or_from_slice_get, slice_get_within}
use Rattle.rx_util.specs.Search.{HalfFound}
use Rattle.rx_walks.specs.Finds.{Search, IsInside}
use Rattle.rx_walks.specs.Programs.{left_from}
use Rattle.rx_walks.specs.ProgramFinds.{highest}
use Rattle.rx_program.specs.Programs.{ByteProgram}
use Rattle.rx_steps.specs.declared.asked.AskedLooks.{AskedLooks}
use Rattle.rx_steps.specs.Searching.{haystack_in}
use Rattle.rx_steps.proofs.ByteLaws.{next_byte_is, no_byte}
use Rattle.rx_dfa.specs.declared.automaton.Automaton.{Automaton}
use Rattle.rx_dfa.specs.declared.states.AutomatonState.{AutomatonState}
use Rattle.rx_dfa.specs.Classes.{continues}
use Rattle.rx_dfa.specs.Behind.{behind_of, quits}
use Rattle.rx_dfa.specs.States.{ahead_of, IsStep}
use Rattle.rx_dfa.specs.Directions.{forward}
use Rattle.rx_dfa.specs.Automata.{directed}
use Rattle.rx_dfa.proofs.StepLaws.{as_forward}
use Rattle.rx_dfa.specs.Searching.{AreAskedBy, met_after, HasReached, byte_before, byte_after, IsBehind, IsAhead}
use Rattle.rx_dfa.specs.Passing.{Passes, none, more, StandThere}
use Rattle.rx_dfa.proofs.ClassLaws.{below_or_not}
use Rattle.rx_dfa.proofs.LoopLaws.{Laws, May, place_passed}

-- ---- the bytes next to an offset

byte_at : (xs : List ℕ) (n i : ℕ) → i < n → slice_get (drop i (take n xs)) 0 ≡ slice_get xs i
byte_at [] zero i lt = absurd (omega (arith, lt))
byte_at [] (suc n) zero lt = refl
byte_at [] (suc n) (suc i) lt = refl
byte_at (x ∷ xs) zero i lt = absurd (omega (arith, lt))
byte_at (x ∷ xs) (suc n) zero lt = refl
byte_at (x ∷ xs) (suc n) (suc i) lt = byte_at xs n i (omega (arith, lt))

-- the byte after an offset, in the slice
pub seen_is : (s : Search) (i : ℕ) → i < s.slice_end → byte_after s i ≡ slice_get s.content i
seen_is s i lt = byte_at s.content s.slice_end i lt

pub none_seen : (s : Search) (i : ℕ) → s.slice_end ≤ i → byte_after s i ≡ None
none_seen s i le = no_byte s.content s.slice_end i le

pub byte_there : (s : Search) (i b : ℕ) → byte_after s i ≡ Some b → (slice_get s.content i ≡ Some b) × (i < s.slice_end)
byte_there s i b e = elim (below_or_not i s.slice_end) [
  | inl lt ↦ (sym (seen_is s i lt) ∙ e, lt)
  | inr past ↦ absurd (cc (sym (none_seen s i past) ∙ e))
]

-- and among those that are read
pub read_is : (p : ByteProgram) (s : Search) (i : ℕ) → i < min s.slice_end s.end → slice_get (left_from (haystack_in p.line_terminator s) i) 0 ≡ slice_get s.content i
read_is p s i lt = next_byte_is s.content (min s.slice_end s.end) i lt

pub none_read : (p : ByteProgram) (s : Search) (i : ℕ) → highest s ≤ i → slice_get (left_from (haystack_in p.line_terminator s) i) 0 ≡ None
none_read p s i le = no_byte s.content (highest s) i le

take_more : (xs : List ℕ) (i b : ℕ) → slice_get xs i ≡ Some b → take (suc i) xs ≡ take i xs ++ b ∷ []
take_more [] i b e = absurd (cc e)
take_more (x ∷ xs) zero b e = let same : Some x ≡ Some b = e in ap (λ y. y ∷ []) (cc same)
take_more (x ∷ xs) (suc i) b e = ap (λ ys. x ∷ ys) (take_more xs i b e)

drop_first : (xs ys : List ℕ) (n : ℕ) → n ≤ length xs → drop n (xs ++ ys) ≡ drop n xs ++ ys
drop_first xs ys zero le = refl
drop_first [] ys (suc n) le = absurd (omega (arith, le))
drop_first (x ∷ xs) ys (suc n) le = drop_first xs ys n (omega (arith, le))

-- the byte that was read is before the next offset
pub before_is : (s : Search) (i b : ℕ) → s.slice_start ≤ i → slice_get s.content i ≡ Some b → byte_before s (i + 1) ≡ Some b
before_is s i b le e =
    let next : i + 1 ≡ suc i = omega arith in
    let inside = slice_get_within s.content i b e in
    let low : s.slice_start ≤ length (take i s.content) = omega (arith, length-take i s.content, inside, le) in
    let bytes : drop s.slice_start (take (i + 1) s.content) ≡ drop s.slice_start (take i s.content) ++ b ∷ [] =
    ap (λ k. drop s.slice_start (take k s.content)) next ∙ ap (λ xs. drop s.slice_start xs) (take_more s.content i b e) ∙ drop_first (take i s.content) (b ∷ []) s.slice_start low in
    ap (λ xs. slice_get (reverse xs) 0) bytes ∙ ap (λ xs. slice_get xs 0) (reverse-append (drop s.slice_start (take i s.content)) (b ∷ []))

-- ---- where a match may begin

continues_is : (b : ℕ) → 128 ≤ b → b < 192 → continues b ≡ true
continues_is b low high = ap₂ (λ x y. x && y) (le-leb 128 b low) (lt-ltb b 192 high)

below_is_none : (b : ℕ) → b < 128 → continues b ≡ false
below_is_none b lt = ap (λ x. x && nat_lt b 192) (lt-leb 128 b lt)

above_is_none : (b : ℕ) → 192 ≤ b → continues b ≡ false
above_is_none b le = by (nat_le 128 b) (le-ltb b 192 le)
  where
    by : (x : Bool) → nat_lt b 192 ≡ false → (x && nat_lt b 192) ≡ false
    by true e = e
    by false e = refl

-- an offset is a character boundary unless a continuation byte follows
boundary_is : (content : List ℕ) (i b : ℕ) → slice_get content i ≡ Some b → IsTrue (not (continues b)) ↔ IsCharBoundary content i
boundary_is content i b e = elim (below_or_not b 192) [
  | inr high ↦ yes (above_is_none b high) (inside_is (λ le. omega (arith, here, high)))
  | inl below ↦ elim (below_or_not b 128) [
    | inl low ↦ yes (below_is_none b low) (inside_is (λ le. absurd (omega (arith, here, low, le))))
    | inr at_least ↦ ((λ is. absurd (cc (sym is ∙ ap not (continues_is b at_least below)))), (λ cut. absurd (omega (arith, below, here, cut.1 (slice_get_within content i b e) (omega (arith, here, at_least))))))
  ]
]
  where
    here : slice_index content i ≡ b
    here = get_or_from_slice_get content i b 0 e

    inside_is : (128 ≤ slice_index content i → 192 ≤ slice_index content i) → IsCharBoundary content i
    inside_is lead = (omega (arith, slice_get_within content i b e), λ lt. lead)

    yes : continues b ≡ false → IsCharBoundary content i → IsTrue (not (continues b)) ↔ IsCharBoundary content i
    yes not_one cut = ((λ is. cut), (λ cut'. ap not not_one))

pub may_begin_is : (s : Search) (i b : ℕ) → slice_get s.content i ≡ Some b → IsTrue (not s.utf8_empty || not (continues b)) ↔ May s i
may_begin_is s i b e = by s.utf8_empty
  where
    by : (u : Bool) → IsTrue (not u || not (continues b)) ↔ (IsTrue u → IsCharBoundary s.content i)
    by true = ((λ is on. (boundary_is s.content i b e).0 is), (λ may. (boundary_is s.content i b e).1 (may refl)))
    by false = ((λ is on. absurd (cc on)), (λ may. refl))

-- ---- one byte

pub is_ahead : (p : ByteProgram) (asked : AskedLooks) (s : Search) (i b : ℕ) → slice_get s.content i ≡ Some b → i < min s.slice_end s.end → quits asked (Some b) ≡ false → IsAhead p asked s i (ahead_of s.utf8_empty b)
is_ahead p asked s i b e lt told = record {
  read = read_is p s i lt ∙ e;
  seen = seen_is s i (omega (arith, lt)) ∙ e;
  told = told;
  may_begin = may_begin_is s i b e;
}

rest_stands : (s : Search) (i b : ℕ) (bytes : List ℕ) → StandThere s i (b ∷ bytes) → StandThere s (i + 1) bytes
rest_stands s i b bytes there = record {
  are = λ k c e. let far : i + suc k ≡ i + 1 + k = omega arith in subst (λ j. slice_get s.content j ≡ Some c) far (there.are (suc k) c e);
  end = omega (arith, there.end);
  low = omega (arith, there.low);
}

-- a search in a state reaches, after these bytes, the state to which they lead
pub bytes_passed : Laws → (a : Automaton) (s : Search) (q : ℕ) (bytes : List ℕ) (i : ℕ) (x y : AutomatonState) (met met' : Option HalfFound) → (directed a).is_back ≡ false → AreAskedBy (directed a).bytes.states a.alphabet.now.asked → a.alphabet.now.utf8_empty ≡ s.utf8_empty → StandThere s i bytes
    → Passes a bytes i x met y met' → HasReached (directed a).bytes s q i x met → IsBehind (directed a).bytes a.alphabet.now.asked s i x → HasReached (directed a).bytes s q (i + length bytes) y met' × IsBehind (directed a).bytes a.alphabet.now.asked s (i + length bytes) y
bytes_passed laws a s q [] i x y met met' way are same there none reached behind =
    let here : i ≡ i + 0 = omega arith in
    (subst (λ j. HasReached (directed a).bytes s q j x met) here reached, subst (λ j. IsBehind (directed a).bytes a.alphabet.now.asked s j x) here behind)
bytes_passed laws a s q (b ∷ bytes) i x z met met' way are same there (more {y = y} bare step told rest) reached behind =
    let here : i + 0 ≡ i = omega arith in
    let byte : slice_get s.content i ≡ Some b = subst (λ j. slice_get s.content j ≡ Some b) here (there.are 0 b refl) in
    let within = slice_get_within s.content i b byte in
    let inside : IsInside s i = (omega (arith, there.low), omega (arith, there.end), omega (arith, there.low), omega (arith, there.end), omega (arith, within)) in
    let ahead = is_ahead (directed a).bytes a.alphabet.now.asked s i b byte (omega (arith, there.end)) told in
    let itself : IsStep (forward (directed a).bytes) a.alphabet.now.asked x (ahead_of s.utf8_empty b) y =
    subst (λ u. IsStep (forward (directed a).bytes) a.alphabet.now.asked x (ahead_of u b) y) same (as_forward (directed a) a.alphabet.now.asked x y (ahead_of a.alphabet.now.utf8_empty b) way step) in
    let on = place_passed laws (directed a).bytes a.alphabet.now.asked s q i x y (ahead_of s.utf8_empty b) met are bare inside behind ahead itself reached in
    let before : byte_before s (i + 1) ≡ Some b = before_is s i b (omega (arith, there.low)) byte in
    let behind' : IsBehind (directed a).bytes a.alphabet.now.asked s (i + 1) y = record {
      is = step.behind ∙ ap (λ o. behind_of a.alphabet.now.asked (directed a).bytes.line_terminator o) (sym before);
      told = ap (λ o. quits a.alphabet.now.asked o) before ∙ told;
    } in
    let far : i + 1 + length bytes ≡ i + suc (length bytes) = omega arith in
    subst (λ j. HasReached (directed a).bytes s q j z met' × IsBehind (directed a).bytes a.alphabet.now.asked s j z) far
    (bytes_passed laws a s q bytes (i + 1) y z (met_after i y.ended met) met' way are same (rest_stands s i b bytes there) rest on behind')
