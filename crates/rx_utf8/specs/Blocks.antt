-- How an automaton is built: states for blocks of characters with the same first bytes.
use Rattle.std.specs.Prelude.{◌≡◌, ℕ, zero, suc, ◌+◌, ◌-◌, ◌*◌, ◌/◌, ◌<◌, ◌≤◌, Bool, true, false, ◌&&◌, ◌||◌, nat_le, nat_lt, nat_eq, cond, List, [], ◌∷◌, Option, Some, None, option_map, length, get_or, map, Vec}
use Rattle.std.specs.Str.{continuation_len, lead_bits}
use Rattle.std.specs.Char.{len_utf8}
use lib.Utf8.{scalar}
use Rattle.rx_utf8.specs.declared.byte_ranges.ByteRange.{ByteRange}
use Rattle.rx_sets.specs.Sets.{Range, in_ranges}
use Rattle.rx_walks.specs.Bytes.{Automaton}
use Rattle.rx_walks.specs.Characters.{member_len}
use Rattle.rx_walks.specs.Bytes.{run}
use Rattle.rx_utf8.specs.Automata.{step_in}

-- a continuation byte
abbrev pub is_next : ℕ → Bool
is_next b = nat_le 128 b && nat_lt b 192

-- how many of these bytes complete a character, with r bytes to come and v the value of those so
-- far
abbrev pub rest : (ℕ → Bool) → ℕ → ℕ → List ℕ → Option ℕ
rest p zero v bs = cond (p v) (Some 0) None
rest p (suc r) v [] = None
rest p (suc r) v (b ∷ bs) =
    cond (is_next b) (option_map suc (rest p r (v * 64 + (b - 128)) bs)) None

-- a member of this many bytes and one more
abbrev pub of_len : (ℕ → Bool) → ℕ → ℕ → Bool
of_len member n c = scalar c && (nat_eq (len_utf8 c) (suc n) && member c)

-- the number of bytes of the first character, if it is a member, from its first byte and those
-- after it
abbrev pub first_len : (ℕ → Bool) → List ℕ → Option ℕ
first_len member [] = None
first_len member (b ∷ bs) =
    option_map suc (rest (of_len member (continuation_len b)) (continuation_len b) (lead_bits b) bs)

-- a character without the bits of its last n bytes
abbrev pub high : ℕ → ℕ → ℕ
high zero c = c
high (suc n) c = high n c / 64

-- a state below n, and not the first
abbrev pub IsPast : ℕ → ℕ → Type 0
IsPast n s = (0 < s) × (s < n)

-- where a byte leads, the automaton reads r more bytes, after those with value v, if they complete
-- a character of p
abbrev pub Fits : Automaton → ℕ → (ℕ → Bool) → ℕ → ℕ → Option (Option ℕ) → Type 0
Fits step n p zero v t = t ≡ cond (p v) (Some None) None
Fits step n p (suc r) v None = (c : ℕ) → high (suc r) c ≡ v → p c ≡ false
Fits step n p (suc r) v (Some None) = ⊥
Fits step n p (suc r) v (Some (Some s)) = IsPast n s
    × ((b : ℕ) → is_next b ≡ true → Fits step n p r (v * 64 + (b - 128)) (step s b))
    × ((b : ℕ) → is_next b ≡ false → step s b ≡ None)

-- each first byte leads to a state that reads the rest of the members that start with it
abbrev pub Starts : Automaton → ℕ → (ℕ → Bool) → Type 0
Starts step n member = (b : ℕ)
    → Fits step n (of_len member (continuation_len b)) (continuation_len b) (lead_bits b) (step 0 b)

-- the lists are still there, perhaps with others
abbrev pub Extends : {A : Type 0} → List (List A) → List (List A) → Type 0
Extends lists more = (length lists ≤ length more)
    × ((s : ℕ) → s < length lists → get_or more s [] ≡ get_or lists s [])

abbrev pub any_next : Option ℕ → List ByteRange
any_next t = record { first = 128; last = 191; next = t } ∷ []

-- the first state's row is set last; the states 1, 2 and 3 read that many bytes, whatever they are
abbrev pub prepared : List (List ByteRange)
prepared = [] ∷ any_next None ∷ any_next (Some 1) ∷ any_next (Some 2) ∷ []

-- the bound of values that fit with r bytes to come
abbrev pub limit : ℕ → ℕ
limit zero = 16777216
limit (suc zero) = 262144
limit (suc (suc zero)) = 4096
limit (suc (suc (suc r))) = 64

-- the number of values of r bytes
abbrev pub size : ℕ → ℕ
size zero = 1
size (suc zero) = 64
size (suc (suc zero)) = 4096
size (suc (suc (suc r))) = 262144

abbrev pub AllBetween : (ℕ → Bool) → ℕ → ℕ → Bool → Type 0
AllBetween p low high is = (c : ℕ) → low ≤ c → c ≤ high → p c ≡ is

abbrev pub rows_of : {Z : Type 0} → List (Vec ByteRange Z) → List (List ByteRange)
rows_of rows = map (λ row. row.items) rows

-- of four lists that of the code points with n bytes after the first
abbrev pub pick : List Range → List Range → List Range → List Range → ℕ → List Range
pick one two three four zero = one
pick one two three four (suc zero) = two
pick one two three four (suc (suc zero)) = three
pick one two three four (suc (suc (suc n))) = four

-- the ranges are those of the members, by their number of bytes
abbrev pub AreMembers : (ℕ → List Range) → (ℕ → Bool) → Type 0
AreMembers codes member = (n c : ℕ) → n ≤ 3 → in_ranges (codes n) c ≡ of_len member n c

abbrev pub ReadsAll : (ℕ → List Range) → List (List ByteRange) → Type 0
ReadsAll codes rows = (member : ℕ → Bool) → AreMembers codes member → (bs : List ℕ)
    → run (step_in rows) 0 bs ≡ member_len member bs

abbrev pub is_within_shifted : ℕ → ℕ → ℕ → ℕ → Bool
is_within_shifted low high shift c = nat_le (low + shift) c && nat_le c (high + shift)

-- the code points among both, or among those of the ranges between them, shifted
abbrev pub shifted_into : List Range → List Range → ℕ → ℕ → ℕ → ℕ → Bool
shifted_into codes ranges low high shift c =
    in_ranges codes c || (is_within_shifted low high shift c && in_ranges ranges (c - shift))
