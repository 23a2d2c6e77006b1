-- Escapes.
use Rattle.std.specs.Prelude.{◌≡◌, ℕ, ◌+◌, ◌*◌, ◌≤◌, Bool, true, not, ◌==◌, ◌&&◌, ◌||◌, nat_lt, List, [], ◌∷◌, ◌++◌, length, Option, Some, None, if◌then◌else◌}
use Rattle.std.specs.Char.{is_ascii_hexdigit, is_ascii_alphanumeric, digit_value}
use Rattle.std.specs.List.{AllByRecursion}
use Rattle.rx_grammar.specs.Sets.{IsScalar}
use Rattle.rx_sets.specs.declared.items.ClassPerlKind.{ClassPerlKind}
use Rattle.rx_sets.specs.declared.items.ClassPerlKind.TheVariants.{Digit, Space, Word}
use Rattle.rx_grammar.specs.declared.hir.Look.{Look}
use Rattle.rx_grammar.specs.declared.hir.Look.TheVariants.{Start, End, WordUnicode, WordUnicodeNegate}

-- the control character of a letter: a, f, t, n, r, v
abbrev pub control_of : ℕ → Option ℕ
control_of c =
    if c == 97 then Some 0x07
    else if c == 102 then Some 0x0C
    else if c == 116 then Some 0x09
    else if c == 110 then Some 0x0A
    else if c == 114 then Some 0x0D
    else if c == 118 then Some 0x0B
    else None

-- an ASCII character that isn't a letter, a digit, < or >
abbrev pub is_escapable : ℕ → Bool
is_escapable c = nat_lt c 128 && not (is_ascii_alphanumeric c || (c == 60) || (c == 62))

-- the number with the value n before these hexadecimal digits
abbrev pub hex_after : ℕ → List ℕ → ℕ
hex_after n [] = n
hex_after n (digit ∷ digits) = hex_after (16 * n + digit_value digit) digits

-- hexadecimal digits of a scalar value
pub record SpellsScalar (digits : List ℕ) (c : ℕ) : Type 0 where
  pub hex : AllByRecursion (λ c. is_ascii_hexdigit c ≡ true) digits
  pub value : hex_after 0 digits ≡ c
  pub scalar : IsScalar c

-- `count` hexadecimal digits of a scalar value, and u after them
pub record NumberOfLength (count : ℕ) (t : List ℕ) (c : ℕ) (u : List ℕ) : Type 0 where
  pub digits : List ℕ
  pub whole : t ≡ digits ++ u
  pub long : length digits ≡ count
  pub spells : SpellsScalar digits c

-- one to eight of them, and u after the closing brace
pub record NumberInBraces (t : List ℕ) (c : ℕ) (u : List ℕ) : Type 0 where
  pub digits : List ℕ
  pub whole : t ≡ digits ++ 125 ∷ u
  pub some : 1 ≤ length digits
  pub few : length digits ≤ 8
  pub spells : SpellsScalar digits c

-- what follows \x or \u
pub data NumberAfter : ℕ → List ℕ → ℕ → List ℕ → Type 0 where
  unbraced : {count c : ℕ} {t u : List ℕ} → NumberOfLength count t c u → NumberAfter count t c u
  braced : {count c : ℕ} {t u v : List ℕ} → t ≡ 123 ∷ v → NumberInBraces v c u → NumberAfter count t c u

-- the character of an escape, after its backslash, and u after it
pub data EscapedCharacter : List ℕ → ℕ → List ℕ → Type 0 where
  -- \a \f \t \n \r \v
  control : {t u : List ℕ} {c : ℕ} (letter : ℕ) → t ≡ letter ∷ u → control_of letter ≡ Some c → EscapedCharacter t c u
  -- any ASCII character but letters, digits, < and > is itself
  itself : {t u : List ℕ} {c : ℕ} → t ≡ c ∷ u → is_escapable c ≡ true → EscapedCharacter t c u
  -- \xHH and \x{H..}
  two_digits : {t u v : List ℕ} {c : ℕ} → t ≡ 120 ∷ v → NumberAfter 2 v c u → EscapedCharacter t c u
  -- \uHHHH and \u{H..}
  four_digits : {t u v : List ℕ} {c : ℕ} → t ≡ 117 ∷ v → NumberAfter 4 v c u → EscapedCharacter t c u

-- the character of an escape of one character
abbrev pub escaped_by : ℕ → Option ℕ
escaped_by c = if is_escapable c then Some c else control_of c

-- the letter of a letter class: d, s, w, capital if it is negated
abbrev pub perl_letter : ClassPerlKind → Bool → ℕ
perl_letter Digit negated = if negated then 68 else 100
perl_letter Space negated = if negated then 83 else 115
perl_letter Word negated = if negated then 87 else 119

-- the assertion of an escape, by its letter: A, z, b or B
abbrev pub look_of : ℕ → Option Look
look_of c =
    if c == 65 then Some Start
    else if c == 122 then Some End
    else if c == 98 then Some WordUnicode
    else if c == 66 then Some WordUnicodeNegate
    else None
