-- What the parsers of parts of a pattern return.
use Rattle.std.specs.Prelude.{◌≡◌, ℕ, Bool, true, List, ◌∷◌, ◌++◌, Option}
use Rattle.std.specs.Char.{is_ascii_digit, is_ascii_hexdigit}
use Rattle.std.specs.List.{AllByRecursion}
use Rattle.rx_sets.specs.declared.items.ClassItem.{ClassItem}
use Rattle.rx_sets.specs.declared.items.ClassPerlKind.{ClassPerlKind}
use Rattle.rx_grammar.specs.declared.hir.Repetition.{Repetition}
use Rattle.rx_grammar.specs.declared.input.CharacterTest.{CharacterTest}
use Rattle.rx_grammar.specs.declared.input.CharacterTest.TheVariants.{Digit, HexDigit, NameCharacter}
use Rattle.rx_grammar.specs.Input.{Begins, Stops}
use Rattle.rx_grammar.specs.Escapes.{EscapedCharacter, NumberOfLength, NumberInBraces, NumberAfter, perl_letter}
use Rattle.rx_grammar.specs.Classes.{ClassCharacter, OneItem, ClassItems, ClassBody, Class}
use Rattle.rx_grammar.specs.Repetitions.{Number, CountInBraces, Count, Postfix}
use Rattle.rx_grammar.specs.Groups.{is_name_character}

-- the test of a character: a decimal digit, a hexadecimal digit, or a character of a name
abbrev pub passes : CharacterTest → ℕ → Bool
passes Digit c = is_ascii_digit c
passes HexDigit c = is_ascii_hexdigit c
passes NameCharacter c = is_name_character c

-- a text split after the characters that pass a test
pub record SplitsFront (test : CharacterTest) (text front rest : List ℕ) : Type 0 where
  pub whole : text ≡ front ++ rest
  pub all : AllByRecursion (λ c. passes test c ≡ true) front
  pub ends : Stops (passes test) rest

-- the text has items, which follow those before it in a list
pub record ItemsAfter (before all : List ClassItem) (t u : List ℕ) : Type 0 where
  pub items : List ClassItem
  pub whole : all ≡ before ++ items
  pub reads : ClassItems t items u

-- a - with another end of a range after it
pub record RangeGoesOn (t u : List ℕ) : Type 0 where
  pub hyphen : t ≡ 45 ∷ u
  pub open_end : Begins 93 u → ⊥

-- the text has no escaped character
abbrev pub SpellsNoCharacter : List ℕ → Type 0
SpellsNoCharacter t = (c : ℕ) (u : List ℕ) → EscapedCharacter t c u → ⊥

abbrev pub NoNumberOfLength : ℕ → List ℕ → Type 0
NoNumberOfLength count t = (c : ℕ) (u : List ℕ) → NumberOfLength count t c u → ⊥

abbrev pub NoNumberInBraces : List ℕ → Type 0
NoNumberInBraces t = (c : ℕ) (u : List ℕ) → NumberInBraces t c u → ⊥

abbrev pub NoNumberAfter : ℕ → List ℕ → Type 0
NoNumberAfter count t = (c : ℕ) (u : List ℕ) → NumberAfter count t c u → ⊥

-- the letter is of no letter class
abbrev pub IsNoClassLetter : ℕ → Type 0
IsNoClassLetter letter = (kind : ClassPerlKind) (negated : Bool) → letter ≡ perl_letter kind negated → ⊥

-- the text doesn't start with a character of a class
abbrev pub NoClassCharacter : List ℕ → Type 0
NoClassCharacter t = (c : ℕ) (u : List ℕ) → ClassCharacter t c u → ⊥

abbrev pub NoLetterClass : List ℕ → Type 0
NoLetterClass t = (kind : ClassPerlKind) (negated : Bool) (u : List ℕ) → t ≡ 92 ∷ perl_letter kind negated ∷ u → ⊥

abbrev pub NoItem : List ℕ → Type 0
NoItem t = (item : ClassItem) (u : List ℕ) → OneItem t item u → ⊥

abbrev pub NoItems : List ℕ → Type 0
NoItems t = (items : List ClassItem) (u : List ℕ) → ClassItems t items u → ⊥

abbrev pub NoClassBody : List ℕ → Type 0
NoClassBody t = (items : List ClassItem) (u : List ℕ) → ClassBody t items u → ⊥

abbrev pub NoClass : List ℕ → Type 0
NoClass t = (negated : Bool) (items : List ClassItem) (u : List ℕ) → Class t negated items u → ⊥

abbrev pub NoNumber : List ℕ → Type 0
NoNumber t = (n : ℕ) (u : List ℕ) → Number t n u → ⊥

abbrev pub NoCountInBraces : List ℕ → Type 0
NoCountInBraces t = (n : ℕ) (m : Option ℕ) (u : List ℕ) → CountInBraces t n m u → ⊥

abbrev pub NoCount : List ℕ → Type 0
NoCount t = (n : ℕ) (m : Option ℕ) (u : List ℕ) → Count t n m u → ⊥

abbrev pub NoPostfix : Bool → List ℕ → Type 0
NoPostfix swap t = (r : Repetition) (u : List ℕ) → Postfix swap t r u → ⊥
