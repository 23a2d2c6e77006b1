-- Heads of groups, and settings.
use Rattle.std.specs.Prelude.{◌≡◌, ◌≢◌, ℕ, ◌+◌, ◌≤◌, Bool, true, false, ◌==◌, ◌||◌, List, [], ◌∷◌, ◌++◌, length, map, codes, Option, Some, None, AllPairs}
use Rattle.std.specs.Char.{is_ascii_alphabetic, is_ascii_alphanumeric}
use Rattle.std.specs.List.{AllByRecursion}
use Rattle.rx_grammar.specs.declared.flags.Flag.{Flag}
use Rattle.rx_grammar.specs.Settings.{Settings, letter_of, with_flags}
use Rattle.rx_grammar.specs.Trees.{Name, Tree, group}
use Rattle.rx_grammar.specs.Input.{Begins, Stops}

-- i, m, s or U
abbrev pub is_flag_letter : ℕ → Bool
is_flag_letter c = (c == 105) || (c == 109) || (c == 115) || (c == 85)

-- the letters of these flags, and u after them
pub record FlagLetters (t : List ℕ) (flags : List Flag) (u : List ℕ) : Type 0 where
  pub whole : t ≡ map letter_of flags ++ u
  pub ends : Stops is_flag_letter u

-- flags to turn on, and after a - flags to turn off; no letter is repeated
pub data Flags : List ℕ → List Flag → List Flag → List ℕ → Type 0 where
  turning_on : {t u : List ℕ} {on : List Flag} → FlagLetters t on u → 1 ≤ length on → (Begins 45 u → ⊥) → AllPairs (λ a b. a ≢ b) on → Flags t on [] u
  turning_off : {t u v w : List ℕ} {on off : List Flag} → FlagLetters t on v → v ≡ 45 ∷ w → FlagLetters w off u → 1 ≤ length off → AllPairs (λ a b. a ≢ b) (on ++ off) → Flags t on off u

abbrev pub flagged : Settings → List Flag → List Flag → Settings
flagged settings on off = with_flags false (with_flags true settings on) off

-- a setting, as (?i): it changes the settings up to the end of the group around it
pub data Setting : Settings → List ℕ → Settings → List ℕ → Type 0 where
  setting : {s : Settings} {t u v w : List ℕ} {on off : List Flag} → t ≡ codes "(?" ++ v → Flags v on off w → w ≡ 41 ∷ u → Setting s t (flagged s on off) u

-- the first character of a name, and the others: [A-Za-z_][A-Za-z0-9_]*
abbrev pub is_name_start : ℕ → Bool
is_name_start c = is_ascii_alphabetic c || (c == 95)

abbrev pub is_name_character : ℕ → Bool
is_name_character c = is_ascii_alphanumeric c || (c == 95)

abbrev pub IsName : Name → Type 0
IsName [] = ⊥
IsName (first ∷ others) = (is_name_start first ≡ true) × AllByRecursion (λ c. is_name_character c ≡ true) (first ∷ others)

-- a group has a number, and possibly a name, or no number
pub data Capture : Type 0 where
  numbered : Option Name → Capture
  unnumbered : Capture

-- the head of a group: the settings inside it, what it captures, and u after it
pub data Opening : Settings → List ℕ → Settings → Capture → List ℕ → Type 0 where
  plain : {s : Settings} {t u : List ℕ} → t ≡ codes "(" ++ u → (Begins 63 u → ⊥) → Opening s t s (numbered None) u
  without_number : {s : Settings} {t u : List ℕ} → t ≡ codes "(?:" ++ u → Opening s t s unnumbered u
  -- (?P<name>
  with_name : {s : Settings} {t u v : List ℕ} {name : Name} → t ≡ codes "(?P<" ++ v → v ≡ name ++ 62 ∷ u → IsName name → Opening s t s (numbered (Some name)) u
  -- (?<name>
  with_short_name : {s : Settings} {t u v : List ℕ} {name : Name} → t ≡ codes "(?<" ++ v → v ≡ name ++ 62 ∷ u → IsName name → Opening s t s (numbered (Some name)) u
  -- (?i:
  changing : {s : Settings} {t u v w : List ℕ} {on off : List Flag} → t ≡ codes "(?" ++ v → Flags v on off w → w ≡ 58 ∷ u → Opening s t (flagged s on off) unnumbered u

-- the number of groups opened after the head, given the n before it
abbrev pub opened : ℕ → Capture → ℕ
opened n (numbered name) = n + 1
opened n unnumbered = n

-- the tree of a group: groups are numbered from 1 in the order in which they open
abbrev pub grouped : ℕ → Capture → Tree → Tree
grouped n (numbered name) tree = group (n + 1) name tree
grouped n unnumbered tree = tree
