-- What a parser of flags, of a name and of the head of a group finds.
use Rattle.std.specs.Prelude.{◌≡◌, ◌≢◌, ◌⊎◌, ℕ, List, ◌∷◌, ◌++◌, Some, None, AllPairs}
use Rattle.std.specs.String.{string_bytes}
use Rattle.rx_grammar.specs.declared.flags.Flag.{Flag}
use Rattle.rx_grammar.specs.declared.groups.GroupKind.{GroupKind}
use Rattle.rx_grammar.specs.declared.groups.GroupKind.TheVariants.{Numbered, Unnumbered}
use Rattle.rx_grammar.specs.declared.groups.Head.{Head}
use Rattle.rx_grammar.specs.declared.groups.Head.TheVariants as head
use Rattle.rx_grammar.specs.Settings.{Settings, letter_of}
use Rattle.rx_grammar.specs.Trees.{Name}
use Rattle.rx_grammar.specs.Groups.{FlagLetters, Flags, flagged, Setting, IsName, Capture, numbered, unnumbered, Opening}

abbrev pub IsFlagLetter : List ℕ → Flag → List ℕ → Type 0
IsFlagLetter t flag u = t ≡ letter_of flag ∷ u

-- the text has flags after those before it, and no flag is repeated among all of them
pub record FlagsAfter (before all : List Flag) (t u : List ℕ) : Type 0 where
  pub flags : List Flag
  pub whole : all ≡ before ++ flags
  pub reads : FlagLetters t flags u
  pub once : AllPairs (λ a b. a ≢ b) all

-- the flags of the text change the settings this way
pub record FlagsChange (s : Settings) (t : List ℕ) (s' : Settings) (u : List ℕ) : Type 0 where
  pub on : List Flag
  pub off : List Flag
  pub reads : Flags t on off u
  pub is : s' ≡ flagged s on off

-- P< or <, and u after it
abbrev pub NameOpening : List ℕ → List ℕ → Type 0
NameOpening t u = (t ≡ 80 ∷ 60 ∷ u) ⊎ (t ≡ 60 ∷ u)

abbrev pub capture_of : GroupKind → Capture
capture_of (Numbered None) = numbered None
capture_of (Numbered (Some name)) = numbered (Some (string_bytes name))
capture_of Unnumbered = unnumbered

-- the text starts with a setting or the head of a group, and u follows
abbrev pub IsHead : Settings → List ℕ → Head → List ℕ → Type 0
IsHead s t (head.Setting s') u = Setting s t s' u
IsHead s t (head.Group s' captures) u = Opening s t s' (capture_of captures) u

-- the text doesn't start with the letter of a flag
abbrev pub NoFlagLetter : List ℕ → Type 0
NoFlagLetter t = (flag : Flag) (u : List ℕ) → t ≡ letter_of flag ∷ u → ⊥

abbrev pub NoFlagsAfter : List Flag → List ℕ → Type 0
NoFlagsAfter before t = (flags : List Flag) (u : List ℕ) → FlagLetters t flags u → AllPairs (λ a b. a ≢ b) (before ++ flags) → ⊥

abbrev pub NoFlags : List ℕ → Type 0
NoFlags t = (on off : List Flag) (u : List ℕ) → Flags t on off u → ⊥

abbrev pub NoName : List ℕ → Type 0
NoName t = (name : Name) (u : List ℕ) → t ≡ name ++ 62 ∷ u → IsName name → ⊥

abbrev pub NoNameOpening : List ℕ → Type 0
NoNameOpening t = (u : List ℕ) → NameOpening t u → ⊥

pub record NoHead (s : Settings) (t : List ℕ) : Type 0 where
  pub setting : (s' : Settings) (u : List ℕ) → Setting s t s' u → ⊥
  pub opening : (s' : Settings) (k : Capture) (u : List ℕ) → Opening s t s' k u → ⊥
