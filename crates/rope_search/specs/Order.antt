-- A command with its whole payload.
use Rattle.std.specs.Prelude.{◌≡◌, ℕ, List}
use Rattle.rope_search.specs.declared.commands.CommandOf.{CommandOf}
use Rattle.rope_search_reports.specs.Pattern.{pattern_limit}
pub use Rattle.rope_search.specs.declared.commands.CommandOf.TheVariants.{Text as SetText, Edit as EditText, Undo as UndoEdit, Redo as RedoEdit, Print as PrintText, Fork as ForkBuffer, Pattern as SetPattern, Off as DropPattern, List as ListMatches, Next as FindNext, Replace as ReplaceAll, Use as UseBuffer}

abbrev pub Order : Type 0
Order = CommandOf (List ℕ)

-- the order has the command's word, its positions and its numbers, and its payload is in this
-- relation to what is known of it, under a limit on the payload's bytes: that on texts, or that on
-- patterns
abbrev pub IsOf : {P : Type 0} → (ℕ → P → List ℕ → Type 0) → ℕ → CommandOf P → Order → Type 0
IsOf R limit (SetText p) (SetText bytes) = R limit p bytes
IsOf R limit (EditText from to p) (EditText start end bytes) =
    (start ≡ from) × (end ≡ to) × R limit p bytes
IsOf R limit UndoEdit UndoEdit = Unit {0}
IsOf R limit RedoEdit RedoEdit = Unit {0}
IsOf R limit PrintText PrintText = Unit {0}
IsOf R limit ForkBuffer ForkBuffer = Unit {0}
IsOf R limit (SetPattern p) (SetPattern bytes) = R pattern_limit p bytes
IsOf R limit DropPattern DropPattern = Unit {0}
IsOf R limit ListMatches ListMatches = Unit {0}
IsOf R limit (FindNext p) (FindNext from) = from ≡ p
IsOf R limit (ReplaceAll p) (ReplaceAll bytes) = R limit p bytes
IsOf R limit (UseBuffer k) (UseBuffer n) = n ≡ k
IsOf R limit command order = ⊥
