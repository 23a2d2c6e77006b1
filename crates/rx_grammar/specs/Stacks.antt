-- Contracts between the parts of the parser.
use Rattle.std.specs.Prelude.{◌≡◌, ℕ, Bool, List, ◌∷◌}
use Rattle.rx_grammar.specs.declared.error.SyntaxError.{SyntaxError}
use Rattle.rx_grammar.specs.declared.error.SyntaxError.TheVariants.{TooLong, Nesting, Outside, Memory}
use Rattle.rx_grammar.specs.Trees.{Tree, group}
use Rattle.rx_grammar.specs.Groups.{Capture, numbered, unnumbered}
use Rattle.rx_grammar.specs.Repetitions.{Postfixes}
use Rattle.rx_grammar.specs.Settings.{Settings}
use Rattle.rx_grammar.specs.Weights.{held}
use Rattle.rx_grammar.specs.Grammar.{NeverSpells, IsTooDeep}

-- the tree of a group with this number
abbrev pub captured : ℕ → Capture → Tree → Tree
captured number (numbered name) tree = group number name tree
captured number unnumbered tree = tree

-- a parser refuses a text as outside the grammar only if P says that it has no tree, and otherwise
-- because it is out of memory
abbrev pub IsRefusedWhere : SyntaxError → Type 0 → Type 0
IsRefusedWhere Outside P = P
IsRefusedWhere Memory P = Unit {0}
IsRefusedWhere _ P = ⊥

-- why a whole text of at most 65,536 bytes is refused
abbrev pub IsReason : SyntaxError → List ℕ → Settings → Type 0
IsReason TooLong text settings = ⊥
IsReason Nesting text settings = IsTooDeep text settings
IsReason Outside text settings = NeverSpells text settings
IsReason Memory text settings = Unit {0}

-- the postfixes at the start of the text were applied to the last tree; the depth with them is
-- stored
pub record PostfixesRead (swap : Bool) (tree : Tree) (depth : ℕ) (t : List ℕ) (trees below : List Tree) (kept : ℕ) (u : List ℕ) : Type 0 where
  pub made : Tree
  pub deep : ℕ
  pub postfixes : Postfixes swap tree depth t made deep u
  pub trees_are : trees ≡ made ∷ below
  pub kept_is : kept ≡ held deep

-- the text starts with something that should be a postfix and isn't
abbrev pub NoPostfixes : Bool → Tree → ℕ → List ℕ → Type 0
NoPostfixes swap tree depth t = (made : Tree) (deep : ℕ) (u : List ℕ) → Postfixes swap tree depth t made deep u → ⊥
