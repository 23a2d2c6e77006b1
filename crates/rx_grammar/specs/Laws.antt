-- Laws of the grammar.
use Rattle.std.specs.Prelude.{◌≡◌, ◌⊎◌, ℕ, ◌+◌, ◌<◌, ◌≤◌, List, length, get_or}
use Rattle.rx_grammar.specs.Settings.{Settings}
use Rattle.rx_grammar.specs.Trees.{Tree, numbers_of}
use Rattle.rx_grammar.specs.Grammar.{Spells, NeverSpells, IsTooDeep}

-- the text has at most one tree
abbrev pub SpellsAtMostOne : List ℕ → Settings → Type 0
SpellsAtMostOne text settings = (tree other : Tree) → Spells text settings tree → Spells text settings other → tree ≡ other

-- the text has a tree, or has one only with a greater nest limit, or has none with any
abbrev pub SpellsOrNot : List ℕ → Settings → Type 0
SpellsOrNot text settings = ((tree : Tree) × Spells text settings tree) ⊎ (IsTooDeep text settings ⊎ NeverSpells text settings)

-- the groups of the tree are numbered 1, 2 and so on, in the order in which they open
abbrev pub NumbersGroups : List ℕ → Settings → Type 0
NumbersGroups text settings = (tree : Tree) → Spells text settings tree → (k : ℕ) → k < length (numbers_of tree) → get_or (numbers_of tree) k 0 ≡ k + 1

-- the tree has at most 65,536 groups
abbrev pub HasFewGroups : List ℕ → Settings → Type 0
HasFewGroups text settings = (tree : Tree) → Spells text settings tree
    → length (numbers_of tree) ≤ 65536
