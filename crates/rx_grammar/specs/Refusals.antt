-- Why a pattern is refused.
use Rattle.std.specs.Prelude.{ℕ, ◌≤◌, ◌<◌, List, length, chars}
use Rattle.rx_grammar.specs.declared.refusals.Reason.{Reason}
use Rattle.rx_grammar.specs.declared.refusals.Reason.TheVariants.{TooLong, Nesting, Outside}
use Rattle.rx_grammar.specs.Settings.{Settings}
use Rattle.rx_grammar.specs.Trees.{Tree}
use Rattle.rx_grammar.specs.Grammar.{Spells, NeverSpells, IsTooDeep}

-- the text, given as bytes, has a tree
abbrev pub SpellsSome : List ℕ → Settings → Type 0
SpellsSome text settings = (tree : Tree) × Spells (chars text) settings tree

-- the text has none, for this reason
abbrev pub IsRefusedAs : Reason → List ℕ → Settings → Type 0
IsRefusedAs TooLong text settings = 65536 < length text
IsRefusedAs Nesting text settings = IsTooDeep (chars text) settings
IsRefusedAs (Outside mistake) text settings = (length text ≤ 65536) × NeverSpells (chars text) settings
