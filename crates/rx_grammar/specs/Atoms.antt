-- What a parser of an atom other than a group finds.
use Rattle.std.specs.Prelude.{◌≡◌, ℕ, Bool, List}
use Rattle.rx_sets.specs.declared.items.ClassItem.{ClassItem}
use Rattle.rx_grammar.specs.declared.atoms.AtomTree.{AtomTree}
use Rattle.rx_grammar.specs.declared.atoms.AtomTree.TheVariants as atom
use Rattle.rx_grammar.specs.Settings.{Settings}
use Rattle.rx_grammar.specs.Sets.{Range, IsSetOf}
use Rattle.rx_grammar.specs.Trees.{Tree, one_of, look_at}
use Rattle.rx_grammar.specs.Classes.{Class, InClass}
use Rattle.rx_grammar.specs.Grammar.{Escape, PlainAtom}

abbrev pub atom_tree : AtomTree → Tree
atom_tree (atom.Set set) = one_of set.value
atom_tree (atom.Look look) = look_at look

-- a class, after its [, and its set
pub record ClassAtom (s : Settings) (t : List ℕ) (tree : Tree) (u : List ℕ) : Type 0 where
  pub negated : Bool
  pub items : List ClassItem
  pub ranges : List Range
  pub reads : Class t negated items u
  pub is_set : IsSetOf ranges (InClass s negated items)
  pub tree_is : tree ≡ one_of ranges

-- the text doesn't start with an escape
abbrev pub NoEscape : Settings → List ℕ → Type 0
NoEscape s t = (tree : Tree) (u : List ℕ) → Escape s t tree u → ⊥

abbrev pub NoPlainAtom : Settings → List ℕ → Type 0
NoPlainAtom s t = (tree : Tree) (u : List ℕ) → PlainAtom s t tree u → ⊥
