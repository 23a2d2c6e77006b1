-- Programs whose edges lead to their nodes.
use Rattle.std.specs.Prelude.{ℕ, ◌<◌, List, [], ◌∷◌, length}
use Rattle.std.specs.List.{All}
use Rattle.rx_sets.specs.Sets.{Range}
use Rattle.rx_grammar.specs.Trees.{Tree}
use Rattle.rx_walks.specs.Looks as walks
use Rattle.rx_walks.specs.Programs.{Node, match, pass, note, look, set, Program}
use Rattle.rx_program.specs.Code.{program_of}

-- the edges of a node lead to nodes below n
abbrev pub LeadsBelow : ℕ → Node walks.Look (List Range) → Type 0
LeadsBelow n (match pattern) = Unit {0}
LeadsBelow n (pass nodes) = All (λ r. r < n) nodes
LeadsBelow n (note slot r) = r < n
LeadsBelow n (look asked r) = r < n
LeadsBelow n (set ranges r) = r < n

-- each edge leads to a node, and so do the starts
pub record IsClosed (p : Program walks.Look (List Range)) : Type 0 where
  pub edges : All (LeadsBelow (length p.nodes)) p.nodes
  pub start : p.start < length p.nodes
  pub patterns : All (λ r. r < length p.nodes) p.patterns

-- the program of a pattern is closed
abbrev pub PatternIsClosed : Type 0
PatternIsClosed = (tree : Tree) (terminator : ℕ) → IsClosed (program_of (tree ∷ []) terminator)

-- and that of several, or of none
abbrev pub ProgramsAreClosed : Type 0
ProgramsAreClosed = (trees : List Tree) (terminator : ℕ) → IsClosed (program_of trees terminator)
