-- How many patterns an engine has.
use Rattle.std.proofs.Common.{◌≡◌, ℕ, suc, ◌+◌, List, [], ◌∷◌, length, refl, sym, ap, ◌∙◌}
use Rattle.rx_sets.specs.Sets.{Range}
use Rattle.rx_walks.specs.Looks as walks
use Rattle.rx_walks.specs.Programs.{Program}
use Rattle.rx_grammar.specs.Trees.{Tree}
use Rattle.rx_grammar.specs.Weights.{size_of}
use Rattle.rx_program.specs.Code.{pattern_starts, program_of}
use Rattle.rx_engine.specs.Engines.{Engine, IsEngine}
use Rattle.rx_engine.proofs.GroupLaws.{noted_count}

start_count : (trees : List Tree) (at : ℕ) → length (pattern_starts trees at) ≡ length trees
start_count [] at = refl
start_count (tree ∷ trees) at = ap suc (start_count trees (at + 3 + size_of tree))

pattern_count : (trees : List Tree) (terminator : ℕ) → length (program_of trees terminator).patterns ≡ length trees
pattern_count [] terminator = refl
pattern_count (tree ∷ []) terminator = refl
pattern_count (tree ∷ other ∷ trees) terminator = start_count (tree ∷ other ∷ trees) 1

-- the groups are those of as many patterns as the program has
pub as_many : (e : Engine) → IsEngine e → length e.program.patterns ≡ length e.groups
as_many e of_trees =
    ap (λ (q : Program walks.Look (List Range)). length q.patterns) of_trees.1.program ∙ pattern_count of_trees.0 e.program.line_terminator ∙ sym (noted_count of_trees.0 e.groups e.which_captures of_trees.1.groups)
