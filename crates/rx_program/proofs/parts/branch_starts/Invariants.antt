use Rattle.std.proofs.Common.{◌-◌}
use Rattle.rx_grammar.specs.Subtrees.{subtrees_of}
use Rattle.rx_grammar.specs.Postorder.{tree_of}
use Rattle.rx_program.specs.Jobs.{sizes_of, starts_of, trees_before}
use Rattle.rx_program.proofs.StartLaws.{Left}
use Rattle.rx_program.proofs.parts.branch_starts.Given as goal

-- the parts that are left come before those whose starts are known, the last one of these first
abbrev pub invariant-loop : goal.invariant-loop
invariant-loop l =
    let parts = subtrees_of (tree_of l.hir) in
    let all = trees_before parts l.initial.count l.initial.root in
    let base = l.initial.end - sizes_of all in
    Left parts (l.count - l.counter) l.root l.end l.initial.end base (starts_of all base) l.starts.items
