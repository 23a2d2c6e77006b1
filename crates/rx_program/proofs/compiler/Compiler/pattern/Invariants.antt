use Rattle.std.proofs.Common.{◌≡◌}
use Rattle.rx_grammar.specs.Subtrees.{subtrees_of}
use Rattle.rx_grammar.specs.Postorder.{tree_of}
use Rattle.rx_program.specs.Jobs.{jobs_work}
use Rattle.rx_program.proofs.PatternLaws.{Begun}
use Rattle.rx_program.proofs.compiler.Compiler.pattern.Given as goal

-- the states and the code of the jobs that are left are the pattern's program, after the states
-- before
abbrev pub invariant-loop-job : goal.invariant-loop-job
invariant-loop-job l = record {
  begun : Begun l.fn.self.slots l.number (tree_of l.hir) l.fn.self.states.items l.self.states.items l.self.jobs.items;
  slots : l.self.slots ≡ l.fn.self.slots;
}

abbrev pub decreases-loop-job : goal.decreases-loop-job
decreases-loop-job l = jobs_work (subtrees_of (tree_of l.hir)) l.self.jobs.items
