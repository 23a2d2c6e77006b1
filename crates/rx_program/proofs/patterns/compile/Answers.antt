use Rattle.std.proofs.Common.{map, ap, subst, sym, ◌∙◌}
use Rattle.std.specs.List.{All}
use Rattle.rx_grammar.specs.Postorder.{tree_of}
use Rattle.rx_program.specs.Programs.{ByteProgram, node_of, HasWalksOfProgram, ReadsItsSet}
use Rattle.rx_program.proofs.ManyLaws.{program_is}
use Rattle.rx_program.proofs.ProgramLaws.{walks_of}
use Rattle.rx_program.proofs.patterns.compile.Goals as goal

pub returns-clause-walks : goal.returns-clause-walks
returns-clause-walks c =
    let trees = map (λ hir. tree_of hir.now) c.args.hirs.now in
    let terminator = c.args.line_terminator in
    let program = c.new.result in
    let reads = subst (All ReadsItsSet) (sym (ap (λ (p : ByteProgram). p.states) c.new.ensures)) c.in_ok-states.ensures.reads in
    let same = program_is trees terminator program
    (ap (λ (p : ByteProgram). map node_of p.states) c.new.ensures ∙ c.in_ok-states.ensures.nodes terminator)
    (ap (λ (p : ByteProgram). p.patterns) c.new.ensures ∙ c.in_ok-states.ensures.starts terminator)
    (ap (λ (p : ByteProgram). p.start) c.new.ensures)
    (ap (λ (p : ByteProgram). p.line_terminator) c.new.ensures) in
    subst (λ x. HasWalksOfProgram program x) same (walks_of program reads)
