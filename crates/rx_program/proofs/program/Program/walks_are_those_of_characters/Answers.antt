use Rattle.std.proofs.Common.{subst}
use Rattle.std.specs.List.{All}
use Rattle.rx_program.specs.Programs.{ReadsItsSet}
use Rattle.rx_program.proofs.ProgramLaws.{reads_members, walks_of}
use Rattle.rx_program.proofs.program.Program.walks_are_those_of_characters.Goals as goal

pub returns-clause-reads : goal.returns-clause-reads
returns-clause-reads c = reads_members c.args.self.now (subst (All ReadsItsSet) c.states-states.ensures.states c.states-states.ensures.reads)

pub returns-clause-walks : goal.returns-clause-walks
returns-clause-walks c = walks_of c.args.self.now (subst (All ReadsItsSet) c.states-states.ensures.states c.states-states.ensures.reads)
