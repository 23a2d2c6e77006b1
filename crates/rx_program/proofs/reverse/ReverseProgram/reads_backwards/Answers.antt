use Rattle.std.proofs.Common.{subst}
use Rattle.std.specs.List.{All}
use Rattle.rx_program.specs.Reversed.{ReadsItsSetBack}
use Rattle.rx_program.proofs.ReverseLaws.{reads_backwards}
use Rattle.rx_program.proofs.reverse.ReverseProgram.reads_backwards.Goals as goal

pub returns : goal.returns
returns c = reads_backwards c.args.self.now (subst (All ReadsItsSetBack) c.states-states.ensures.states c.states-states.ensures.reads)
