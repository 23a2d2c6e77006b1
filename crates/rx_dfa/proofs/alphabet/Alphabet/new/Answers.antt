use Rattle.std.proofs.Common.{subst}
use Rattle.std.specs.List.{All}
use Rattle.rx_program.specs.Programs.{ReadsItsSet}
use Rattle.rx_program.proofs.ProgramLaws.{reads_members}
use Rattle.rx_dfa.specs.Searching.{AreAskedBy}
use Rattle.rx_dfa.proofs.alphabet.Alphabet.new.Goals as goal

pub returns-clause-made : goal.returns-clause-made
returns-clause-made c = record {
  reads = reads_members c.args.program.now (subst (All ReadsItsSet) c.states.ensures.states c.states.ensures.reads);
  tells = record {
    asked = subst (λ states. AreAskedBy states c.of-asked.result) c.states.ensures.states (record { any = c.of-asked.ensures.any; lines = c.of-asked.ensures.lines; words = c.of-asked.ensures.words });
    classes = c.in_ok-classes.ensures;
  };
}
