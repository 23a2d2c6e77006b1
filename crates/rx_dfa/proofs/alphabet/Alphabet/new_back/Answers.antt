use Rattle.std.proofs.Common.{map, refl, subst}
use Rattle.std.specs.List.{All}
use Rattle.rx_program.specs.Reversed.{ReadsItsSetBack}
use Rattle.rx_program.proofs.ReverseLaws.{reads_backwards}
use Rattle.rx_steps.specs.Reversed.{state_of}
use Rattle.rx_dfa.specs.Searching.{AreAskedBy}
use Rattle.rx_dfa.proofs.alphabet.Alphabet.new_back.Goals as goal

pub returns-clause-made : goal.returns-clause-made
returns-clause-made c = record {
  reads = reads_backwards c.args.reverse.now (subst (All ReadsItsSetBack) c.states.ensures.states c.states.ensures.reads);
  tells = record {
    asked = subst (λ states. AreAskedBy (map state_of states) c.of_back-asked.result) c.states.ensures.states (record { any = c.of_back-asked.ensures.any; lines = c.of_back-asked.ensures.lines; words = c.of_back-asked.ensures.words });
    classes = c.in_ok-classes.ensures;
  };
  utf8_empty = refl;
}
