use Rattle.rx_steps.specs.Reversed.{byte_program_of}
use Rattle.rx_dfa.proofs.ClassLaws.{are_classes}
use Rattle.rx_dfa.proofs.classes.ByteClasses.new_back.Goals as goal

pub returns : goal.returns
returns c = are_classes (byte_program_of c.args.reverse.now) c.args.asked c.cuts_of_back-cuts.result c.in_ok-classes.classes c.cuts_of_back-cuts.ensures.looks c.cuts_of_back-cuts.ensures.states c.in_ok-classes.ensures
