use Rattle.rx_dfa.proofs.ClassLaws.{are_classes}
use Rattle.rx_dfa.proofs.classes.ByteClasses.new.Goals as goal

pub returns : goal.returns
returns c = are_classes c.args.program.now c.args.asked c.cuts_of-cuts.result c.in_ok-classes.classes c.cuts_of-cuts.ensures.looks c.cuts_of-cuts.ensures.states c.in_ok-classes.ensures
