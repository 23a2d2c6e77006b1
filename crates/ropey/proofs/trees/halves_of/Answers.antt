use Rattle.std.proofs.Common.{ap}
use Rattle.ropey_tree.specs.Splits.{pieces_in}
use Rattle.ropey.proofs.Editing.{no_halves}
use Rattle.ropey.proofs.trees.halves_of.Goals as goal

pub returns-in-None : goal.returns-in-None
returns-in-None c = no_halves (pieces_in c.args.root.now) c.args.at (ap pieces_in c.in-None.is) c.requires
