use Rattle.std.proofs.Common.{ap, length}
use Rattle.std.proofs.lemmas.Str.{encodes-chars}
use Rattle.ropey_walk.proofs.ascii.counts.Goals as goal

pub returns : goal.returns
returns c = let bytes = ap length (encodes-chars c.args.text.now c.utf8.text) in cc
