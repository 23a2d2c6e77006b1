use Rattle.std.specs.Str.{chars}
use Rattle.str_indices.proofs.Indices.{length-unit_ends}
use Rattle.str_indices.proofs.utf16.count.Goals as goal

pub returns : goal.returns
returns c = let e = length-unit_ends 0 (chars c.args.text.now) in cc
