use Rattle.std.specs.Str.{chars}
use Rattle.str_indices.proofs.Indices.{length-char_ends}
use Rattle.str_indices.proofs.chars.count.Goals as goal

pub returns : goal.returns
returns c = let e = length-char_ends 0 (chars c.args.text.now) in cc
