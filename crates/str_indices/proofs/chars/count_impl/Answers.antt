use Rattle.std.specs.Str.{chars}
use Rattle.str_indices.proofs.Indices.{length-char_ends}
use Rattle.str_indices.proofs.chars.count_impl.Goals as goal

pub returns-clause-count : goal.returns-clause-count
returns-clause-count g c = let e = length-char_ends 0 (chars c.args.text.now) in cc
