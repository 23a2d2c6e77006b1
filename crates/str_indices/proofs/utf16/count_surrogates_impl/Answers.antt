use Rattle.std.specs.Str.{chars}
use Rattle.str_indices.proofs.Indices.{length-pair_ends}
use Rattle.str_indices.proofs.utf16.count_surrogates_impl.Goals as goal

pub returns-clause-count : goal.returns-clause-count
returns-clause-count g c = let e = length-pair_ends 0 (chars c.args.text.now) in cc
