use Rattle.str_indices.proofs.Indices.{char_starts-are_ends}
use Rattle.str_indices.proofs.chars.to_byte_idx.Goals as goal

pub returns : goal.returns
returns c = let e = char_starts-are_ends c.args.text.now c.args.char_idx c.utf8.text in cc
