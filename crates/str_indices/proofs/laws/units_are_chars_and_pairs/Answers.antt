use Rattle.str_indices.proofs.TextLaws.{units_are_chars_and_pairs}
use Rattle.str_indices.proofs.laws.units_are_chars_and_pairs.Goals as goal

pub returns : goal.returns
returns c = units_are_chars_and_pairs
