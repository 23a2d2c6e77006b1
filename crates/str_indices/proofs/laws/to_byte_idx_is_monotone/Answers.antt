use Rattle.str_indices.proofs.TextLaws.{to_byte_idx_is_monotone-chars, to_byte_idx_is_monotone-units, to_byte_idx_is_monotone-lines}
use Rattle.str_indices.proofs.laws.to_byte_idx_is_monotone.Goals as goal

pub returns-clause-chars : goal.returns-clause-chars
returns-clause-chars c = to_byte_idx_is_monotone-chars

pub returns-clause-units : goal.returns-clause-units
returns-clause-units c = to_byte_idx_is_monotone-units

pub returns-clause-lines : goal.returns-clause-lines
returns-clause-lines c = to_byte_idx_is_monotone-lines
