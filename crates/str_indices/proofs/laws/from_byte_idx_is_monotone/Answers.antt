use Rattle.str_indices.proofs.TextLaws.{from_byte_idx_is_monotone-chars, from_byte_idx_is_monotone-units, from_byte_idx_is_monotone-lines}
use Rattle.str_indices.proofs.laws.from_byte_idx_is_monotone.Goals as goal

pub returns-clause-chars : goal.returns-clause-chars
returns-clause-chars c = from_byte_idx_is_monotone-chars

pub returns-clause-units : goal.returns-clause-units
returns-clause-units c = from_byte_idx_is_monotone-units

pub returns-clause-lines : goal.returns-clause-lines
returns-clause-lines c = from_byte_idx_is_monotone-lines
