use Rattle.str_indices.proofs.TextLaws.{to_byte_idx_is_a_boundary-chars, to_byte_idx_is_a_boundary-units, to_byte_idx_is_a_boundary-lines}
use Rattle.str_indices.proofs.laws.to_byte_idx_is_a_boundary.Goals as goal

pub returns-clause-chars : goal.returns-clause-chars
returns-clause-chars c = to_byte_idx_is_a_boundary-chars

pub returns-clause-units : goal.returns-clause-units
returns-clause-units c = to_byte_idx_is_a_boundary-units

pub returns-clause-lines : goal.returns-clause-lines
returns-clause-lines c = to_byte_idx_is_a_boundary-lines
