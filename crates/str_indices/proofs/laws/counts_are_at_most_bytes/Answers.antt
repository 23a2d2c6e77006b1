use Rattle.str_indices.proofs.TextLaws.{counts_are_at_most_bytes-chars, counts_are_at_most_bytes-units, counts_are_at_most_bytes-lines}
use Rattle.str_indices.proofs.laws.counts_are_at_most_bytes.Goals as goal

pub returns-clause-chars : goal.returns-clause-chars
returns-clause-chars c = counts_are_at_most_bytes-chars

pub returns-clause-units : goal.returns-clause-units
returns-clause-units c = counts_are_at_most_bytes-units

pub returns-clause-lines : goal.returns-clause-lines
returns-clause-lines c = counts_are_at_most_bytes-lines
