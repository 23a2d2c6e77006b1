-- Each input is read in some way, and in no other.
use Rattle.rope_search.proofs.ReadLaws.{reads_exist, reads_one}
use Rattle.rope_search.proofs.laws.one_reading.Goals as goal

pub returns : goal.returns
returns c = λ input. (reads_exist input, reads_one input)
