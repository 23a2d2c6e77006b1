-- None of the bytes so far is a space.
use Rattle.std.proofs.Common.{take}
use Rattle.rope_search.specs.Header.{HasNoSpace}
use Rattle.rope_search.proofs.headers.len_to_space.Given as goal

abbrev pub invariant-loop-at : goal.invariant-loop-at
invariant-loop-at l = HasNoSpace (take l.at l.bytes)
