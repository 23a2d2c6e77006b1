-- What the bytes so far require of those that follow.
use Rattle.std.proofs.Common.{◌↔◌, ◌++◌, List, ℕ, drop}
use Rattle.rope_search_io.specs.Utf8Judge.{Continues}
use Rattle.rope_search_io.proofs.utf8_judge.Utf8Judge.push_all.Given as goal

abbrev pub invariant-loop-byte : goal.invariant-loop-byte
invariant-loop-byte l =
    (more : List ℕ) → Continues l.fn.self (l.bytes ++ more) ↔ Continues l.self (drop l.byte-index l.bytes ++ more)
