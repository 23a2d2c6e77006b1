use Rattle.std.proofs.Common.{◌≡◌, ◌++◌, take}
use Rattle.rx_dfa.proofs.maker.push_all.Given as goal

-- this many of the others were added
abbrev pub invariant-loop-index : goal.invariant-loop-index
invariant-loop-index l = record {
  threads : l.threads.threads ≡ l.fn.threads.threads ++ take l.index l.others.threads;
  slot_len : l.threads.slot_len ≡ l.fn.threads.slot_len;
}
