use Rattle.std.proofs.Common.{◌<◌, ◌^◌}
use Rattle.rx_util.specs.Groups.{named_groups}
use Rattle.rx_util.proofs.SlotLemmas.{AreStartsUpTo}
use Rattle.rx_util.proofs.captures.GroupInfo.new.Given as goal

abbrev pub invariant-loop-pattern : goal.invariant-loop-pattern
invariant-loop-pattern l = record {
  starts : AreStartsUpTo (named_groups l.fn.names.items) l.pattern-index l.starts.items l.slot_len;
  fits : l.slot_len < 2 ^ 64;
}
