use Rattle.rx_utf8.specs.Blocks.{Extends}
use Rattle.rx_utf8.specs.Subsets.{lists_of}
use Rattle.rx_utf8.proofs.SubsetLaws.{Led}
use Rattle.rx_utf8.proofs.subsets.set_row.Given as goal

-- the row is filled up to the byte
abbrev pub invariant-loop-code : goal.invariant-loop-code
invariant-loop-code l = record {
  kept : Extends (lists_of l.fn.subsets.sets.items) (lists_of l.subsets.sets.items);
  led : Led (lists_of l.subsets.sets.items) l.from (lists_of l.lists) l.code l.row.items;
}
