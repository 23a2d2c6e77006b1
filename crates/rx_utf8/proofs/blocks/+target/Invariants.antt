use Rattle.std.proofs.Common.{◌≤◌, ◌-◌}
use Rattle.std.specs.Prelude.{All}
use Rattle.rx_sets.specs.Sets.{in_ranges}
use Rattle.rx_utf8.specs.Automata.{IsAutomatonRow}
use Rattle.rx_utf8.specs.Blocks.{Extends, rows_of}
use Rattle.rx_utf8.proofs.TargetLaws.{Filled}
use Rattle.rx_utf8.proofs.blocks.+target.Given as goal

abbrev pub decreases-target : goal.decreases-target
decreases-target l = l.rest

-- the rows are kept, and the new row is filled up to the byte
abbrev pub invariant-loop-byte : goal.invariant-loop-byte
invariant-loop-byte l = record {
  grows : Extends (rows_of l.fn.rows.items) (rows_of l.rows.items);
  kept : All IsAutomatonRow (rows_of l.rows.items);
  from : 128 ≤ l.byte;
  filled : Filled (rows_of l.rows.items) (in_ranges l.part) (l.rest - 1) l.value l.byte l.row.items;
}
