use Rattle.std.specs.Prelude.{All}
use Rattle.rx_utf8.specs.Automata.{IsAutomatonRow}
use Rattle.rx_utf8.specs.Blocks.{Extends, rows_of, prepared, pick}
use Rattle.rx_utf8.proofs.StartLaws.{Started}
use Rattle.rx_utf8.proofs.set_automaton.rows_for.Given as goal

abbrev pub invariant-loop-code : goal.invariant-loop-code
invariant-loop-code l = record {
  grows : Extends prepared (rows_of l.rows.items);
  kept : All IsAutomatonRow (rows_of l.rows.items);
  started : Started (rows_of l.rows.items) (pick l.one l.two l.three l.four) l.code l.start.items;
}
