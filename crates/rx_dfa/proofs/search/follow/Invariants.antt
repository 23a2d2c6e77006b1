use Rattle.std.proofs.Common.{ℕ, ◌≡◌, ◌-◌, ◌<◌, None, length}
use Rattle.rx_input.specs.Cursors.{IsSameContent}
use Rattle.rx_walks.specs.Finds.{IsInside}
use Rattle.rx_dfa.specs.Passing.{SearchStandsAt, search_by}
use Rattle.rx_dfa.specs.Tables.{IsTable}
use Rattle.rx_dfa.proofs.search.follow.Given as goal

-- the search is at the input's position
abbrev pub invariant-loop-met : goal.invariant-loop-met
invariant-loop-met g l = record {
  table : IsTable g.T.Table.is_whole l.automaton (g.T.Table.shown l.table);
  number : l.number < length (g.T.Table.shown l.table).states;
  inside : IsInside (search_by l.automaton l.fn.input) l.input.position;
  stands : (q : ℕ) → SearchStandsAt l.automaton (search_by l.automaton l.fn.input) q l.fn.input.position (g.T.Table.shown l.fn.table).states l.first None
      → SearchStandsAt l.automaton (search_by l.automaton l.fn.input) q l.input.position (g.T.Table.shown l.table).states l.number l.met;
  same : IsSameContent l.fn.input.cursor l.input.cursor;
  asked : l.input.asked ≡ l.fn.input.asked;
}

abbrev pub decreases-loop-met : goal.decreases-loop-met
decreases-loop-met g l = length l.fn.input.cursor.content - l.input.position
