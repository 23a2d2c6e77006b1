use Rattle.std.proofs.Common.{ℕ, ◌≡◌, ◌<◌, Bool, None, length}
use Rattle.rx_input.specs.Cursors.{IsSameContent}
use Rattle.rx_walks.specs.Finds.{IsInside}
use Rattle.rx_steps.specs.Searching.{search_of}
use Rattle.rx_dfa.specs.Back.{StandsBack}
use Rattle.rx_dfa.specs.Tables.{IsTable}
use Rattle.rx_dfa.proofs.back.follow_back.Given as goal

-- the search is at the input's position
abbrev pub invariant-loop-met : goal.invariant-loop-met
invariant-loop-met g l = record {
  table : IsTable g.T.Table.is_whole l.automaton (g.T.Table.shown l.table);
  number : l.number < length (g.T.Table.shown l.table).states;
  inside : (utf8_empty : Bool) → IsInside (search_of utf8_empty l.fn.input) l.input.position;
  stands : (utf8_empty : Bool) (q : ℕ) → StandsBack l.automaton (search_of utf8_empty l.fn.input) q l.fn.input.position (g.T.Table.shown l.fn.table).states l.first None
      → StandsBack l.automaton (search_of utf8_empty l.fn.input) q l.input.position (g.T.Table.shown l.table).states l.number l.met;
  same : IsSameContent l.fn.input.cursor l.input.cursor;
  asked : l.input.asked ≡ l.fn.input.asked;
}

abbrev pub decreases-loop-met : goal.decreases-loop-met
decreases-loop-met g l = l.input.position
