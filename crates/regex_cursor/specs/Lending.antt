-- Inputs that iterators lend for changes: each iterator ends with the input after the borrow, and
-- is unchanged otherwise.
use denote.RattleType.{RattleType}
use mir.Syntax.{named}
use Rattle.std.specs.Prelude.{[]}
use Rattle.std.specs.Borrow.{Fml, Lends, MutBor}
use Rattle.rx_input.specs.declared.cursor.Cursor.{Ghosts}
use Rattle.rx_input.specs.contracts.input.Input as input
use Rattle.rx_input.specs.Inputs.{InputState}
use Rattle.regex_cursor.specs.contracts.engines.meta.captures_matches.CapturesMatches as captures_matches
use Rattle.regex_cursor.specs.contracts.engines.meta.find_matches.FindMatches as find_matches
use Rattle.regex_cursor.specs.contracts.engines.meta.split.Split as split
use Rattle.regex_cursor.specs.contracts.engines.meta.split_n.SplitN as split_n
use Rattle.regex_cursor.specs.declared.engines.meta.captures_matches.CapturesMatches.{CapturesMatches}
use Rattle.regex_cursor.specs.declared.engines.meta.find_matches.FindMatches.{FindMatches}
use Rattle.regex_cursor.specs.declared.engines.meta.split.Split.{Split}
use Rattle.regex_cursor.specs.declared.engines.meta.split_n.SplitN.{SplitN}

module _ (C : RattleType) (cursor : Ghosts C.Denot) where
  abbrev pub LendsInput : MutBor (FindMatches C.Denot) → MutBor InputState → Fml
  LendsInput m i = Lends (find_matches.the_row (record { mir = named 1; lft = [] }) C cursor)
      (input.the_row C cursor) m i (λ w. record m.now { input = w })

  abbrev pub CapturesLendInput : MutBor (CapturesMatches C.Denot cursor) → MutBor InputState → Fml
  CapturesLendInput m i = Lends
      (captures_matches.the_row (record { mir = named 1; lft = [] }) C cursor)
      (input.the_row C cursor) m i (λ w. record m.now { input = w })

  abbrev pub SplitLendsInput : MutBor (Split C.Denot) → MutBor InputState → Fml
  SplitLendsInput m i = Lends (split.the_row (record { mir = named 1; lft = [] }) C cursor)
      (input.the_row C cursor) m i (λ w. record m.now { input = w })

  abbrev pub SplitNLendsInput : MutBor (SplitN C.Denot) → MutBor InputState → Fml
  SplitNLendsInput m i = Lends (split_n.the_row (record { mir = named 1; lft = [] }) C cursor)
      (input.the_row C cursor) m i (λ w. record m.now { input = w })
