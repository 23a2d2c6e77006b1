-- An input that a searcher lends.
use denote.RattleType.{RattleType}
use Rattle.std.specs.Borrow.{Fml, Lends, MutBor}
use Rattle.rx_input.specs.contracts.iter.Searcher as searcher
use Rattle.rx_input.specs.declared.iter.Searched.{Ghosts}
use Rattle.rx_input.specs.Searchers.{SearcherState}

module _ (I : RattleType) (searched : Ghosts I.Denot) where
  -- the searcher ends with the input that is left in the reference, and keeps the end of its last
  -- match
  abbrev pub LendsInput : MutBor SearcherState → MutBor I.Denot → Fml
  LendsInput s i = Lends (searcher.the_row I searched) I s i
      (λ w. record s.now { input = searched.state w })
