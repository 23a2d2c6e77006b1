use Rattle.std.proofs.Common.{◌≡◌, Some, slice_get, sym, ap, ◌∙◌, arith}
use Rattle.std.proofs.lemmas.Option.{slice_get-get_or}
use Rattle.rx_literals.proofs.EndingLaws.{all_lead, one_more}
use Rattle.rx_literals.proofs.ending.go_through.Goals as goal
use Rattle.rx_literals.proofs.ending.go_through.Goals.{in-More, in-Closed}

-- the current state
there : (c : goal.Joined-mark_next) → slice_get c.args.states.now c.loop-index.index ≡ Some c.index-states-index.result
there c = slice_get-get_or c.args.states.now c.loop-index.index c.index-states-index.result (omega (arith, c.loop-index-test.true)) ∙ ap Some (sym c.index-states-index.is)

pub loop-index-preserved : goal.loop-index-preserved
loop-index-preserved c = elim c.match-mark_next.branch [
  | in-More w ↦ record {
    closed = λ e. absurd (cc (w.told-is, e));
    grows = λ q may. c.mark_next.ensures.grows q (c.loop-index.invariant.grows q may);
  }
  | in-Closed w ↦ record {
    closed = λ e. one_more c.args.states.now c.loop-index.marks c.mark_next.new.marks c.loop-index.index c.index-states-index.result
        (c.mark_next.ensures.closed w.in-Closed.is) (there c) (c.mark_next.ensures.leads w.in-Closed.is) (c.loop-index.invariant.closed (sym w.told-is ∙ e));
    grows = λ q may. c.mark_next.ensures.grows q (c.loop-index.invariant.grows q may);
  }
]

pub returns-clause-closed : goal.returns-clause-closed
returns-clause-closed c = λ e.
    all_lead c.args.states.now c.loop-index.marks c.loop-index.index (omega (arith, c.loop-index-test.false)) (c.loop-index.invariant.closed e)
