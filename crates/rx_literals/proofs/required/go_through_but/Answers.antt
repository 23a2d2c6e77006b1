use Rattle.std.proofs.Common.{◌≡◌, Some, slice_get, sym, ap, ◌∙◌, arith}
use Rattle.std.proofs.lemmas.Option.{slice_get-get_or}
use Rattle.rx_literals.proofs.RequirementLaws.{all_stop, stop_on}
use Rattle.rx_literals.proofs.required.go_through_but.Goals as goal
use Rattle.rx_literals.proofs.required.go_through_but.Goals.{in-More, in-Closed}

-- the current state
there : (c : goal.Joined-mark_edges) → slice_get c.args.states.now c.loop-index.index ≡ Some c.index-states-index.result
there c = slice_get-get_or c.args.states.now c.loop-index.index c.index-states-index.result (omega (arith, c.loop-index-test.true)) ∙ ap Some (sym c.index-states-index.is)

pub loop-index-preserved : goal.loop-index-preserved
loop-index-preserved c = elim c.match-mark_edges.branch [
  | in-More w ↦ record {
    closed = λ e. absurd (cc (w.told-is, e));
    grows = λ q may. c.mark_edges.ensures.grows q (c.loop-index.invariant.grows q may);
  }
  | in-Closed w ↦ record {
    closed = λ e. stop_on c.args.states.now c.args.stop c.loop-index.marks c.mark_edges.new.marks c.loop-index.index c.index-states-index.result
        (c.mark_edges.ensures.closed w.in-Closed.is) (there c) (c.mark_edges.ensures.leads w.in-Closed.is) (c.loop-index.invariant.closed (sym w.told-is ∙ e));
    grows = λ q may. c.mark_edges.ensures.grows q (c.loop-index.invariant.grows q may);
  }
]

pub returns-clause-closed : goal.returns-clause-closed
returns-clause-closed c = λ e.
    all_stop c.args.states.now c.args.stop c.loop-index.marks c.loop-index.index (omega (arith, c.loop-index-test.false)) (c.loop-index.invariant.closed e)
