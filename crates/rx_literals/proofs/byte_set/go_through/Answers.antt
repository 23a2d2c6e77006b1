use Rattle.std.proofs.Common.{◌≡◌, Some, slice_get, sym, ap, ◌∙◌, arith}
use Rattle.std.proofs.lemmas.Option.{slice_get-get_or}
use Rattle.rx_literals.proofs.ByteSetLaws.{all_begin, one_more}
use Rattle.rx_literals.proofs.byte_set.go_through.Goals as goal
use Rattle.rx_literals.proofs.byte_set.go_through.Goals.{in-More, in-Closed}

-- the state at hand
there : (c : goal.Joined-mark_or_read) → slice_get c.args.states.now c.loop-index.index ≡ Some c.index-states-index.result
there c = slice_get-get_or c.args.states.now c.loop-index.index c.index-states-index.result (omega (arith, c.loop-index-test.true)) ∙ ap Some (sym c.index-states-index.is)

pub loop-index-preserved : goal.loop-index-preserved
loop-index-preserved c = elim c.match-mark_or_read.branch [
  | in-More w ↦ record {
    closed = λ e. absurd (cc (w.told-is, e));
    grows = λ q may. c.mark_or_read.ensures.grows q (c.loop-index.invariant.grows q may);
  }
  | in-Closed w ↦ record {
    closed = λ e. one_more c.args.states.now c.loop-index.members c.mark_or_read.new.members c.loop-index.marks c.mark_or_read.new.marks c.loop-index.index c.index-states-index.result
        c.mark_or_read.ensures.more (c.mark_or_read.ensures.closed w.in-Closed.is) (there c) (c.mark_or_read.ensures.leads w.in-Closed.is) (c.loop-index.invariant.closed (sym w.told-is ∙ e));
    grows = λ q may. c.mark_or_read.ensures.grows q (c.loop-index.invariant.grows q may);
  }
]

pub returns-clause-closed : goal.returns-clause-closed
returns-clause-closed c = λ e.
    all_begin c.args.states.now c.loop-index.members c.loop-index.marks c.loop-index.index (omega (arith, c.loop-index-test.false)) (c.loop-index.invariant.closed e)
