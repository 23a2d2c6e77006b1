use Rattle.std.proofs.Common.{◌≡◌, ℕ, ◌-◌, ◌<◌, ◌≤◌, [], Some, length, slice_get, Contains}
use Rattle.rx_program.specs.declared.states.State.{State}
use Rattle.rx_steps.specs.Nodes.{node_count, widths_of, index_from}
use Rattle.rx_steps.specs.Lists.{move_at}
use Rattle.rx_lists.specs.Leading.{LeadsOn, AreSound, AreReal}
use Rattle.rx_lists.proofs.RoundLaws.{IsBack}
use Rattle.rx_lists.proofs.leading.fill.Given as goal

-- all nodes here lead on, those that need no others were added, and those with a transition to a
-- node up to this one were checked
abbrev pub invariant-loop-done : goal.invariant-loop-done
invariant-loop-done l = record {
  sound : AreSound l.program l.place l.beyond.nodes l.here.nodes;
  room : length l.here.nodes ≤ node_count l.program;
  real : AreReal l.program l.here.nodes;
  begun : (q : ℕ × ℕ) → Contains l.order q → (k i : ℕ) (x : State) → index_from 0 (widths_of l.program) q.0 q.1 ≡ Some k → slice_get l.program.states q.0 ≡ Some x
      → LeadsOn [] l.beyond.nodes (move_at l.place i q x) → Contains l.here.nodes q;
  back : (j : ℕ) (r : ℕ × ℕ) → j < l.done → slice_get l.here.nodes j ≡ Some r → IsBack l.program l.place l.arrivals r l.here.nodes;
  widths : l.here.widths ≡ l.fn.here.widths;
}

abbrev pub decreases-loop-done : goal.decreases-loop-done
decreases-loop-done l = node_count l.program - l.done
