-- The threads that wait on a stack.
use Rattle.std.specs.Prelude.{List, [], ◌∷◌, set}
use Rattle.rx_steps.specs.declared.pending.FollowEpsilon.{FollowEpsilon}
use Rattle.rx_steps.specs.declared.pending.FollowEpsilon.TheVariants.{Explore, RestoreCapture}
use Rattle.rx_steps.specs.Threads.{Slots, Thread, first_node}

-- the threads that wait, the next one first, if these are the current slots
abbrev pub waiting : Slots → List FollowEpsilon → List Thread
waiting slots [] = []
waiting slots (Explore state ∷ frames) = (slots, first_node state) ∷ waiting slots frames
waiting slots (RestoreCapture slot held ∷ frames) = waiting (set slots slot held) frames
