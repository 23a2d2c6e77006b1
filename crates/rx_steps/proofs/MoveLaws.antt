-- The move of a state, by its cases.
use Rattle.std.proofs.Common.{◌≡◌, ℕ, List, ◌++◌, map, Option, None, refl}
use Rattle.rx_walks.specs.Machines.{Move, goes}
use Rattle.rx_program.specs.declared.states.State.{State}
use Rattle.rx_steps.specs.declared.place.Place.{Place}
use Rattle.rx_steps.specs.Threads.{Slots, Thread, Waiting}
use Rattle.rx_steps.specs.Lists.{IsMade, move_at, noted_at}

-- epsilon transitions lead to these nodes
pub made_goes : (place : Place) (i : ℕ) (q : ℕ × ℕ) (x : State) (rs : List (ℕ × ℕ)) (noted : Slots) (w w' : Waiting) (next next' : List Thread) → move_at place i q x ≡ goes rs → noted_at place x w.slots ≡ noted
    → w'.threads ≡ map (λ r. (noted, r)) rs ++ w.threads → next' ≡ next → IsMade (move_at place i q x) (noted_at place x w.slots) None w w' next next'
made_goes place i q x rs noted w w' next next' e f g h = rw e (rw f (refl, g, h))

pub made_so : (move move' : Move (ℕ × ℕ)) (noted : Slots) (met : Option ℕ) (w w' w'' : Waiting) (next next' next'' : List Thread) → move' ≡ move → w'' ≡ w' → next'' ≡ next'
    → IsMade move noted met w w' next next' → IsMade move' noted met w w'' next next''
made_so move move' noted met w w' w'' next next' next'' e f g made = rw e (rw f (rw g made))
