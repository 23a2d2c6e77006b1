-- The output for an input: the shown answers of a run of steps from the first session.
use Rattle.std.specs.Prelude.{◌≡◌, ℕ, ◌+◌, List, [], ◌∷◌, ◌++◌}
use Rattle.rope_search.specs.declared.endings.Ended.{Ended}
use Rattle.rope_search.specs.Order.{Order}
use Rattle.rope_search.specs.Session.{State, first_state}
use Rattle.rope_search.specs.Step.{Answer, Step}
use Rattle.rope_search.specs.Reads.{Reads}
use Rattle.rope_search.specs.Shows.{Shows, closing}
use Rattle.rope_search.specs.Cost.{Costs}

-- one command of a run, and the other commands from the session after it
pub record Turn (limit : ℕ) (old : State) (order : Order) (out : List ℕ) (cost : ℕ)
    (Others : State → List ℕ → ℕ → Type 0) : Type 0 where
  pub answer : Answer
  pub new : State
  pub own_cost : ℕ
  pub later : List ℕ
  pub later_cost : ℕ
  pub step : Step limit old order answer new
  pub costs : Costs limit old order own_cost
  pub others : Others new later later_cost
  pub reply : List ℕ
  pub shows : Shows new answer reply
  pub shown : out ≡ reply ++ later
  pub added : cost ≡ own_cost + later_cost

-- from an old session these commands may have this output, at this cost, and leave a new session
abbrev pub Run : ℕ → State → List Order → List ℕ → ℕ → State → Type 0
Run limit old [] out cost new = (out ≡ []) × (cost ≡ 0) × (new ≡ old)
Run limit old (order ∷ orders) out cost new =
    Turn limit old order out cost
    (λ mid later later_cost. Run limit mid orders later later_cost new)

-- an input with this ending may be answered by this output, at this cost
pub record Answers (limit : ℕ) (input : List ℕ) (ending : Ended) (output : List ℕ)
    (cost : ℕ) : Type 0 where
  pub orders : List Order
  pub replies : List ℕ
  pub last : State
  pub reads : Reads input orders ending
  pub run : Run limit first_state orders replies cost last
  pub shown : output ≡ replies ++ closing ending
