-- Laws of what engines find, and of their lists of matches.
use Rattle.std.specs.Prelude.{◌≡◌, ◌↔◌, List, [], ◌∷◌, ◌++◌, Option, Some, None}
use Rattle.rx_walks.specs.Machines.{Outcome}
use Rattle.rx_walks.specs.Programs.{Notes}
use Rattle.rx_walks.specs.Finds.{Search}
use Rattle.rx_walks.specs.ProgramFinds.{start_of, end_of}
use Rattle.rx_walks.specs.Laws.{MayBeFound}
use Rattle.rx_walks.specs.MatchLaws.{AreInOrder}
use Rattle.rx_chunk.specs.Engines.{Engine, EngineFinds}
use Rattle.rx_chunk.specs.Iterating.{EngineComesNext, EngineMatches, FirstEngineMatches}

-- the first members of the list of all matches: none are; together with the next one they are one
-- more; and they are all if no next one follows
pub record HasFirstMatches (e : Engine) (s : Search) : Type 0 where
  pub none : FirstEngineMatches e s []
  pub one_more : (ms : List (Outcome Notes)) (t : Outcome Notes)
      → (FirstEngineMatches e s ms × EngineComesNext e s ms (Some t))
      ↔ FirstEngineMatches e s (ms ++ t ∷ [])
  pub all : (ms : List (Outcome Notes))
      → (FirstEngineMatches e s ms × EngineComesNext e s ms None) ↔ EngineMatches e s ms
  pub next : (ms : List (Outcome Notes))
      → (out : Option (Outcome Notes)) × EngineComesNext e s ms out
  pub next_is_one : (ms : List (Outcome Notes)) (out out' : Option (Outcome Notes))
      → EngineComesNext e s ms out → EngineComesNext e s ms out' → out ≡ out'

-- an engine finds exactly one thing in each search, a match or none, and has exactly one list of
-- matches, whichever match it reports; they are in the span, in order, and don't overlap
pub record HasFinds (e : Engine) : Type 0 where
  pub one_find : (s : Search) (out out' : Option (Outcome Notes)) → EngineFinds e s out
      → EngineFinds e s out' → out ≡ out'
  pub has_find : (s : Search) → (out : Option (Outcome Notes)) × EngineFinds e s out
  pub inside : (s : Search) (t : Outcome Notes) → EngineFinds e s (Some t)
      → MayBeFound s (start_of t) (end_of t)
  pub one_list : (s : Search) (ms ms' : List (Outcome Notes)) → EngineMatches e s ms
      → EngineMatches e s ms' → ms ≡ ms'
  pub has_list : (s : Search) → (ms : List (Outcome Notes)) × EngineMatches e s ms
  pub rise : (s : Search) (ms : List (Outcome Notes)) → EngineMatches e s ms
      → AreInOrder start_of end_of s ms
  pub first : (s : Search) → HasFirstMatches e s
