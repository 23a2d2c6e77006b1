-- The progress of a search for all matches in the parts of its span.
use Rattle.std.proofs.Common.{inl, inr, ◌≡◌, ℕ, ◌+◌, ◌<◌, ◌≤◌, Bool, true, false, All, List, [], Option, Some, None, IfSome, refl, ap, subst, ◌∙◌, arith}
use Rattle.std.proofs.lemmas.List.Elements.{All-nil}
use Rattle.rx_util.specs.Search.{Found}
use Rattle.rx_walks.specs.Finds.{Search, up_to_place, IsInside}
use Rattle.rx_walks.specs.ProgramFinds.{lowest, highest}
use Rattle.rx_walks.specs.StepsAll.{StepsAll, done, passed, met, opened, read}
use Rattle.rx_program.specs.Programs.{ByteProgram}
use Rattle.rx_steps.specs.declared.started.MetEnd.{MetEnd}
use Rattle.rx_steps.specs.ListsAll.{Started, IsStartedOf, IsStepAll}
use Rattle.rx_steps.specs.Coming.{course_of}
use Rattle.rx_steps.specs.ComingAll.{byte_machine_in, HasStartedAll, HasMetNoneAll, IsOverAll, IsOverAllAt, IsUnderWayAllInParts}
use Rattle.rx_steps.proofs.ByteLaws.{below_or_not}
use Rattle.rx_steps.proofs.PartLaws.{MovesAlike, MovesStop, stopped, moves_alike, moves_stop, inside_part, begins_whole}
use Rattle.rx_steps.proofs.AllComeLaws.{best_after, way_begun_all, way_passed_all, way_ended_all}

module _ (p : ByteProgram) (s : Search) where
  -- ---- steps in a part

  steps_alike : (e i : ℕ) → MovesAlike p s e i → {seen : List (ℕ × ℕ)} {threads next : List Started} {ends : List (ℕ × ℕ)} → StepsAll (byte_machine_in p s) i seen threads next ends
      → StepsAll (byte_machine_in p (up_to_place s e)) i seen threads next ends
  steps_alike e i alike done = done
  steps_alike e i alike (passed c rest) = passed c (steps_alike e i alike rest)
  steps_alike e i alike (met {q = q} new is rest) = met new (alike q ∙ is) (steps_alike e i alike rest)
  steps_alike e i alike (opened {q = q} rs new is rest) = opened rs new (alike q ∙ is) (steps_alike e i alike rest)
  steps_alike e i alike (read {q = q} r new is rest) = read r new (alike q ∙ is) (steps_alike e i alike rest)

  steps_cut : (i : ℕ) → MovesStop p s i → {seen : List (ℕ × ℕ)} {threads next : List Started} {ends : List (ℕ × ℕ)} → StepsAll (byte_machine_in p s) i seen threads next ends
      → StepsAll (byte_machine_in p (up_to_place s i)) i seen threads [] ends
  steps_cut i stop done = done
  steps_cut i stop (passed c rest) = passed c (steps_cut i stop rest)
  steps_cut i stop (met {q = q} new is rest) = met new (stop q ∙ ap stopped is) (steps_cut i stop rest)
  steps_cut i stop (opened {q = q} rs new is rest) = opened rs new (stop q ∙ ap stopped is) (steps_cut i stop rest)
  steps_cut i stop (read {q = q} r new is rest) = opened [] new (stop q ∙ ap stopped is) (steps_cut i stop rest)

  step_alike : (e i : ℕ) (threads next : List Started) (ended : Option MetEnd) → MovesAlike p s e i → IsStepAll (byte_machine_in p s) i threads next ended → IsStepAll (byte_machine_in p (up_to_place s e)) i threads next ended
  step_alike e i threads next ended alike step = record { ends = step.ends; steps = steps_alike e i alike step.steps; best = step.best }

  step_cut : (i : ℕ) (threads next : List Started) (ended : Option MetEnd) → MovesStop p s i → IsStepAll (byte_machine_in p s) i threads next ended → IsStepAll (byte_machine_in p (up_to_place s i)) i threads [] ended
  step_cut i threads next ended stop step = record { ends = step.ends; steps = steps_cut i stop step.steps; best = step.best }

  started_in_part : (q e i : ℕ) (live threads : List Started) → IsInside s i → i ≤ e → HasStartedAll s q i live threads → HasStartedAll (up_to_place s e) q i live threads
  started_in_part q e i live threads inside le (inl begun) = let begins = begun.0 in inl (((inside_part s e i begins.0.0 le, begins.0.1), begins.1), begun.1)
  started_in_part q e i live threads inside le (inr waits) = inr (λ begins. waits.0 (begins_whole p s e i inside.3 begins), waits.1)

  -- ---- one offset, in the parts up to later offsets and in the part up to this one

  pub parts_passed_all : (q i : ℕ) (live threads next : List Started) (ended : Option MetEnd) (best : Option Found) → IsInside s i → HasStartedAll s q i live threads → IsStepAll (byte_machine_in p s) i threads next ended
      → All (IsStartedOf p.states) next → IsUnderWayAllInParts (course_of p s q) i live best → IsUnderWayAllInParts (course_of p s q) (i + 1) next (best_after i ended best)
  parts_passed_all q i live threads next ended best inside began step nodes parts = λ e from within.
      let lt : i < e = omega (arith, from) in
      way_passed_all p (up_to_place s e) q i live threads next ended best (started_in_part q e i live threads inside (omega (arith, from)) began)
      (step_alike e i threads next ended (moves_alike p s e i inside lt within) step) nodes (parts e (omega (arith, from)) within)

  pub part_over_all : (q i : ℕ) (live threads next : List Started) (ended : Option MetEnd) (best : Option Found) → IsInside s i → HasStartedAll s q i live threads → IsStepAll (byte_machine_in p s) i threads next ended
      → IsUnderWayAllInParts (course_of p s q) i live best → IsOverAll (course_of p (up_to_place s i) q) (best_after i ended best)
  part_over_all q i live threads next ended best inside began step parts =
      way_ended_all p (up_to_place s i) q i [] (best_after i ended best) (omega arith)
      (way_passed_all p (up_to_place s i) q i live threads [] ended best (started_in_part q i i live threads inside (omega arith) began)
      (step_cut i threads next ended (moves_stop p s i inside) step) (All-nil (IsStartedOf p.states)) (parts i (omega arith) (omega (arith, inside.1, inside.3, inside.4))))

  pub parts_begun_all : (q i : ℕ) (live : List Started) → i ≡ lowest s → live ≡ [] → IsUnderWayAllInParts (course_of p s q) i live None
  parts_begun_all q i live first none = λ e from within. way_begun_all p (up_to_place s e) q i live first none

  -- ---- no match end so far

  pub none_more_all : (q first i : ℕ) (best : Option Found) → best ≡ None → HasMetNoneAll (course_of p s q) first i → IsOverAll (course_of p (up_to_place s i) q) best → HasMetNoneAll (course_of p s q) first (i + 1)
  none_more_all q first i best unmet before here k from to = elim (below_or_not k i) [
    | inl less ↦ before k from less
    | inr le ↦ subst (λ j. IsOverAll (course_of p (up_to_place s j) q) None) (omega (arith, le, to)) (subst (λ o. IsOverAll (course_of p (up_to_place s i) q) o) unmet here)
  ]

  -- ---- the end of a search

  pub over_whole_all : (earliest : Bool) (q first i : ℕ) (best : Option Found) → (earliest ≡ true → best ≡ None) → IsOverAll (course_of p s q) best → IsOverAllAt earliest (course_of p s q) first i best
  over_whole_all false q first i best unmet all = all
  over_whole_all true q first i None unmet all = all
  over_whole_all true q first i (Some found) unmet all = absurd (cc (unmet refl))

  pub over_early_all : (q first i : ℕ) (found : Found) → found.span.end ≡ i → i ≤ highest s → IsOverAll (course_of p (up_to_place s i) q) (Some found) → HasMetNoneAll (course_of p s q) first i → IsOverAllAt true (course_of p s q) first i (Some found)
  over_early_all q first i found here le all before = (here, le, all, before)

  pub early_all : (q first i : ℕ) (before best : Option Found) → (best ≡ None → ⊥) → before ≡ None → IfSome best (λ found. before ≡ None → found.span.end ≡ i) → i ≤ highest s
      → IsOverAll (course_of p (up_to_place s i) q) best → HasMetNoneAll (course_of p s q) first i → IsOverAllAt true (course_of p s q) first i best
  early_all q first i before None some none here le all none_before = absurd (some refl)
  early_all q first i before (Some found) some none here le all none_before = over_early_all q first i found (here none) le all none_before
