-- Bytes at which no match begins, in a search for all matches.
use Rattle.std.proofs.Common.{inl, inr, ◌≡◌, ℕ, zero, suc, ◌+◌, ◌-◌, ◌<◌, ◌≤◌, Bool, List, [], ◌∷◌, ◌++◌, map, Option, Some, None, Contains, refl, sym, subst, arith}
use Rattle.std.proofs.lemmas.List.Elements.{All-nil}
use Rattle.rx_util.specs.Search.{Found}
use Rattle.rx_walks.specs.Looks as walks
use Rattle.rx_walks.specs.Machines.{Outcome}
use Rattle.rx_walks.specs.Programs.{Haystack}
use Rattle.rx_walks.specs.Finds.{Search, up_to_place, IsInside, unanchored}
use Rattle.rx_walks.specs.ProgramFinds.{lowest, highest}
use Rattle.rx_walks.specs.Steps as cut
use Rattle.rx_walks.specs.StepsAll.{StepsAll, done, passed, met, opened, read, Met, met_first}
use Rattle.rx_program.specs.Programs.{ByteProgram}
use Rattle.rx_steps.specs.declared.place.Place.{Place}
use Rattle.rx_steps.specs.declared.started.MetEnd.{MetEnd}
use Rattle.rx_steps.specs.Threads.{Slots, Thread, first_node}
use Rattle.rx_steps.specs.Lists.{Asks, IsNextList, slot_machine}
use Rattle.rx_steps.specs.Searching.{haystack_in}
use Rattle.rx_steps.specs.Idle.{IsIdle, AreIdle, IsPassedAt}
use Rattle.rx_steps.specs.ListsAll.{Started, IsStartedOf, IsNextListAll, IsStepAll, byte_machine}
use Rattle.rx_steps.specs.Coming.{course_of}
use Rattle.rx_steps.specs.ComingAll.{byte_machine_in, HasMetNoneAll, HasStartedAll, IsOverAll, IsUnderWayAll, IsUnderWayAllInParts}
use Rattle.rx_steps.proofs.ByteLaws.{below_or_not}
use Rattle.rx_steps.proofs.EndLaws.{none_met}
use Rattle.rx_steps.proofs.IdleLaws.{is_idle, skipped_step}
use Rattle.rx_steps.proofs.PartLaws.{part_highest}
use Rattle.rx_steps.proofs.AllComeLaws.{way_passed_all}
use Rattle.rx_steps.proofs.AllPartLaws.{part_over_all}

-- ---- a step that leads nowhere, with a cut and without one

-- threads at the same nodes
abbrev SameNodes : List Started → List Thread → Type 0
SameNodes [] [] = Unit {0}
SameNodes (t ∷ ts) (u ∷ us) = (t.1 ≡ u.1) × SameNodes ts us
SameNodes _ _ = ⊥

same_targets : (s : ℕ) (n : Slots) (rs : List (ℕ × ℕ)) (ts : List Started) (us : List Thread) → SameNodes ts us → SameNodes (map (λ r. (s, r)) rs ++ ts) (map (λ r. (n, r)) rs ++ us)
same_targets s n [] ts us same = same
same_targets s n (r ∷ rs) ts us same = (refl, same_targets s n rs ts us same)

module _ (p : ByteProgram) (h : Haystack walks.Look) (i : ℕ) where
  -- without a match end and reads there is nothing to cut
  as_cut : {seen : List (ℕ × ℕ)} {threads next : List Started} {ends : List (ℕ × ℕ)} → StepsAll (byte_machine p h) i seen threads next ends → next ≡ [] → ((s k : ℕ) → Met s k ends → ⊥)
      → (others : List Thread) → SameNodes threads others → cut.Steps (slot_machine p h) i seen others [] None
  as_cut done none never [] same = cut.done
  as_cut done none never (u ∷ us) same = absurd same
  as_cut (passed c rest) none never [] same = absurd same
  as_cut (passed {seen = seen} c rest) none never ((n, r) ∷ us) same = cut.passed (subst (λ x. Contains seen x) same.0 c) (as_cut rest none never us same.1)
  as_cut (met {s = s} {p = k} new is rest) none never others same = absurd (never s k (met_first refl refl))
  as_cut (opened rs new is rest) none never [] same = absurd same
  as_cut (opened {seen = seen} {s = s} {q = q} {others = left} rs new is rest) none never ((n, r) ∷ us) same =
      let noted = (slot_machine p h).note i q n in
      subst (λ x. cut.Steps (slot_machine p h) i seen ((n, x) ∷ us) [] None) same.0
      (cut.opened rs new is (as_cut rest none never (map (λ r. (noted, r)) rs ++ us) (same_targets s noted rs left us same.1)))
  as_cut (read r new is rest) none never others same = absurd (cc none)

  as_all : {seen : List (ℕ × ℕ)} {threads next : List Thread} {ended : Option (Outcome Slots)} → cut.Steps (slot_machine p h) i seen threads next ended → next ≡ [] → ended ≡ None
      → (others : List Started) → SameNodes others threads → StepsAll (byte_machine p h) i seen others [] []
  as_all cut.done none unmet [] same = done
  as_all cut.done none unmet (u ∷ us) same = absurd same
  as_all (cut.passed c rest) none unmet [] same = absurd same
  as_all (cut.passed {seen = seen} c rest) none unmet ((s, r) ∷ us) same = passed (subst (λ x. Contains seen x) (sym same.0) c) (as_all rest none unmet us same.1)
  as_all (cut.met new is) none unmet others same = absurd (cc unmet)
  as_all (cut.opened rs new is rest) none unmet [] same = absurd same
  as_all (cut.opened {seen = seen} {n = n} {q = q} {others = left} rs new is rest) none unmet ((s, r) ∷ us) same =
      let noted = (slot_machine p h).note i q n in
      subst (λ x. StepsAll (byte_machine p h) i seen ((s, x) ∷ us) [] []) (sym same.0)
      (opened rs new is (as_all rest none unmet (map (λ r. (s, r)) rs ++ us) (same_targets s noted rs us left same.1)))
  as_all (cut.read r new is rest) none unmet others same = absurd (cc none)

-- if a step of one thread at the start leads nowhere, its byte is idle
pub is_idle_all : (p : ByteProgram) (place : Place) (b start : ℕ) (threads next : List Started) (ended : Option MetEnd) → IsNextListAll p place threads next ended → threads ≡ (start, first_node p.start) ∷ [] → next ≡ [] → ended ≡ None
    → place.byte ≡ Some b → ((l : walks.Look) → Asks p.states l → ⊥) → IsIdle p b
is_idle_all p place b start threads next ended list are none unmet byte never =
    is_idle p place b (([], first_node p.start) ∷ []) [] None [] [] cut_list refl refl refl byte never
  where
    cut_list : IsNextList p place (([], first_node p.start) ∷ []) [] None []
    cut_list h i here =
        let step : IsStepAll (byte_machine p h) i ((start, first_node p.start) ∷ []) next None =
        subst (λ o. IsStepAll (byte_machine p h) i ((start, first_node p.start) ∷ []) next o) unmet (subst (λ xs. IsStepAll (byte_machine p h) i xs next ended) are (list h i here)) in
        as_cut p h i step.steps none step.best (([], first_node p.start) ∷ []) (refl, tt)

-- ---- idle bytes can be skipped

-- the step at an offset that is skipped, with a thread that starts there or without one
record SkippedStepAll (p : ByteProgram) (s : Search) (i : ℕ) : Type 0 where
  threads : List Started
  began : HasStartedAll s p.start i [] threads
  step : IsStepAll (byte_machine_in p s) i threads [] None

skipped_step_all : (p : ByteProgram) (s : Search) (idle : List Bool) (i : ℕ) → s.anchoring ≡ unanchored → IsInside s i → i < highest s → AreIdle p idle → IsPassedAt idle s.utf8_empty s.content i → SkippedStepAll p s i
skipped_step_all p s idle i free inside lt are passed_over =
    let one = skipped_step p s idle i [] free inside lt are passed_over in
    elim one.started [
      | inl begun ↦ record {
        threads = (i, (p.start, 0)) ∷ [];
        began = inl (begun.1, refl);
        step = record {
          ends = [];
          steps = as_all p (haystack_in p.line_terminator s) i one.steps refl refl ((i, (p.start, 0)) ∷ []) (subst (λ ts. SameNodes ((i, (p.start, 0)) ∷ []) ts) (sym begun.2) (refl, tt));
          best = none_met;
        };
      }
      | inr waits ↦ record { threads = []; began = inr (waits.0 refl, refl); step = record { ends = []; steps = done; best = none_met } }
    ]

one_skipped : (p : ByteProgram) (s : Search) (idle : List Bool) (i : ℕ) (best : Option Found) → s.anchoring ≡ unanchored → IsInside s i → i < highest s → AreIdle p idle → IsPassedAt idle s.utf8_empty s.content i
    → IsUnderWayAll (course_of p s p.start) i [] best → IsUnderWayAll (course_of p s p.start) (i + 1) [] best
one_skipped p s idle i best free inside lt are passed_over way =
    let one = skipped_step_all p s idle i free inside lt are passed_over in
    way_passed_all p s p.start i [] one.threads [] None best one.began one.step (All-nil (IsStartedOf p.states)) way

many_skipped : (p : ByteProgram) (s : Search) (idle : List Bool) (n i : ℕ) (best : Option Found) → s.anchoring ≡ unanchored → AreIdle p idle → lowest s ≤ i → i + n ≤ highest s
    → ((k : ℕ) → i ≤ k → k < i + n → IsPassedAt idle s.utf8_empty s.content k) → IsUnderWayAll (course_of p s p.start) i [] best → IsUnderWayAll (course_of p s p.start) (i + n) [] best
many_skipped p s idle zero i best free are low high each way = subst (λ j. IsUnderWayAll (course_of p s p.start) j [] best) (omega arith) way
many_skipped p s idle (suc n) i best free are low high each way =
    let inside : IsInside s i = (omega (arith, low), omega (arith, high), omega (arith, low), omega (arith, high), omega (arith, high)) in
    let on = one_skipped p s idle i best free inside (omega (arith, high)) are (each i (omega arith) (omega arith)) way in
    let more : i + 1 + n ≡ i + suc n = omega arith in
    subst (λ j. IsUnderWayAll (course_of p s p.start) j [] best) more
    (many_skipped p s idle n (i + 1) best free are (omega (arith, low)) (omega (arith, high)) (λ k from to. each k (omega (arith, from)) (omega (arith, to))) on)

-- what a search knows of the offsets from `i` to `j`, all of which it skips
abbrev pub AreSkippedAll : List Bool → Bool → List ℕ → ℕ → ℕ → List Started → Type 0
AreSkippedAll idle utf8_empty content i j live = (k : ℕ) → i ≤ k → k < j → (live ≡ []) × IsPassedAt idle utf8_empty content k

-- how threads start while there is none
abbrev pub StartsFree : ByteProgram → Search → ℕ → List Started → Type 0
StartsFree p s q live = live ≡ [] → (s.anchoring ≡ unanchored) × (q ≡ p.start)

pub way_skipped_all : (p : ByteProgram) (s : Search) (q i j : ℕ) (idle : List Bool) (live : List Started) (best : Option Found) → i ≤ j → lowest s ≤ i → j ≤ highest s → AreIdle p idle → StartsFree p s q live
    → AreSkippedAll idle s.utf8_empty s.content i j live → IsUnderWayAll (course_of p s q) i live best → IsUnderWayAll (course_of p s q) j live best
way_skipped_all p s q i j idle live best le low high are free skipped way = elim (below_or_not i j) [
  | inr past ↦ subst (λ k. IsUnderWayAll (course_of p s q) k live best) (omega (arith, le, past)) way
  | inl lt ↦
      let none : live ≡ [] = (skipped i (omega arith) lt).0 in
      let tied = free none in
      let at_start : IsUnderWayAll (course_of p s p.start) i [] best = subst (λ r. IsUnderWayAll (course_of p s r) i [] best) tied.1 (subst (λ xs. IsUnderWayAll (course_of p s q) i xs best) none way) in
      let so_many : i + (j - i) ≡ j = omega (arith, le) in
      let there : IsUnderWayAll (course_of p s p.start) j [] best = subst (λ k. IsUnderWayAll (course_of p s p.start) k [] best) so_many
      (many_skipped p s idle (j - i) i best tied.0 are low (omega (arith, le, high)) (λ k from to. (skipped k from (omega (arith, to, so_many))).1) at_start) in
      subst (λ xs. IsUnderWayAll (course_of p s q) j xs best) (sym none) (subst (λ r. IsUnderWayAll (course_of p s r) j [] best) (sym tied.1) there)
]

-- the search is under way in the parts of the span up to later offsets
pub parts_skipped_all : (p : ByteProgram) (s : Search) (q i j : ℕ) (idle : List Bool) (live : List Started) (best : Option Found) → i ≤ j → lowest s ≤ i → j ≤ highest s → AreIdle p idle → StartsFree p s q live
    → AreSkippedAll idle s.utf8_empty s.content i j live → IsUnderWayAllInParts (course_of p s q) i live best → IsUnderWayAllInParts (course_of p s q) j live best
parts_skipped_all p s q i j idle live best le low high are free skipped parts = λ e from within.
    way_skipped_all p (up_to_place s e) q i j idle live best le low (omega (arith, from, part_highest s e within)) are free skipped (parts e (omega (arith, le, from)) within)

-- and no match ends in the part up to such an offset
pub none_skipped_all : (p : ByteProgram) (s : Search) (q first i j : ℕ) (idle : List Bool) (live : List Started) → lowest s ≤ i → j ≤ highest s → AreIdle p idle → StartsFree p s q live
    → AreSkippedAll idle s.utf8_empty s.content i j live → IsUnderWayAllInParts (course_of p s q) i live None → HasMetNoneAll (course_of p s q) first i → HasMetNoneAll (course_of p s q) first j
none_skipped_all p s q first i j idle live low high are free skipped parts before k since to = elim (below_or_not k i) [
  | inl less ↦ before k since less
  | inr from ↦
      let here = skipped k from to in
      let tied = free here.0 in
      let inside : IsInside s k = (omega (arith, low, from), omega (arith, high, to), omega (arith, low, from), omega (arith, high, to), omega (arith, high, to)) in
      let ways : IsUnderWayAllInParts (course_of p s q) k live None = parts_skipped_all p s q i k idle live None from low (omega (arith, high, to)) are free (λ l from' to'. skipped l from' (omega (arith, to, to'))) parts in
      let alone : IsUnderWayAllInParts (course_of p s p.start) k [] None = subst (λ r. IsUnderWayAllInParts (course_of p s r) k [] None) tied.1 (subst (λ xs. IsUnderWayAllInParts (course_of p s q) k xs None) here.0 ways) in
      let one = skipped_step_all p s idle k tied.0 inside (omega (arith, high, to)) are here.1 in
      subst (λ r. IsOverAll (course_of p (up_to_place s k) r) None) (sym tied.1) (part_over_all p s p.start k [] one.threads [] None None inside one.began one.step alone)
]
