-- The progress of a search in the parts of its span.
use Rattle.std.proofs.Common.{inl, inr, ◌≡◌, ◌⊎◌, ℕ, ◌+◌, ◌<◌, ◌≤◌, Bool, true, false, All, List, [], ◌∷◌, length, take, drop, min, Option, Some, None, slice_get, refl, sym, ap, subst, ◌∙◌, arith}
use Rattle.std.proofs.lemmas.List.Elements.{All-nil}
use Rattle.rx_walks.specs.Looks as walks
use Rattle.rx_walks.specs.Machines.{Move, ends, goes, reads, Outcome}
use Rattle.rx_walks.specs.Programs.{Node, match, pass, note, look, set, only_if, is_within, left_from}
use Rattle.rx_walks.specs.Bytes.{Automaton, read_on, read_byte, by_byte}
use Rattle.rx_walks.specs.Finds.{Search, up_to_place, IsInside, unanchored}
use Rattle.rx_walks.specs.ProgramFinds.{start_node, lowest, highest}
use Rattle.rx_walks.specs.Laws.{MayBegin}
use Rattle.rx_walks.specs.Steps.{Steps, done, passed, met, opened, read}
use Rattle.rx_program.specs.Programs.{ByteProgram, automata_of, character_program}
use Rattle.rx_steps.specs.Threads.{Slots, Thread, ThreadListView, IsThreadOf, no_slots}
use Rattle.rx_steps.specs.Lists.{read_next, met_at}
use Rattle.rx_steps.specs.Searching.{haystack_in}
use Rattle.rx_steps.specs.Idle.{AreIdle}
use Rattle.rx_steps.specs.Standing.{IsReached}
use Rattle.rx_steps.specs.Coming.{course_of, machine_in, HasStarted, IsUnderWay, IsUnderWayInParts, IsOver, IsOverAt, IsStopped, HasMetNone, IsFirstMet, KeepsFirst, StandsSince}
use Rattle.rx_steps.proofs.ByteLaws.{below_or_not, next_byte_is, within_is}
use Rattle.rx_steps.proofs.PlaceLaws.{reads_first}
use Rattle.rx_steps.proofs.StandLaws.{pattern_after, reached_on, started_reached, one_stands, threads_met}
use Rattle.rx_steps.proofs.WayLaws.{nothing_left, slots_after, way_passed}
use Rattle.rx_steps.proofs.OverLaws.{way_begun, way_ended}
use Rattle.rx_steps.proofs.IdleLaws.{AreSkipped, SkippedStep, skipped_step, way_skipped}

-- ---- the machine of a part

-- the offset at which it is cut is its highest one
pub part_highest : (s : Search) (e : ℕ) → e ≤ highest s → highest (up_to_place s e) ≡ e
part_highest s e le = omega (arith, le)

pub inside_part : (s : Search) (e i : ℕ) → IsInside s i → i ≤ e → IsInside (up_to_place s e) i
inside_part s e i inside le = (inside.0, inside.1, inside.2, le, inside.4)

same_byte : (content : List ℕ) (n n' i : ℕ) → i < n → i < n' → slice_get (drop i (take (min n (length content)) content)) 0 ≡ slice_get (drop i (take (min n' (length content)) content)) 0
same_byte content n n' i lt lt' = next_byte_is content n i lt ∙ sym (next_byte_is content n' i lt')

read_alike : (step : Automaton) (q r s i : ℕ) (xs ys : List ℕ) → slice_get xs 0 ≡ slice_get ys 0 → read_byte step q r s i xs ≡ read_byte step q r s i ys
read_alike step q r s i xs ys e = reads_first step q r s i xs ∙ ap (λ o. read_next step q r s i o) e ∙ sym (reads_first step q r s i ys)

-- a move without its read
abbrev pub stopped : Move (ℕ × ℕ) → Move (ℕ × ℕ)
stopped (ends k) = ends k
stopped (goes rs) = goes rs
stopped (reads r j) = goes []

stopped_read : (q r i : ℕ) (o : Option (Option ℕ)) → stopped (read_on q r i o) ≡ goes []
stopped_read q r i None = refl
stopped_read q r i (Some None) = refl
stopped_read q r i (Some (Some s)) = refl

stopped_byte : (step : Automaton) (q r s i : ℕ) (bytes : List ℕ) → stopped (read_byte step q r s i bytes) ≡ goes []
stopped_byte step q r s i [] = refl
stopped_byte step q r s i (b ∷ bytes) = stopped_read q r i (step s b)

stopped_if : (b : Bool) (rs : List (ℕ × ℕ)) → only_if b (goes rs) ≡ stopped (only_if b (goes rs))
stopped_if true rs = refl
stopped_if false rs = refl

module _ (p : ByteProgram) (s : Search) where
  -- before the end of a part a node's move is the same in it
  node_alike : {S : Type 0} (e i : ℕ) (q : ℕ × ℕ) (o : Option (Node walks.Look S))
      → slice_get (left_from (haystack_in p.line_terminator s) i) 0 ≡ slice_get (left_from (haystack_in p.line_terminator (up_to_place s e)) i) 0
      → by_byte (automata_of p) (haystack_in p.line_terminator s) i q.0 q.1 o ≡ by_byte (automata_of p) (haystack_in p.line_terminator (up_to_place s e)) i q.0 q.1 o
  node_alike e i q None same = refl
  node_alike e i q (Some (match k)) same = refl
  node_alike e i q (Some (pass rs)) same = refl
  node_alike e i q (Some (note slot r)) same = refl
  node_alike e i q (Some (look l r)) same = refl
  node_alike e i q (Some (set x r)) same = read_alike (automata_of p q.0) q.0 r q.1 i (left_from (haystack_in p.line_terminator s) i) (left_from (haystack_in p.line_terminator (up_to_place s e)) i) same

  abbrev pub MovesAlike : ℕ → ℕ → Type 0
  MovesAlike e i = (q : ℕ × ℕ) → (machine_in p (up_to_place s e)).move i q ≡ (machine_in p s).move i q

  pub moves_alike : (e i : ℕ) → IsInside s i → i < e → e ≤ highest s → MovesAlike e i
  moves_alike e i inside lt le q =
      let o = slice_get (character_program p).nodes q.0 in
      let h = haystack_in p.line_terminator s in
      let h' = haystack_in p.line_terminator (up_to_place s e) in
      let here : is_within (lowest s) (highest s) i ≡ true = within_is (lowest s) (highest s) i (omega (arith, inside.0, inside.2)) (omega (arith, lt, le)) in
      let there : is_within (lowest s) (highest (up_to_place s e)) i ≡ true = within_is (lowest s) (highest (up_to_place s e)) i (omega (arith, inside.0, inside.2)) (omega (arith, lt, part_highest s e le)) in
      let same = same_byte s.content (min s.slice_end s.end) (min s.slice_end e) i (omega (arith, lt, le)) (omega (arith, lt, le)) in
      ap (λ b. only_if b (by_byte (automata_of p) h' i q.0 q.1 o)) there ∙ sym (node_alike e i q o same) ∙ sym (ap (λ b. only_if b (by_byte (automata_of p) h i q.0 q.1 o)) here)

  -- at its end the move is the same except for reads
  node_cut : {S : Type 0} (i : ℕ) (q : ℕ × ℕ) (o : Option (Node walks.Look S)) → left_from (haystack_in p.line_terminator (up_to_place s i)) i ≡ []
      → by_byte (automata_of p) (haystack_in p.line_terminator (up_to_place s i)) i q.0 q.1 o ≡ stopped (by_byte (automata_of p) (haystack_in p.line_terminator s) i q.0 q.1 o)
  node_cut i q None none = refl
  node_cut i q (Some (match k)) none = refl
  node_cut i q (Some (pass rs)) none = refl
  node_cut i q (Some (note slot r)) none = refl
  node_cut i q (Some (look l r)) none = stopped_if ((haystack_in p.line_terminator s).holds l i) ((r, 0) ∷ [])
  node_cut i q (Some (set x r)) none = ap (λ bytes. read_byte (automata_of p q.0) q.0 r q.1 i bytes) none ∙ sym (stopped_byte (automata_of p q.0) q.0 r q.1 i (left_from (haystack_in p.line_terminator s) i))

  abbrev pub MovesStop : ℕ → Type 0
  MovesStop i = (q : ℕ × ℕ) → (machine_in p (up_to_place s i)).move i q ≡ stopped ((machine_in p s).move i q)

  pub moves_stop : (i : ℕ) → IsInside s i → MovesStop i
  moves_stop i inside q =
      let o = slice_get (character_program p).nodes q.0 in
      let h = haystack_in p.line_terminator s in
      let h' = haystack_in p.line_terminator (up_to_place s i) in
      let here : is_within (lowest s) (highest s) i ≡ true = within_is (lowest s) (highest s) i (omega (arith, inside.0, inside.2)) (omega (arith, inside.1, inside.3, inside.4)) in
      let there : is_within (lowest s) (highest (up_to_place s i)) i ≡ true = within_is (lowest s) (highest (up_to_place s i)) i (omega (arith, inside.0, inside.2)) (omega (arith, inside.1, inside.4)) in
      let none = nothing_left s.content (highest (up_to_place s i)) i (omega arith) in
      ap (λ b. only_if b (by_byte (automata_of p) h' i q.0 q.1 o)) there ∙ node_cut i q o none ∙ sym (ap (λ b. stopped (only_if b (by_byte (automata_of p) h i q.0 q.1 o))) here)

  -- ---- steps

  steps_alike : (e i : ℕ) → MovesAlike e i → {seen : List (ℕ × ℕ)} {threads next : List Thread} {ended : Option (Outcome Slots)} → Steps (machine_in p s) i seen threads next ended
      → Steps (machine_in p (up_to_place s e)) i seen threads next ended
  steps_alike e i alike done = done
  steps_alike e i alike (passed c rest) = passed c (steps_alike e i alike rest)
  steps_alike e i alike (met {q = q} new is) = met new (alike q ∙ is)
  steps_alike e i alike (opened {q = q} rs new is rest) = opened rs new (alike q ∙ is) (steps_alike e i alike rest)
  steps_alike e i alike (read {q = q} r new is rest) = read r new (alike q ∙ is) (steps_alike e i alike rest)

  steps_cut : (i : ℕ) → MovesStop i → {seen : List (ℕ × ℕ)} {threads next : List Thread} {ended : Option (Outcome Slots)} → Steps (machine_in p s) i seen threads next ended
      → Steps (machine_in p (up_to_place s i)) i seen threads [] ended
  steps_cut i stop done = done
  steps_cut i stop (passed c rest) = passed c (steps_cut i stop rest)
  steps_cut i stop (met {q = q} new is) = met new (stop q ∙ ap stopped is)
  steps_cut i stop (opened {q = q} rs new is rest) = opened rs new (stop q ∙ ap stopped is) (steps_cut i stop rest)
  steps_cut i stop (read {q = q} r new is rest) = opened [] new (stop q ∙ ap stopped is) (steps_cut i stop rest)

  pub begins_whole : (e i : ℕ) → i ≤ s.end → MayBegin (up_to_place s e) i → MayBegin s i
  begins_whole e i le begins = let inside = begins.0.0 in (((inside.0, inside.1, inside.2, le, inside.4), begins.0.1), begins.1)

  started_in_part : (q e i : ℕ) (pattern : Option ℕ) (live : ThreadListView) (threads : List Thread) → IsInside s i → i ≤ e → HasStarted s q i pattern live threads → HasStarted (up_to_place s e) q i pattern live threads
  started_in_part q e i pattern live threads inside le (inl begun) = let begins = begun.1 in inl (begun.0, ((inside_part s e i begins.0.0 le, begins.0.1), begins.1), begun.2)
  started_in_part q e i pattern live threads inside le (inr waits) = inr (λ none begins. waits.0 none (begins_whole e i inside.3 begins), waits.1)

  -- ---- one offset, in the parts up to later offsets and in the part up to this one

  pub parts_passed : (q i : ℕ) (live : ThreadListView) (threads next : List Thread) (pattern : Option ℕ) (slots : Slots) (k : Option ℕ) (noted : Slots)
      → IsInside s i → live.slot_len ≡ length slots → HasStarted s q i pattern live threads → Steps (machine_in p s) i [] threads next (met_at i k noted) → All (IsThreadOf p.states) next
      → IsUnderWayInParts (course_of p s q) i live.threads pattern slots → IsUnderWayInParts (course_of p s q) (i + 1) next (pattern_after k pattern) (slots_after k noted slots)
  parts_passed q i live threads next pattern slots k noted inside len started steps nodes parts = λ e from within.
      let lt : i < e = omega (arith, from) in
      way_passed p (up_to_place s e) q i live threads next pattern slots k noted (inside_part s e i inside (omega (arith, from))) len
      (started_in_part q e i pattern live threads inside (omega (arith, from)) started)
      (steps_alike e i (moves_alike e i inside lt within) steps) nodes (parts e (omega (arith, from)) within)

  pub part_over : (q i : ℕ) (live : ThreadListView) (threads next : List Thread) (pattern : Option ℕ) (slots : Slots) (k : Option ℕ) (noted : Slots)
      → IsInside s i → live.slot_len ≡ length slots → HasStarted s q i pattern live threads → Steps (machine_in p s) i [] threads next (met_at i k noted)
      → IsUnderWay (course_of p (up_to_place s i) q) i live.threads pattern slots → IsOver (course_of p (up_to_place s i) q) (pattern_after k pattern) (slots_after k noted slots)
  part_over q i live threads next pattern slots k noted inside len started steps way =
      way_ended p (up_to_place s i) q i [] (pattern_after k pattern) (slots_after k noted slots) (omega arith)
      (way_passed p (up_to_place s i) q i live threads [] pattern slots k noted (inside_part s i i inside (omega arith)) len
      (started_in_part q i i pattern live threads inside (omega arith) started)
      (steps_cut i (moves_stop i inside) steps) (All-nil (IsThreadOf p.states)) way)

  pub parts_begun : (q i : ℕ) (live : List Thread) (slots : Slots) → i ≡ lowest s → live ≡ [] → slots ≡ no_slots (length slots) → IsUnderWayInParts (course_of p s q) i live None slots
  parts_begun q i live slots first none empty = λ e from within. way_begun p (up_to_place s e) q i live slots first none empty

  -- ---- offsets are skipped

  pub parts_skipped : (q i j : ℕ) (idle : List Bool) (live : List Thread) (pattern : Option ℕ) (slots : Slots) → i ≤ j → lowest s ≤ i → j ≤ highest s → AreIdle p idle
      → (live ≡ [] → pattern ≡ None → (s.anchoring ≡ unanchored) × (q ≡ p.start)) → AreSkipped idle s.utf8_empty s.content i j live pattern
      → IsUnderWayInParts (course_of p s q) i live pattern slots → IsUnderWayInParts (course_of p s q) j live pattern slots
  parts_skipped q i j idle live pattern slots le low high are free skipped parts = λ e from within.
      way_skipped p (up_to_place s e) q i j idle live pattern slots le low (omega (arith, from, part_highest s e within)) are free skipped (parts e (omega (arith, le, from)) within)

  -- no match ends in the part up to such an offset
  pub none_skipped : (q i j : ℕ) (idle : List Bool) (live : List Thread) (pattern : Option ℕ) (slots : Slots) → lowest s ≤ i → j ≤ highest s → AreIdle p idle
      → (live ≡ [] → pattern ≡ None → (s.anchoring ≡ unanchored) × (q ≡ p.start)) → AreSkipped idle s.utf8_empty s.content i j live pattern
      → IsUnderWayInParts (course_of p s q) i live pattern slots → HasMetNone (course_of p s q) i j
  none_skipped q i j idle live pattern slots low high are free skipped parts k from to =
      let here = skipped k from to in
      let tied = free here.0 here.1 in
      let inside : IsInside s k = (omega (arith, low, from), omega (arith, high, to), omega (arith, low, from), omega (arith, high, to), omega (arith, high, to)) in
      let way : IsUnderWay (course_of p (up_to_place s k) q) k live pattern slots =
      way_skipped p (up_to_place s k) q i k idle live pattern slots from low (omega (arith, to, high, part_highest s k (omega (arith, to, high)))) are free
      (λ l from' to'. skipped l from' (omega (arith, to, to'))) (parts k from (omega (arith, to, high))) in
      let alone : IsUnderWay (course_of p (up_to_place s k) p.start) k [] None slots =
      subst (λ r. IsUnderWay (course_of p (up_to_place s k) r) k [] None slots) tied.1 (subst (λ o. IsUnderWay (course_of p (up_to_place s k) q) k [] o slots) here.1 (subst (λ xs. IsUnderWay (course_of p (up_to_place s k) q) k xs pattern slots) here.0 way)) in
      let one : SkippedStep p s k slots = skipped_step p s idle k slots tied.0 inside (omega (arith, high, to)) are here.2 in (
        slots,
        subst (λ r. IsOver (course_of p (up_to_place s k) r) None slots) (sym tied.1)
            (part_over p.start k (record { slot_len = length slots; threads = [] }) one.threads [] None slots None slots inside refl one.started one.steps alone),
      )

  -- ---- the end of a search

  pub none_more : (q first i j : ℕ) (pattern : Option ℕ) (slots : Slots) → HasMetNone (course_of p s q) first i → IsOver (course_of p (up_to_place s i) q) pattern slots → pattern ≡ None → HasMetNone (course_of p s q) (i + 1) j → HasMetNone (course_of p s q) first j
  none_more q first i j pattern slots before here unmet behind k from to = elim (below_or_not k i) [
    | inl less ↦ before k from less
    | inr le ↦ elim (below_or_not i k) [
      | inl more ↦ behind k (omega (arith, more)) to
      | inr same ↦ (
        slots,
        subst (λ j. IsOver (course_of p (up_to_place s j) q) None slots) (omega (arith, le, same)) (subst (λ o. IsOver (course_of p (up_to_place s i) q) o slots) unmet here),
      )
    ]
  ]

  pub over_whole : (earliest : Bool) (q first i : ℕ) (pattern : Option ℕ) (slots : Slots) → (earliest ≡ true → pattern ≡ None) → IsOver (course_of p s q) pattern slots → IsOverAt earliest (course_of p s q) first i pattern slots
  over_whole false q first i pattern slots unmet over = over
  over_whole true q first i None slots unmet over = over
  over_whole true q first i (Some k) slots unmet over = absurd (cc (unmet refl))

  pub over_early : (q first i : ℕ) (pattern : Option ℕ) (slots : Slots) → (pattern ≡ None → ⊥) → i ≤ highest s → IsOver (course_of p (up_to_place s i) q) pattern slots → HasMetNone (course_of p s q) first i → IsOverAt true (course_of p s q) first i pattern slots
  over_early q first i None slots some le over before = absurd (some refl)
  over_early q first i (Some k) slots some le over before = (le, over, before)

  -- ---- the first match end

  met_here : (q first i : ℕ) (k : ℕ) (noted : Slots) → IsInside s i → IsOver (course_of p (up_to_place s i) q) (Some k) noted → HasMetNone (course_of p s q) first i → IsFirstMet (course_of p s q) first i
  met_here q first i k noted inside over before = record { inside = omega (arith, inside.1, inside.3, inside.4); pattern = k; slots = noted; met = over; none_before = before }

  -- after a match end no thread starts
  no_start : (q i : ℕ) (k : ℕ) (live : ThreadListView) (threads : List Thread) → HasStarted s q i (Some k) live threads → threads ≡ live.threads
  no_start q i k live threads (inl begun) = absurd (cc begun.0)
  no_start q i k live threads (inr waits) = waits.1

  pub first_kept : (q first i : ℕ) (live : ThreadListView) (threads next : List Thread) (pattern : Option ℕ) (slots : Slots) (k : Option ℕ) (noted : Slots)
      → IsInside s i → HasStarted s q i pattern live threads → Steps (machine_in p s) i [] threads next (met_at i k noted) → All (IsReached (machine_in p s) s q i i) live.threads
      → IsOver (course_of p (up_to_place s i) q) (pattern_after k pattern) (slots_after k noted slots) → KeepsFirst (course_of p s q) first i pattern live.threads → KeepsFirst (course_of p s q) first (i + 1) (pattern_after k pattern) next
  first_kept q first i live threads next None slots None noted inside started steps reached over keeps =
      none_more q first i (i + 1) None slots keeps over refl (λ k from to. absurd (omega (arith, from, to)))
  first_kept q first i live threads next None slots (Some e) noted inside started steps reached over keeps =
      (i, met_here q first i e noted inside over keeps, reached_on (machine_in p s) s q i i steps (started_reached (machine_in p s) s q i None live threads started reached))
  first_kept q first i live threads next (Some o) slots None noted inside started steps reached over (end, at, all) =
      (end, at, reached_on (machine_in p s) s q end i steps (subst (λ xs. All (IsReached (machine_in p s) s q end i) xs) (sym (no_start q i o live threads started)) all))
  first_kept q first i live threads next (Some o) slots (Some e) noted inside started steps reached over (end, at, all) =
      (end, at, reached_on (machine_in p s) s q end i steps (subst (λ xs. All (IsReached (machine_in p s) s q end i) xs) (sym (no_start q i o live threads started)) all))

  pub stands_since : (q first i : ℕ) (live : ThreadListView) (threads next : List Thread) (pattern : Option ℕ) (slots : Slots) (k : Option ℕ) (noted : Slots)
      → IsInside s i → HasStarted s q i pattern live threads → Steps (machine_in p s) i [] threads next (met_at i k noted) → All (IsReached (machine_in p s) s q i i) live.threads
      → IsOver (course_of p (up_to_place s i) q) (pattern_after k pattern) (slots_after k noted slots) → start_node (character_program p) s.anchoring ≡ Some q → KeepsFirst (course_of p s q) first i pattern live.threads
      → (pattern ≡ None) ⊎ (live.threads ≡ [] → ⊥) → (pattern_after k pattern ≡ None) ⊎ StandsSince (course_of p s q) first i pattern
  stands_since q first i live threads next None slots None noted inside started steps reached over starts keeps lives = inl refl
  stands_since q first i live threads next None slots (Some e) noted inside started steps reached over starts keeps lives = inr (record {
    end = i;
    first_met = met_here q first i e noted inside over keeps;
    stands = one_stands p s q i i threads starts (threads_met (machine_in p s) i e noted threads next steps) (started_reached (machine_in p s) s q i None live threads started reached);
    now = λ _. refl;
  })
  stands_since q first i live threads next (Some o) slots k noted inside started steps reached over starts keeps (inl none) = absurd (cc none)
  stands_since q first i live threads next (Some o) slots k noted inside started steps reached over starts (end, at, all) (inr some) =
      inr (record { end = end; first_met = at; stands = one_stands p s q end i live.threads starts some all; now = λ none. absurd (cc none) })

  pub first_skipped : (q first i j : ℕ) (idle : List Bool) (live : List Thread) (pattern : Option ℕ) (slots : Slots) → i ≤ j → lowest s ≤ i → j ≤ highest s → AreIdle p idle
      → (live ≡ [] → pattern ≡ None → (s.anchoring ≡ unanchored) × (q ≡ p.start)) → AreSkipped idle s.utf8_empty s.content i j live pattern
      → IsUnderWayInParts (course_of p s q) i live pattern slots → KeepsFirst (course_of p s q) first i pattern live → KeepsFirst (course_of p s q) first j pattern live
  first_skipped q first i j idle live None slots le low high are free skipped parts keeps = λ k from to. elim (below_or_not k i) [
    | inl less ↦ keeps k from less
    | inr more ↦ none_skipped q i j idle live None slots low high are free skipped parts k more to
  ]
  first_skipped q first i j idle live (Some o) slots le low high are free skipped parts keeps = elim (below_or_not i j) [
    | inl lt ↦ absurd (cc (skipped i (omega arith) lt).1)
    | inr past ↦ subst (λ k. KeepsFirst (course_of p s q) first k (Some o) live) (omega (arith, le, past)) keeps
  ]

  pub stops_since : (earliest : Bool) (q first i at : ℕ) (pattern after : Option ℕ) → (earliest ≡ true → pattern ≡ None) → at ≡ i → (after ≡ None) ⊎ StandsSince (course_of p s q) first i pattern → (after ≡ None) ⊎ IsStopped earliest (course_of p s q) first at
  stops_since earliest q first i at pattern after unmet same (inl none) = inl none
  stops_since earliest q first i at pattern after unmet same (inr since) =
      inr (subst (λ k. IsStopped earliest (course_of p s q) first k) (sym same) (record { end = since.end; first_met = since.first_met; stands = since.stands; at_once = λ early. since.now (unmet early) }))
