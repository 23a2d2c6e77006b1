use Rattle.std.proofs.Common.{◌≡◌, ◌⊎◌, ℕ, ◌+◌, [], List, length, Option, None, sym, ap, subst, ◌∙◌, arith}
use Rattle.rx_walks.specs.Finds.{up_to_place}
use Rattle.rx_walks.specs.Steps.{Steps}
use Rattle.rx_steps.specs.Threads.{Slots, Thread}
use Rattle.rx_steps.specs.Lists.{met_at}
use Rattle.rx_steps.specs.Searching.{search_of}
use Rattle.rx_steps.specs.Coming.{course_of, machine_in, IsUnderWay, IsUnderWayInParts, IsOver, KeepsFirst, StandsSince}
use Rattle.rx_steps.proofs.StandLaws.{pattern_after}
use Rattle.rx_steps.proofs.WayLaws.{way_passed, noted_len, slots_after}
use Rattle.rx_steps.proofs.PartLaws.{parts_passed, part_over, first_kept, stands_since}
use Rattle.rx_steps.proofs.search.Walks.visit.Goals as goal
use Rattle.rx_steps.proofs.search.Walks.visit.Goals.{in-Some, in_default}

-- the fields after the step are the step's results
record CameTo (threads next : List Thread) (met met' : Option ℕ) (slots slots' : Slots) : Type 0 where
  threads_are : threads ≡ next
  met_is : met ≡ met'
  slots_are : slots ≡ slots'

arrive : (P : List Thread → Option ℕ → Slots → Type 0) (next next' : List Thread) (met met' : Option ℕ) (slots slots' : Slots) → CameTo next' next met' met slots' slots → P next met slots → P next' met' slots'
arrive P next next' met met' slots slots' came is =
    subst (λ xs. P xs met' slots') (sym came.threads_are) (subst (λ k. P next k slots') (sym came.met_is) (subst (λ xs. P next met xs) (sym came.slots_are) is))

pub copy_from_slice-requires : goal.copy_from_slice-requires
copy_from_slice-requires g c =
    let p = c.args.program.now in
    let s = search_of c.args.utf8_empty c.args.input.now in
    let i = c.args.input.now.position in
    let threads = c.start_walk.new.self.live.threads in
    let next = c.pass.new.self.live.threads in
    let noted = c.pass.new.self.stepper.slots in
    noted_len p s c.args.start i c.args.self.now.live threads next c.args.self.now.met c.args.slots.now c.in-Some.pattern noted c.requires.slot_len c.in_ok-start_walk.ensures.started
    (subst (λ k. Steps (machine_in p s) i [] threads next (met_at i k noted)) c.in-Some.is (c.in_ok-pattern.ensures.steps c.args.utf8_empty c.requires.inside)) c.requires.way.slot_lens
    ∙ ap length (sym c.slots.ensures)

pub returns-clause-way : goal.returns-clause-way
returns-clause-way g c =
    let p = c.args.program.now in
    let s = search_of c.args.utf8_empty c.args.input.now in
    let q = c.args.start in
    let i = c.args.input.now.position in
    let next = c.pass.new.self.live.threads in
    let noted = c.pass.new.self.stepper.slots in
    let k = c.in_ok-pattern.field-0 in
    let before = c.args.self.now.met in
    let slots = c.args.slots.now in
    let came : CameTo c.match-branch-3.self.live.threads next c.match-branch-3.self.met (pattern_after k before) c.match-branch-3.slots (slots_after k noted slots) = elim c.match-branch-3.branch [
      | in-Some w ↦ record {
        threads_are = ap (λ x. x.live.threads) w.self-is;
        met_is = ap (λ x. x.met) w.self-is ∙ sym (ap (λ y. pattern_after y before) w.in-Some.is);
        slots_are = w.slots-is ∙ w.copy_from_slice.ensures.after ∙ w.slots.ensures ∙ sym (ap (λ y. slots_after y noted slots) w.in-Some.is);
      }
      | in_default w ↦ record {
        threads_are = ap (λ x. x.live.threads) w.self-is;
        met_is = ap (λ x. x.met) w.self-is ∙ c.in_ok-pattern.ensures.met ∙ c.in_ok-start_walk.ensures.met ∙ sym (ap (λ y. pattern_after y before) w.in_default.is);
        slots_are = w.slots-is ∙ sym (ap (λ y. slots_after y noted slots) w.in_default.is);
      }
    ] in
    let steps = c.in_ok-pattern.ensures.steps c.args.utf8_empty c.requires.inside in
    arrive (λ xs o n. IsUnderWay (course_of p s q) (i + 1) xs o n) next c.match-branch-3.self.live.threads (pattern_after k before) c.match-branch-3.self.met (slots_after k noted slots) c.match-branch-3.slots came
    (way_passed p s q i c.args.self.now.live c.start_walk.new.self.live.threads next before slots k noted c.requires.inside c.requires.slot_len c.in_ok-start_walk.ensures.started steps
    c.in_ok-pattern.ensures.threads c.requires.way)

pub returns-clause-parts : goal.returns-clause-parts
returns-clause-parts g c =
    let p = c.args.program.now in
    let s = search_of c.args.utf8_empty c.args.input.now in
    let q = c.args.start in
    let i = c.args.input.now.position in
    let next = c.pass.new.self.live.threads in
    let noted = c.pass.new.self.stepper.slots in
    let k = c.in_ok-pattern.field-0 in
    let before = c.args.self.now.met in
    let slots = c.args.slots.now in
    let came : CameTo c.match-branch-3.self.live.threads next c.match-branch-3.self.met (pattern_after k before) c.match-branch-3.slots (slots_after k noted slots) = elim c.match-branch-3.branch [
      | in-Some w ↦ record {
        threads_are = ap (λ x. x.live.threads) w.self-is;
        met_is = ap (λ x. x.met) w.self-is ∙ sym (ap (λ y. pattern_after y before) w.in-Some.is);
        slots_are = w.slots-is ∙ w.copy_from_slice.ensures.after ∙ w.slots.ensures ∙ sym (ap (λ y. slots_after y noted slots) w.in-Some.is);
      }
      | in_default w ↦ record {
        threads_are = ap (λ x. x.live.threads) w.self-is;
        met_is = ap (λ x. x.met) w.self-is ∙ c.in_ok-pattern.ensures.met ∙ c.in_ok-start_walk.ensures.met ∙ sym (ap (λ y. pattern_after y before) w.in_default.is);
        slots_are = w.slots-is ∙ sym (ap (λ y. slots_after y noted slots) w.in_default.is);
      }
    ] in
    let steps = c.in_ok-pattern.ensures.steps c.args.utf8_empty c.requires.inside in
    arrive (λ xs o n. IsUnderWayInParts (course_of p s q) (i + 1) xs o n) next c.match-branch-3.self.live.threads (pattern_after k before) c.match-branch-3.self.met (slots_after k noted slots) c.match-branch-3.slots came
    (parts_passed p s q i c.args.self.now.live c.start_walk.new.self.live.threads next before slots k noted c.requires.inside c.requires.slot_len c.in_ok-start_walk.ensures.started steps
    c.in_ok-pattern.ensures.threads c.requires.parts)

pub returns-clause-so_far : goal.returns-clause-so_far
returns-clause-so_far g c =
    let p = c.args.program.now in
    let s = search_of c.args.utf8_empty c.args.input.now in
    let q = c.args.start in
    let i = c.args.input.now.position in
    let next = c.pass.new.self.live.threads in
    let noted = c.pass.new.self.stepper.slots in
    let k = c.in_ok-pattern.field-0 in
    let before = c.args.self.now.met in
    let slots = c.args.slots.now in
    let came : CameTo c.match-branch-3.self.live.threads next c.match-branch-3.self.met (pattern_after k before) c.match-branch-3.slots (slots_after k noted slots) = elim c.match-branch-3.branch [
      | in-Some w ↦ record {
        threads_are = ap (λ x. x.live.threads) w.self-is;
        met_is = ap (λ x. x.met) w.self-is ∙ sym (ap (λ y. pattern_after y before) w.in-Some.is);
        slots_are = w.slots-is ∙ w.copy_from_slice.ensures.after ∙ w.slots.ensures ∙ sym (ap (λ y. slots_after y noted slots) w.in-Some.is);
      }
      | in_default w ↦ record {
        threads_are = ap (λ x. x.live.threads) w.self-is;
        met_is = ap (λ x. x.met) w.self-is ∙ c.in_ok-pattern.ensures.met ∙ c.in_ok-start_walk.ensures.met ∙ sym (ap (λ y. pattern_after y before) w.in_default.is);
        slots_are = w.slots-is ∙ sym (ap (λ y. slots_after y noted slots) w.in_default.is);
      }
    ] in
    let steps = c.in_ok-pattern.ensures.steps c.args.utf8_empty c.requires.inside in
    let inside = c.requires.inside in
    arrive (λ xs o n. IsOver (course_of p (up_to_place s i) q) o n) next c.match-branch-3.self.live.threads (pattern_after k before) c.match-branch-3.self.met (slots_after k noted slots) c.match-branch-3.slots came
    (part_over p s q i c.args.self.now.live c.start_walk.new.self.live.threads next before slots k noted inside c.requires.slot_len c.in_ok-start_walk.ensures.started steps
    (c.requires.parts i (omega arith) (omega (arith, inside.1, inside.3, inside.4))))

pub returns-clause-first : goal.returns-clause-first
returns-clause-first g c = λ first keeps.
    let p = c.args.program.now in
    let s = search_of c.args.utf8_empty c.args.input.now in
    let q = c.args.start in
    let i = c.args.input.now.position in
    let next = c.pass.new.self.live.threads in
    let noted = c.pass.new.self.stepper.slots in
    let k = c.in_ok-pattern.field-0 in
    let before = c.args.self.now.met in
    let slots = c.args.slots.now in
    let came : CameTo c.match-branch-3.self.live.threads next c.match-branch-3.self.met (pattern_after k before) c.match-branch-3.slots (slots_after k noted slots) = elim c.match-branch-3.branch [
      | in-Some w ↦ record {
        threads_are = ap (λ x. x.live.threads) w.self-is;
        met_is = ap (λ x. x.met) w.self-is ∙ sym (ap (λ y. pattern_after y before) w.in-Some.is);
        slots_are = w.slots-is ∙ w.copy_from_slice.ensures.after ∙ w.slots.ensures ∙ sym (ap (λ y. slots_after y noted slots) w.in-Some.is);
      }
      | in_default w ↦ record {
        threads_are = ap (λ x. x.live.threads) w.self-is;
        met_is = ap (λ x. x.met) w.self-is ∙ c.in_ok-pattern.ensures.met ∙ c.in_ok-start_walk.ensures.met ∙ sym (ap (λ y. pattern_after y before) w.in_default.is);
        slots_are = w.slots-is ∙ sym (ap (λ y. slots_after y noted slots) w.in_default.is);
      }
    ] in
    let steps = c.in_ok-pattern.ensures.steps c.args.utf8_empty c.requires.inside in
    let inside = c.requires.inside in
    let over = part_over p s q i c.args.self.now.live c.start_walk.new.self.live.threads next before slots k noted inside c.requires.slot_len c.in_ok-start_walk.ensures.started steps
    (c.requires.parts i (omega arith) (omega (arith, inside.1, inside.3, inside.4))) in
    arrive (λ xs o n. KeepsFirst (course_of p s q) first (i + 1) o xs) next c.match-branch-3.self.live.threads (pattern_after k before) c.match-branch-3.self.met (slots_after k noted slots) c.match-branch-3.slots came
    (first_kept p s q first i c.args.self.now.live c.start_walk.new.self.live.threads next before slots k noted inside c.in_ok-start_walk.ensures.started steps c.requires.way.reached over keeps)

pub returns-clause-stands : goal.returns-clause-stands
returns-clause-stands g c = λ first starts keeps lives.
    let p = c.args.program.now in
    let s = search_of c.args.utf8_empty c.args.input.now in
    let q = c.args.start in
    let i = c.args.input.now.position in
    let next = c.pass.new.self.live.threads in
    let noted = c.pass.new.self.stepper.slots in
    let k = c.in_ok-pattern.field-0 in
    let before = c.args.self.now.met in
    let slots = c.args.slots.now in
    let came : CameTo c.match-branch-3.self.live.threads next c.match-branch-3.self.met (pattern_after k before) c.match-branch-3.slots (slots_after k noted slots) = elim c.match-branch-3.branch [
      | in-Some w ↦ record {
        threads_are = ap (λ x. x.live.threads) w.self-is;
        met_is = ap (λ x. x.met) w.self-is ∙ sym (ap (λ y. pattern_after y before) w.in-Some.is);
        slots_are = w.slots-is ∙ w.copy_from_slice.ensures.after ∙ w.slots.ensures ∙ sym (ap (λ y. slots_after y noted slots) w.in-Some.is);
      }
      | in_default w ↦ record {
        threads_are = ap (λ x. x.live.threads) w.self-is;
        met_is = ap (λ x. x.met) w.self-is ∙ c.in_ok-pattern.ensures.met ∙ c.in_ok-start_walk.ensures.met ∙ sym (ap (λ y. pattern_after y before) w.in_default.is);
        slots_are = w.slots-is ∙ sym (ap (λ y. slots_after y noted slots) w.in_default.is);
      }
    ] in
    let steps = c.in_ok-pattern.ensures.steps c.args.utf8_empty c.requires.inside in
    let inside = c.requires.inside in
    let over = part_over p s q i c.args.self.now.live c.start_walk.new.self.live.threads next before slots k noted inside c.requires.slot_len c.in_ok-start_walk.ensures.started steps
    (c.requires.parts i (omega arith) (omega (arith, inside.1, inside.3, inside.4))) in
    arrive (λ xs o n. (o ≡ None) ⊎ StandsSince (course_of p s q) first i before) next c.match-branch-3.self.live.threads (pattern_after k before) c.match-branch-3.self.met (slots_after k noted slots) c.match-branch-3.slots came
    (stands_since p s q first i c.args.self.now.live c.start_walk.new.self.live.threads next before slots k noted inside c.in_ok-start_walk.ensures.started steps c.requires.way.reached over starts keeps lives)
