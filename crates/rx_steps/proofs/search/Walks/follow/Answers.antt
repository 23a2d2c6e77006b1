use Rattle.std.proofs.Common.{List, inl, ◌≡◌, ◌⊎◌, ℕ, ◌+◌, ◌-◌, length, ◌<◌, ◌≤◌, [], Option, Some, None, false, true, IsTrue, refl, sym, ap, subst, ◌∙◌, arith}
use Rattle.std.specs.Option.{is_some}
use Rattle.rx_program.specs.Programs.{ByteProgram, character_program}
use Rattle.rx_walks.specs.Finds.{Search, IsInside, up_to_place, unanchored, is_anchored}
use Rattle.rx_walks.specs.ProgramFinds.{start_node, lowest, highest}
use Rattle.rx_steps.specs.Threads.{Thread}
use Rattle.rx_steps.specs.Searching.{search_of, anchoring_of}
use Rattle.rx_steps.specs.Caches.{place_count}
use Rattle.rx_steps.specs.Coming.{course_of, IsUnderWay, IsUnderWayInParts, IsOver, IsOverAt, KeepsFirst, StandsSince}
use Rattle.rx_steps.specs.Nodes.{node_count}
use Rattle.rx_steps.proofs.WorkLaws.{none_done, one_more, is_among_places, next_done, come_so_far}
use Rattle.rx_steps.proofs.IdleLaws.{AreSkipped, no_value, unanchored_start, way_skipped}
use Rattle.rx_steps.proofs.OverLaws.{same_search, way_begun, way_over, way_ended}
use Rattle.rx_steps.proofs.PartLaws.{parts_begun, parts_skipped, first_skipped, stops_since, over_whole, over_early}
use Rattle.rx_steps.proofs.search.Walks.follow.Goals as goal
use Rattle.rx_steps.proofs.search.Walks.follow.Goals.{else-earliest-via-then-earliest+else-is_some, else-earliest-via-else-earliest, then-are_over-via-then-are_over, then-are_over-via-else-are_over+then-not-go_on}

pub loop-self-init : goal.loop-self-init
loop-self-init g c = record {
  made = c.requires.made;
  inside = c.requires.inside;
  slot_len = ap (λ t. t.slot_len) c.clear.ensures;
  way = way_begun c.args.program.now (search_of c.args.utf8_empty c.args.input.now) c.args.start c.args.input.now.position c.clear.new.self.threads c.args.slots.now
      c.requires.first (ap (λ t. t.threads) c.clear.ensures) c.requires.empty;
  parts = parts_begun c.args.program.now (search_of c.args.utf8_empty c.args.input.now) c.args.start c.args.input.now.position c.clear.new.self.threads c.args.slots.now
      c.requires.first (ap (λ t. t.threads) c.clear.ensures) c.requires.empty;
  unmet = λ early. refl;
  first = λ k from to. absurd (omega (arith, from, to));
  lives = inl refl;
  same = record { content = refl; is_sized = refl };
  asked = refl;
  work = none_done (node_count c.args.program.now) c.args.self.now.stepper.followed c.args.input.now.position;
}

pub returns-in_err-visit-clause-work : goal.returns-in_err-visit-clause-work
returns-in_err-visit-clause-work g c =
    let s = search_of c.args.utf8_empty c.args.input.now in
    let first = c.args.input.now.position in
    let i = c.loop-self.input.position in
    one_more (node_count c.args.program.now) c.args.self.now.stepper.followed c.loop-self.self.stepper.followed c.visit.new.self.stepper.followed (i - first) (place_count s)
    c.loop-self.invariant.work c.in_err-visit.ensures.work (is_among_places s first i c.requires.first c.loop-self.invariant.inside)

pub returns-then-are_over-clause-work : goal.returns-then-are_over-clause-work
returns-then-are_over-clause-work g c =
    let s = search_of c.args.utf8_empty c.args.input.now in
    let first = c.args.input.now.position in
    let i = c.loop-self.input.position in
    one_more (node_count c.args.program.now) c.args.self.now.stepper.followed c.loop-self.self.stepper.followed c.visit.new.self.stepper.followed (i - first) (place_count s)
    c.loop-self.invariant.work c.in_ok-visit.ensures.work (is_among_places s first i c.requires.first c.loop-self.invariant.inside)

pub returns-then-are_over-clause-over : goal.returns-then-are_over-clause-over
returns-then-are_over-clause-over g c =
    let p = c.args.program.now in
    let b = c.args.utf8_empty in
    let s = search_of b c.args.input.now in
    let q = c.args.start in
    let i = c.loop-self.input.position in
    let before = c.loop-self.input in
    let after = c.visit.new.input in
    let self = c.visit.new.self in
    let same : search_of b before ≡ s = same_search b before c.args.input.now c.loop-self.invariant.same.content c.loop-self.invariant.asked in
    let asked : after.asked ≡ c.args.input.now.asked = c.in_ok-visit.ensures.same.asked_is ∙ c.loop-self.invariant.asked in
    let same' : search_of b after ≡ s = same_search b after c.args.input.now (c.in_ok-visit.ensures.same.same.content ∙ c.loop-self.invariant.same.content) asked in
    let way : IsUnderWay (course_of p s q) (i + 1) self.live.threads self.met c.visit.new.slots = subst (λ x. IsUnderWay (course_of p x q) (i + 1) self.live.threads self.met c.visit.new.slots) same c.in_ok-visit.ensures.way in
    let unmet : c.args.earliest ≡ true → self.met ≡ None = λ early. elim c.else-earliest.branch [
      | else-earliest-via-then-earliest+else-is_some w ↦ no_value self.met (sym w.is_some.ensures ∙ w.if-is_some.false)
      | else-earliest-via-else-earliest w ↦ absurd (cc (sym early ∙ w.if-earliest.false))
    ] in
    over_whole p s c.args.earliest q c.args.input.now.position c.then-are_over.input.position self.met c.visit.new.slots unmet
    (elim c.then-are_over.branch [
      | then-are_over-via-then-are_over w ↦ way_over p s q i self.live.threads self.met c.visit.new.slots c.loop-self.invariant.inside (c.are_over.ensures.live w.if-are_over.true)
          (λ unmet. subst (λ x. IsTrue (is_anchored (anchoring_of x))) (c.get_anchored.ensures ∙ ap (λ x. x.anchored) asked) (c.are_over.ensures.starts w.if-are_over.true unmet)) way
      | then-are_over-via-else-are_over+then-not-go_on w ↦
          let past : highest (search_of b after) < after.position + 1 = w.go_on.ensures.last w.if-not-go_on.true in
          way_ended p s q i self.live.threads self.met c.visit.new.slots
          (subst (λ j. highest s < j + 1) c.in_ok-visit.ensures.same.position_is (subst (λ x. highest x < after.position + 1) same' past)) way
    ])

-- after a match end, there is a thread at the offset that was visited
visit_stands : (p : ByteProgram) (s t : Search) (q first i : ℕ) (before met : Option ℕ) (live : List Thread) → t ≡ s → start_node (character_program p) s.anchoring ≡ Some q
    → (start_node (character_program p) t.anchoring ≡ Some q → KeepsFirst (course_of p t q) first i before live → (met ≡ None) ⊎ StandsSince (course_of p t q) first i before) → KeepsFirst (course_of p s q) first i before live
    → (met ≡ None) ⊎ StandsSince (course_of p s q) first i before
visit_stands p s t q first i before met live same starts is keeps =
    subst (λ x. (met ≡ None) ⊎ StandsSince (course_of p x q) first i before) same (is (subst (λ x. start_node (character_program p) x.anchoring ≡ Some q) (sym same) starts) (subst (λ x. KeepsFirst (course_of p x q) first i before live) (sym same) keeps))

pub returns-then-are_over-clause-stands : goal.returns-then-are_over-clause-stands
returns-then-are_over-clause-stands g c =
    let p = c.args.program.now in
    let b = c.args.utf8_empty in
    let s = search_of b c.args.input.now in
    let i = c.loop-self.input.position in
    let before = c.loop-self.input in
    let same : search_of b before ≡ s = same_search b before c.args.input.now c.loop-self.invariant.same.content c.loop-self.invariant.asked in
    let at : c.then-are_over.input.position ≡ i = elim c.then-are_over.branch [
      | then-are_over-via-then-are_over w ↦ ap (λ x. x.position) w.input-is ∙ c.in_ok-visit.ensures.same.position_is
      | then-are_over-via-else-are_over+then-not-go_on w ↦ ap (λ x. x.position) w.input-is ∙ w.go_on.ensures.stays w.if-not-go_on.true ∙ c.in_ok-visit.ensures.same.position_is
    ] in
    let first = c.args.input.now.position in
    stops_since p s c.args.earliest c.args.start first i c.then-are_over.input.position c.loop-self.self.met c.visit.new.self.met c.loop-self.invariant.unmet at
    (visit_stands p s (search_of b before) c.args.start first i c.loop-self.self.met c.visit.new.self.met c.loop-self.self.live.threads same c.requires.start
    (λ starts keeps. c.in_ok-visit.ensures.stands first starts keeps c.loop-self.invariant.lives) c.loop-self.invariant.first)

pub returns-then-is_some-clause-stands : goal.returns-then-is_some-clause-stands
returns-then-is_some-clause-stands g c =
    let p = c.args.program.now in
    let b = c.args.utf8_empty in
    let s = search_of b c.args.input.now in
    let i = c.loop-self.input.position in
    let before = c.loop-self.input in
    let same : search_of b before ≡ s = same_search b before c.args.input.now c.loop-self.invariant.same.content c.loop-self.invariant.asked in
    let first = c.args.input.now.position in
    stops_since p s c.args.earliest c.args.start first i c.visit.new.input.position c.loop-self.self.met c.visit.new.self.met c.loop-self.invariant.unmet c.in_ok-visit.ensures.same.position_is
    (visit_stands p s (search_of b before) c.args.start first i c.loop-self.self.met c.visit.new.self.met c.loop-self.self.live.threads same c.requires.start
    (λ starts keeps. c.in_ok-visit.ensures.stands first starts keeps c.loop-self.invariant.lives) c.loop-self.invariant.first)

pub returns-then-is_some-clause-over : goal.returns-then-is_some-clause-over
returns-then-is_some-clause-over g c =
    let p = c.args.program.now in
    let b = c.args.utf8_empty in
    let s = search_of b c.args.input.now in
    let q = c.args.start in
    let first = c.args.input.now.position in
    let i = c.loop-self.input.position in
    let before = c.loop-self.input in
    let met = c.visit.new.self.met in
    let slots = c.visit.new.slots in
    let same : search_of b before ≡ s = same_search b before c.args.input.now c.loop-self.invariant.same.content c.loop-self.invariant.asked in
    let so_far : IsOver (course_of p (up_to_place s i) q) met slots = subst (λ x. IsOver (course_of p (up_to_place x i) q) met slots) same c.in_ok-visit.ensures.so_far in
    let inside = c.loop-self.invariant.inside in
    let early : IsOverAt true (course_of p s q) first i met slots =
    over_early p s q first i met slots (λ none. absurd (cc (sym c.if-is_some.true ∙ c.is_some.ensures ∙ ap (λ o. is_some o) none))) (omega (arith, inside.1, inside.3, inside.4)) so_far
    (subst (λ o. KeepsFirst (course_of p s q) first i o c.loop-self.self.live.threads) (c.loop-self.invariant.unmet c.if-earliest.true) c.loop-self.invariant.first) in
    subst (λ e. IsOverAt e (course_of p s q) first c.visit.new.input.position met slots) (sym c.if-earliest.true) (subst (λ j. IsOverAt true (course_of p s q) first j met slots) (sym c.in_ok-visit.ensures.same.position_is) early)

pub returns-then-is_some-clause-work : goal.returns-then-is_some-clause-work
returns-then-is_some-clause-work g c =
    let s = search_of c.args.utf8_empty c.args.input.now in
    let first = c.args.input.now.position in
    let i = c.loop-self.input.position in
    one_more (node_count c.args.program.now) c.args.self.now.stepper.followed c.loop-self.self.stepper.followed c.visit.new.self.stepper.followed (i - first) (place_count s)
    c.loop-self.invariant.work c.in_ok-visit.ensures.work (is_among_places s first i c.requires.first c.loop-self.invariant.inside)

pub loop-self-smaller : goal.loop-self-smaller
loop-self-smaller g c =
    let b = c.args.utf8_empty in
    let content = c.args.input.now.cursor.content in
    let after = c.visit.new.input in
    let last = c.go_on.new.input in
    let i = c.loop-self.input.position in
    let same : search_of b after ≡ search_of b c.args.input.now =
    same_search b after c.args.input.now (c.in_ok-visit.ensures.same.same.content ∙ c.loop-self.invariant.same.content) (c.in_ok-visit.ensures.same.asked_is ∙ c.loop-self.invariant.asked) in
    let here : IsInside (search_of b after) after.position =
    subst (λ x. IsInside x after.position) (sym same) (subst (λ j. IsInside (search_of b c.args.input.now) j) (sym c.in_ok-visit.ensures.same.position_is) c.loop-self.invariant.inside) in
    let inside : IsInside (search_of b c.args.input.now) last.position = subst (λ x. IsInside x last.position) same (c.go_on.ensures.inside c.if-not-go_on.false here) in
    let smaller : length content - last.position < length content - i =
    omega (arith, inside.4, c.go_on.ensures.above c.if-not-go_on.false, c.in_ok-visit.ensures.same.position_is) in
    smaller

pub loop-self-preserved : goal.loop-self-preserved
loop-self-preserved g c =
    let p = c.args.program.now in
    let b = c.args.utf8_empty in
    let s = search_of b c.args.input.now in
    let q = c.args.start in
    let i = c.loop-self.input.position in
    let before = c.loop-self.input in
    let after = c.visit.new.input in
    let last = c.go_on.new.input in
    let self = c.visit.new.self in
    let same : search_of b before ≡ s = same_search b before c.args.input.now c.loop-self.invariant.same.content c.loop-self.invariant.asked in
    let content : after.cursor.content ≡ c.args.input.now.cursor.content = c.in_ok-visit.ensures.same.same.content ∙ c.loop-self.invariant.same.content in
    let asked : after.asked ≡ c.args.input.now.asked = c.in_ok-visit.ensures.same.asked_is ∙ c.loop-self.invariant.asked in
    let same' : search_of b after ≡ s = same_search b after c.args.input.now content asked in
    let here : IsInside (search_of b after) after.position =
    subst (λ x. IsInside x after.position) (sym same') (subst (λ j. IsInside s j) (sym c.in_ok-visit.ensures.same.position_is) c.loop-self.invariant.inside) in
    let there : IsInside s last.position = subst (λ x. IsInside x last.position) same' (c.go_on.ensures.inside c.if-not-go_on.false here) in
    let inside = c.loop-self.invariant.inside in
    let next : i + 1 ≤ last.position = omega (arith, c.go_on.ensures.above c.if-not-go_on.false, c.in_ok-visit.ensures.same.position_is) in
    let way : IsUnderWay (course_of p s q) (i + 1) self.live.threads self.met c.visit.new.slots = subst (λ x. IsUnderWay (course_of p x q) (i + 1) self.live.threads self.met c.visit.new.slots) same c.in_ok-visit.ensures.way in
    let skipped : AreSkipped self.idle b s.content (i + 1) last.position self.live.threads self.met =
    subst (λ xs. AreSkipped self.idle b xs (i + 1) last.position self.live.threads self.met) content
    (λ k from to. c.go_on.ensures.skipped c.if-not-go_on.false k (omega (arith, from, c.in_ok-visit.ensures.same.position_is)) to) in
    let free : self.live.threads ≡ [] → self.met ≡ None → (s.anchoring ≡ unanchored) × (q ≡ p.start) =
    λ none unmet. unanchored_start p s.anchoring q
    (subst (λ x. is_anchored (anchoring_of x) ≡ false) (c.get_anchored.ensures ∙ ap (λ x. x.anchored) asked) (c.are_over.ensures.goes_on c.if-are_over.false none unmet)) c.requires.start in
    let parts : IsUnderWayInParts (course_of p s q) (i + 1) self.live.threads self.met c.visit.new.slots =
    subst (λ x. IsUnderWayInParts (course_of p x q) (i + 1) self.live.threads self.met c.visit.new.slots) same c.in_ok-visit.ensures.parts in
    let first : KeepsFirst (course_of p s q) c.args.input.now.position (i + 1) self.met self.live.threads =
    subst (λ x. KeepsFirst (course_of p x q) c.args.input.now.position (i + 1) self.met self.live.threads) same
    (c.in_ok-visit.ensures.first c.args.input.now.position (subst (λ x. KeepsFirst (course_of p x q) c.args.input.now.position i c.loop-self.self.met c.loop-self.self.live.threads) (sym same) c.loop-self.invariant.first)) in
    let unmet : c.args.earliest ≡ true → self.met ≡ None = λ early. elim c.else-earliest.branch [
      | else-earliest-via-then-earliest+else-is_some w ↦ no_value self.met (sym w.is_some.ensures ∙ w.if-is_some.false)
      | else-earliest-via-else-earliest w ↦ absurd (cc (sym early ∙ w.if-earliest.false))
    ] in
    let low : lowest s ≤ i + 1 = omega (arith, inside.0, inside.2) in
    let high : last.position ≤ highest s = omega (arith, there.1, there.3, there.4) in
    record {
      made = c.in_ok-visit.ensures.made;
      inside = there;
      slot_len = c.in_ok-visit.ensures.slot_len;
      way = way_skipped p s q (i + 1) last.position self.idle self.live.threads self.met c.visit.new.slots next low high
          c.in_ok-visit.ensures.made.are_idle free skipped way;
      parts = parts_skipped p s q (i + 1) last.position self.idle self.live.threads self.met c.visit.new.slots next low high c.in_ok-visit.ensures.made.are_idle free skipped parts;
      unmet = unmet;
      first = first_skipped p s q c.args.input.now.position (i + 1) last.position self.idle self.live.threads self.met c.visit.new.slots next low high c.in_ok-visit.ensures.made.are_idle free skipped parts first;
      lives = c.are_over.ensures.lives c.if-are_over.false;
      same = record {
        content = c.go_on.ensures.same.same.content ∙ content;
        is_sized = c.go_on.ensures.same.same.is_sized ∙ c.in_ok-visit.ensures.same.same.is_sized ∙ c.loop-self.invariant.same.is_sized;
      };
      asked = c.go_on.ensures.same.asked_is ∙ asked;
      work = next_done (node_count p) c.args.self.now.stepper.followed c.loop-self.self.stepper.followed self.stepper.followed c.args.input.now.position i last.position
          c.loop-self.invariant.work c.in_ok-visit.ensures.work (come_so_far s c.args.input.now.position i c.requires.first inside) next;
    }
