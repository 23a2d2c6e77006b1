use Rattle.std.proofs.Common.{◌≡◌, ◌+◌, ◌-◌, ◌<◌, ◌≤◌, length, None, true, false, IsTrue, refl, sym, ap, subst, ◌∙◌, arith}
use Rattle.std.specs.Option.{is_some}
use Rattle.rx_walks.specs.Finds.{IsInside, up_to_place, is_anchored}
use Rattle.rx_walks.specs.ProgramFinds.{lowest, highest}
use Rattle.rx_steps.specs.Nodes.{node_count}
use Rattle.rx_steps.specs.Searching.{search_of, anchoring_of}
use Rattle.rx_steps.specs.Caches.{place_count}
use Rattle.rx_steps.specs.Coming.{course_of}
use Rattle.rx_steps.specs.ComingAll.{IsOverAll, IsOverAllAt, IsUnderWayAll, IsUnderWayAllInParts}
use Rattle.rx_steps.proofs.WorkLaws.{none_done, one_more, is_among_places, next_done, come_so_far}
use Rattle.rx_steps.proofs.OverLaws.{same_search}
use Rattle.rx_steps.proofs.AllComeLaws.{no_match, way_begun_all, way_over_all, way_ended_all}
use Rattle.rx_steps.proofs.IdleLaws.{unanchored_start}
use Rattle.rx_steps.proofs.AllIdleLaws.{AreSkippedAll, StartsFree, way_skipped_all, parts_skipped_all, none_skipped_all}
use Rattle.rx_steps.proofs.AllPartLaws.{parts_begun_all, none_more_all, over_whole_all, early_all}
use Rattle.rx_steps.proofs.all_walks.AllWalks.follow.Goals as goal
use Rattle.rx_steps.proofs.all_walks.AllWalks.follow.Goals.{else-earliest-via-then-earliest+else-is_some, else-earliest-via-else-earliest, then-are_over-via-then-are_over, then-are_over-via-else-are_over+then-not-go_on}

pub loop-self-init : goal.loop-self-init
loop-self-init g c = record {
  made = c.requires.made;
  inside = c.requires.inside;
  way = way_begun_all c.args.program.now (search_of c.args.utf8_empty c.args.input.now) c.args.start c.args.input.now.position c.clear.new.self.items c.requires.first c.clear.ensures.items;
  parts = parts_begun_all c.args.program.now (search_of c.args.utf8_empty c.args.input.now) c.args.start c.args.input.now.position c.clear.new.self.items c.requires.first c.clear.ensures.items;
  unmet = λ early. refl;
  before = λ none k from to. absurd (omega (arith, from, to));
  same = record { content = refl; is_sized = refl };
  asked = refl;
  work = none_done (node_count c.args.program.now) c.args.walks.now.stepper.followed c.args.input.now.position;
}

pub returns-in_err-visit-clause-work : goal.returns-in_err-visit-clause-work
returns-in_err-visit-clause-work g c =
    let s = search_of c.args.utf8_empty c.args.input.now in
    let first = c.args.input.now.position in
    let i = c.loop-self.input.position in
    one_more (node_count c.args.program.now) c.args.walks.now.stepper.followed c.loop-self.walks.stepper.followed c.visit.new.walks.stepper.followed (i - first) (place_count s)
    c.loop-self.invariant.work c.in_err-visit.ensures.work (is_among_places s first i c.requires.first c.loop-self.invariant.inside)

pub returns-then-are_over-clause-work : goal.returns-then-are_over-clause-work
returns-then-are_over-clause-work g c =
    let s = search_of c.args.utf8_empty c.args.input.now in
    let first = c.args.input.now.position in
    let i = c.loop-self.input.position in
    one_more (node_count c.args.program.now) c.args.walks.now.stepper.followed c.loop-self.walks.stepper.followed c.visit.new.walks.stepper.followed (i - first) (place_count s)
    c.loop-self.invariant.work c.in_ok-visit.ensures.work (is_among_places s first i c.requires.first c.loop-self.invariant.inside)

pub returns-then-is_some-clause-work : goal.returns-then-is_some-clause-work
returns-then-is_some-clause-work g c =
    let s = search_of c.args.utf8_empty c.args.input.now in
    let first = c.args.input.now.position in
    let i = c.loop-self.input.position in
    one_more (node_count c.args.program.now) c.args.walks.now.stepper.followed c.loop-self.walks.stepper.followed c.visit.new.walks.stepper.followed (i - first) (place_count s)
    c.loop-self.invariant.work c.in_ok-visit.ensures.work (is_among_places s first i c.requires.first c.loop-self.invariant.inside)

pub returns-then-are_over-clause-over : goal.returns-then-are_over-clause-over
returns-then-are_over-clause-over g c =
    let p = c.args.program.now in
    let b = c.args.utf8_empty in
    let s = search_of b c.args.input.now in
    let q = c.args.start in
    let i = c.loop-self.input.position in
    let before = c.loop-self.input in
    let after = c.visit.new.input in
    let self = c.visit.new.self in
    let same : search_of b before ≡ s = same_search b before c.args.input.now c.loop-self.invariant.same.content c.loop-self.invariant.asked in
    let asked : after.asked ≡ c.args.input.now.asked = c.in_ok-visit.ensures.same.asked_is ∙ c.loop-self.invariant.asked in
    let same' : search_of b after ≡ s = same_search b after c.args.input.now (c.in_ok-visit.ensures.same.same.content ∙ c.loop-self.invariant.same.content) asked in
    let way : IsUnderWayAll (course_of p s q) (i + 1) self.live.items self.best = subst (λ x. IsUnderWayAll (course_of p x q) (i + 1) self.live.items self.best) same c.in_ok-visit.ensures.way in
    let unmet : c.args.earliest ≡ true → self.best ≡ None = λ early. elim c.else-earliest.branch [
      | else-earliest-via-then-earliest+else-is_some w ↦ no_match self.best (sym w.is_some.ensures ∙ w.if-is_some.false)
      | else-earliest-via-else-earliest w ↦ absurd (cc (sym early ∙ w.if-earliest.false))
    ] in
    over_whole_all p s c.args.earliest q c.args.input.now.position c.then-are_over.input.position self.best unmet
    (elim c.then-are_over.branch [
      | then-are_over-via-then-are_over w ↦ way_over_all p s q i self.live.items self.best c.loop-self.invariant.inside (c.are_over.ensures.live w.if-are_over.true)
          (subst (λ x. IsTrue (is_anchored (anchoring_of x))) (c.get_anchored.ensures ∙ ap (λ x. x.anchored) asked) (c.are_over.ensures.starts w.if-are_over.true)) way
      | then-are_over-via-else-are_over+then-not-go_on w ↦
          let past : highest (search_of b after) < after.position + 1 = w.go_on.ensures.last w.if-not-go_on.true in
          way_ended_all p s q i self.live.items self.best
          (subst (λ j. highest s < j + 1) c.in_ok-visit.ensures.same.position_is (subst (λ x. highest x < after.position + 1) same' past)) way
    ])

pub returns-then-is_some-clause-over : goal.returns-then-is_some-clause-over
returns-then-is_some-clause-over g c =
    let p = c.args.program.now in
    let b = c.args.utf8_empty in
    let s = search_of b c.args.input.now in
    let q = c.args.start in
    let first = c.args.input.now.position in
    let i = c.loop-self.input.position in
    let before = c.loop-self.input in
    let best = c.visit.new.self.best in
    let same : search_of b before ≡ s = same_search b before c.args.input.now c.loop-self.invariant.same.content c.loop-self.invariant.asked in
    let so_far : IsOverAll (course_of p (up_to_place s i) q) best = subst (λ x. IsOverAll (course_of p (up_to_place x i) q) best) same c.in_ok-visit.ensures.so_far in
    let inside = c.loop-self.invariant.inside in
    let unmet = c.loop-self.invariant.unmet c.if-earliest.true in
    let early : IsOverAllAt true (course_of p s q) first i best =
    early_all p s q first i c.loop-self.self.best best (λ none. absurd (cc (sym c.if-is_some.true ∙ c.is_some.ensures ∙ ap (λ o. is_some o) none))) unmet c.in_ok-visit.ensures.ends_here (omega (arith, inside.1, inside.3, inside.4)) so_far
    (c.loop-self.invariant.before unmet) in
    subst (λ e. IsOverAllAt e (course_of p s q) first c.visit.new.input.position best) (sym c.if-earliest.true) (subst (λ j. IsOverAllAt true (course_of p s q) first j best) (sym c.in_ok-visit.ensures.same.position_is) early)

pub loop-self-smaller : goal.loop-self-smaller
loop-self-smaller g c =
    let b = c.args.utf8_empty in
    let content = c.args.input.now.cursor.content in
    let after = c.visit.new.input in
    let last = c.go_on.new.input in
    let i = c.loop-self.input.position in
    let same : search_of b after ≡ search_of b c.args.input.now =
    same_search b after c.args.input.now (c.in_ok-visit.ensures.same.same.content ∙ c.loop-self.invariant.same.content) (c.in_ok-visit.ensures.same.asked_is ∙ c.loop-self.invariant.asked) in
    let here : IsInside (search_of b after) after.position =
    subst (λ x. IsInside x after.position) (sym same) (subst (λ j. IsInside (search_of b c.args.input.now) j) (sym c.in_ok-visit.ensures.same.position_is) c.loop-self.invariant.inside) in
    let inside : IsInside (search_of b c.args.input.now) last.position = subst (λ x. IsInside x last.position) same (c.go_on.ensures.inside c.if-not-go_on.false here) in
    let smaller : length content - last.position < length content - i =
    omega (arith, inside.4, c.go_on.ensures.above c.if-not-go_on.false, c.in_ok-visit.ensures.same.position_is) in
    smaller

pub loop-self-preserved : goal.loop-self-preserved
loop-self-preserved g c =
    let p = c.args.program.now in
    let b = c.args.utf8_empty in
    let s = search_of b c.args.input.now in
    let q = c.args.start in
    let first = c.args.input.now.position in
    let i = c.loop-self.input.position in
    let before = c.loop-self.input in
    let after = c.visit.new.input in
    let last = c.go_on.new.input in
    let self = c.visit.new.self in
    let same : search_of b before ≡ s = same_search b before c.args.input.now c.loop-self.invariant.same.content c.loop-self.invariant.asked in
    let content : after.cursor.content ≡ c.args.input.now.cursor.content = c.in_ok-visit.ensures.same.same.content ∙ c.loop-self.invariant.same.content in
    let asked : after.asked ≡ c.args.input.now.asked = c.in_ok-visit.ensures.same.asked_is ∙ c.loop-self.invariant.asked in
    let same' : search_of b after ≡ s = same_search b after c.args.input.now content asked in
    let here : IsInside (search_of b after) after.position =
    subst (λ x. IsInside x after.position) (sym same') (subst (λ j. IsInside s j) (sym c.in_ok-visit.ensures.same.position_is) c.loop-self.invariant.inside) in
    let there : IsInside s last.position = subst (λ x. IsInside x last.position) same' (c.go_on.ensures.inside c.if-not-go_on.false here) in
    let inside = c.loop-self.invariant.inside in
    let next : i + 1 ≤ last.position = omega (arith, c.go_on.ensures.above c.if-not-go_on.false, c.in_ok-visit.ensures.same.position_is) in
    let skipped : AreSkippedAll c.visit.new.walks.idle b s.content (i + 1) last.position self.live.items =
    subst (λ xs. AreSkippedAll c.visit.new.walks.idle b xs (i + 1) last.position self.live.items) content
    (λ k from to. c.go_on.ensures.skipped c.if-not-go_on.false k (omega (arith, from, c.in_ok-visit.ensures.same.position_is)) to) in
    let free : StartsFree p s q self.live.items = λ none. unanchored_start p s.anchoring q
    (subst (λ x. is_anchored (anchoring_of x) ≡ false) (c.get_anchored.ensures ∙ ap (λ x. x.anchored) asked) (c.are_over.ensures.goes_on c.if-are_over.false none)) c.requires.start in
    let low : lowest s ≤ i + 1 = omega (arith, inside.0, inside.2) in
    let high : last.position ≤ highest s = omega (arith, there.1, there.3, there.4) in
    let are = c.in_ok-visit.ensures.made.are_idle in
    let way : IsUnderWayAll (course_of p s q) (i + 1) self.live.items self.best = subst (λ x. IsUnderWayAll (course_of p x q) (i + 1) self.live.items self.best) same c.in_ok-visit.ensures.way in
    let parts : IsUnderWayAllInParts (course_of p s q) (i + 1) self.live.items self.best =
    subst (λ x. IsUnderWayAllInParts (course_of p x q) (i + 1) self.live.items self.best) same c.in_ok-visit.ensures.parts in
    let so_far : IsOverAll (course_of p (up_to_place s i) q) self.best = subst (λ x. IsOverAll (course_of p (up_to_place x i) q) self.best) same c.in_ok-visit.ensures.so_far in
    let unmet : c.args.earliest ≡ true → self.best ≡ None = λ early. elim c.else-earliest.branch [
      | else-earliest-via-then-earliest+else-is_some w ↦ no_match self.best (sym w.is_some.ensures ∙ w.if-is_some.false)
      | else-earliest-via-else-earliest w ↦ absurd (cc (sym early ∙ w.if-earliest.false))
    ] in
    record {
      made = c.in_ok-visit.ensures.made;
      inside = there;
      way = way_skipped_all p s q (i + 1) last.position c.visit.new.walks.idle self.live.items self.best next low high are free skipped way;
      parts = parts_skipped_all p s q (i + 1) last.position c.visit.new.walks.idle self.live.items self.best next low high are free skipped parts;
      unmet = unmet;
      before = λ none. none_skipped_all p s q first (i + 1) last.position c.visit.new.walks.idle self.live.items low high are free skipped (subst (λ o. IsUnderWayAllInParts (course_of p s q) (i + 1) self.live.items o) none parts)
          (none_more_all p s q first i self.best none (c.loop-self.invariant.before (c.in_ok-visit.ensures.none_before none)) so_far);
      same = record {
        content = c.go_on.ensures.same.same.content ∙ content;
        is_sized = c.go_on.ensures.same.same.is_sized ∙ c.in_ok-visit.ensures.same.same.is_sized ∙ c.loop-self.invariant.same.is_sized;
      };
      asked = c.go_on.ensures.same.asked_is ∙ asked;
      work = next_done (node_count p) c.args.walks.now.stepper.followed c.loop-self.walks.stepper.followed c.visit.new.walks.stepper.followed first i last.position
          c.loop-self.invariant.work c.in_ok-visit.ensures.work (come_so_far s first i c.requires.first inside) next;
    }
