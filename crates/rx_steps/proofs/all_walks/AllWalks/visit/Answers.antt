use Rattle.std.proofs.Common.{◌≡◌, ◌+◌, List, Option, Some, sym, ap, subst, ◌∙◌, arith}
use Rattle.rx_util.specs.Search.{Found}
use Rattle.rx_walks.specs.Finds.{up_to_place}
use Rattle.rx_steps.specs.Searching.{search_of}
use Rattle.rx_steps.specs.ListsAll.{Started, IsStepAll}
use Rattle.rx_steps.specs.Coming.{course_of}
use Rattle.rx_steps.specs.ComingAll.{byte_machine_in, IsOverAll, IsUnderWayAll, IsUnderWayAllInParts}
use Rattle.rx_steps.proofs.AllComeLaws.{best_after, found_is, met_began, way_passed_all}
use Rattle.rx_steps.proofs.AllPartLaws.{parts_passed_all, part_over_all}
use Rattle.rx_steps.proofs.all_walks.AllWalks.visit.Goals as goal
use Rattle.rx_steps.proofs.all_walks.AllWalks.visit.Goals.{in-Some, in_default}

-- the fields after the step are the step's results
record CameTo (threads next : List Started) (best best' : Option Found) : Type 0 where
  threads_are : threads ≡ next
  best_is : best ≡ best'

arrive : (P : List Started → Option Found → Type 0) (next next' : List Started) (best best' : Option Found) → CameTo next' next best' best → P next best → P next' best'
arrive P next next' best best' came is = subst (λ xs. P xs best') (sym came.threads_are) (subst (λ o. P next o) (sym came.best_is) is)

pub new-requires : goal.new-requires
new-requires g c =
    let p = c.args.program.now in
    let s = search_of c.args.utf8_empty c.args.input.now in
    let i = c.args.input.now.position in
    let threads = c.start_walk.new.self.live.items in
    let next = c.pass.new.self.live.items in
    let step : IsStepAll (byte_machine_in p s) i threads next (Some c.in-Some.met) = subst (λ o. IsStepAll (byte_machine_in p s) i threads next o) c.in-Some.is (c.in_ok-met.ensures.step c.args.utf8_empty c.requires.inside) in
    let le = met_began (byte_machine_in p s) s c.args.start i c.args.self.now.live.items threads next c.in-Some.met c.in_ok-start_walk.ensures.started c.requires.way.began step in
    record { ordered = omega (arith, le, c.position.ensures.position, c.in_ok-met.ensures.same.position_is) }

pub returns-clause-way : goal.returns-clause-way
returns-clause-way g c =
    let p = c.args.program.now in
    let s = search_of c.args.utf8_empty c.args.input.now in
    let q = c.args.start in
    let i = c.args.input.now.position in
    let next = c.pass.new.self.live.items in
    let met = c.in_ok-met.field-0 in
    let before = c.args.self.now.best in
    let came : CameTo c.match-branch-3.self.live.items next c.match-branch-3.self.best (best_after i met before) = elim c.match-branch-3.branch [
      | in-Some w ↦ record {
        threads_are = ap (λ x. x.live.items) w.self-is;
        best_is = ap (λ x. x.best) w.self-is ∙ found_is w.new.result w.in-Some.met.pattern w.in-Some.met.start w.position.result i (w.position.ensures.position ∙ c.in_ok-met.ensures.same.position_is) w.new.ensures.pattern w.new.ensures.span
            ∙ sym (ap (λ o. best_after i o before) w.in-Some.is);
      }
      | in_default w ↦ record {
        threads_are = ap (λ x. x.live.items) w.self-is;
        best_is = ap (λ x. x.best) w.self-is ∙ c.in_ok-met.ensures.best ∙ c.in_ok-start_walk.ensures.best ∙ sym (ap (λ o. best_after i o before) w.in_default.is);
      }
    ] in
    arrive (λ xs o. IsUnderWayAll (course_of p s q) (i + 1) xs o) next c.match-branch-3.self.live.items (best_after i met before) c.match-branch-3.self.best came
    (way_passed_all p s q i c.args.self.now.live.items c.start_walk.new.self.live.items next met before c.in_ok-start_walk.ensures.started (c.in_ok-met.ensures.step c.args.utf8_empty c.requires.inside) c.in_ok-met.ensures.threads c.requires.way)

pub returns-clause-parts : goal.returns-clause-parts
returns-clause-parts g c =
    let p = c.args.program.now in
    let s = search_of c.args.utf8_empty c.args.input.now in
    let q = c.args.start in
    let i = c.args.input.now.position in
    let next = c.pass.new.self.live.items in
    let met = c.in_ok-met.field-0 in
    let before = c.args.self.now.best in
    let came : CameTo c.match-branch-3.self.live.items next c.match-branch-3.self.best (best_after i met before) = elim c.match-branch-3.branch [
      | in-Some w ↦ record {
        threads_are = ap (λ x. x.live.items) w.self-is;
        best_is = ap (λ x. x.best) w.self-is ∙ found_is w.new.result w.in-Some.met.pattern w.in-Some.met.start w.position.result i (w.position.ensures.position ∙ c.in_ok-met.ensures.same.position_is) w.new.ensures.pattern w.new.ensures.span
            ∙ sym (ap (λ o. best_after i o before) w.in-Some.is);
      }
      | in_default w ↦ record {
        threads_are = ap (λ x. x.live.items) w.self-is;
        best_is = ap (λ x. x.best) w.self-is ∙ c.in_ok-met.ensures.best ∙ c.in_ok-start_walk.ensures.best ∙ sym (ap (λ o. best_after i o before) w.in_default.is);
      }
    ] in
    arrive (λ xs o. IsUnderWayAllInParts (course_of p s q) (i + 1) xs o) next c.match-branch-3.self.live.items (best_after i met before) c.match-branch-3.self.best came
    (parts_passed_all p s q i c.args.self.now.live.items c.start_walk.new.self.live.items next met before c.requires.inside c.in_ok-start_walk.ensures.started (c.in_ok-met.ensures.step c.args.utf8_empty c.requires.inside) c.in_ok-met.ensures.threads c.requires.parts)

pub returns-clause-so_far : goal.returns-clause-so_far
returns-clause-so_far g c =
    let p = c.args.program.now in
    let s = search_of c.args.utf8_empty c.args.input.now in
    let q = c.args.start in
    let i = c.args.input.now.position in
    let next = c.pass.new.self.live.items in
    let met = c.in_ok-met.field-0 in
    let before = c.args.self.now.best in
    let came : c.match-branch-3.self.best ≡ best_after i met before = elim c.match-branch-3.branch [
      | in-Some w ↦ ap (λ x. x.best) w.self-is ∙ found_is w.new.result w.in-Some.met.pattern w.in-Some.met.start w.position.result i (w.position.ensures.position ∙ c.in_ok-met.ensures.same.position_is) w.new.ensures.pattern w.new.ensures.span
          ∙ sym (ap (λ o. best_after i o before) w.in-Some.is)
      | in_default w ↦ ap (λ x. x.best) w.self-is ∙ c.in_ok-met.ensures.best ∙ c.in_ok-start_walk.ensures.best ∙ sym (ap (λ o. best_after i o before) w.in_default.is)
    ] in
    subst (λ o. IsOverAll (course_of p (up_to_place s i) q) o) (sym came)
    (part_over_all p s q i c.args.self.now.live.items c.start_walk.new.self.live.items next met before c.requires.inside c.in_ok-start_walk.ensures.started (c.in_ok-met.ensures.step c.args.utf8_empty c.requires.inside) c.requires.parts)
