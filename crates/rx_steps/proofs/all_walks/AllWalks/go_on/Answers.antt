use Rattle.std.proofs.Common.{◌≡◌, length, vec_len, sym, subst, ◌∙◌, arith}
use Rattle.std.proofs.lemmas.Grind.{common_steps}
use Rattle.std.proofs.lemmas.Bool.{eqb-true}
use Rattle.rx_walks.specs.Finds.{IsInside}
use Rattle.rx_steps.specs.Idle.{IsPassedAt}
use Rattle.rx_steps.specs.Searching.{search_of}
use Rattle.rx_steps.proofs.OverLaws.{same_search}
use Rattle.rx_steps.proofs.AllComeLaws.{no_walks}
use Rattle.rx_steps.proofs.all_walks.AllWalks.go_on.Goals as goal

pub returns-then-is_empty-clause-inside : goal.returns-then-is_empty-clause-inside
returns-then-is_empty-clause-inside g c = λ told inside.
    let b = c.args.utf8_empty in
    let old = c.args.input.now in
    let next = c.advance.new.input in
    let same : search_of b next ≡ search_of b old = same_search b next old c.advance.ensures.same.same.content c.advance.ensures.same.asked_is in
    subst (λ s. IsInside s c.skip.new.input.position) same
    (c.skip.ensures.inside (subst (λ s. IsInside s next.position) (sym same) (c.advance.ensures.inside c.if-not-advance.false b inside)))

pub returns-then-is_empty-clause-skipped : goal.returns-then-is_empty-clause-skipped
returns-then-is_empty-clause-skipped g c = λ told k from to. (
  (let live = c.args.self.now.live in
      let long : vec_len live ≡ length live.items = grind (arith, common_steps) in
      let none : vec_len live ≡ 0 = eqb-true (vec_len live) 0 (sym c.is_empty.ensures ∙ c.if-is_empty.true) in
      no_walks live.items (sym long ∙ none)),
  subst (λ xs. IsPassedAt c.args.idle.now c.args.utf8_empty xs k) c.advance.ensures.same.same.content (c.skip.ensures.passed k (omega (arith, from, c.advance.ensures.next c.if-not-advance.false)) to),
)

pub returns-then-not-advance-clause-last : goal.returns-then-not-advance-clause-last
returns-then-not-advance-clause-last g c = λ told. c.advance.ensures.last c.if-not-advance.true c.args.utf8_empty

pub returns-else-is_empty-clause-inside : goal.returns-else-is_empty-clause-inside
returns-else-is_empty-clause-inside g c = λ told inside. c.advance.ensures.inside c.if-not-advance.false c.args.utf8_empty inside
