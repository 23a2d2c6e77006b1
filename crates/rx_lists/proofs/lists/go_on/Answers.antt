use Rattle.std.proofs.Common.{◌≡◌, ◌+◌, ◌<◌, sym, subst, arith}
use Rattle.rx_walks.specs.Finds.{IsInside}
use Rattle.rx_walks.specs.ProgramFinds.{highest}
use Rattle.rx_steps.specs.Searching.{search_of}
use Rattle.rx_steps.proofs.OverLaws.{same_search}
use Rattle.rx_lists.proofs.lists.go_on.Goals as goal

pub returns-in-None-clause-inside : goal.returns-in-None-clause-inside
returns-in-None-clause-inside g c = λ none moved b inside.
    let old = c.args.input.now in
    let new = c.move_to-in-None.new.self in
    let to = c.move_to-in-None.ensures in
    let at : new.position ≡ c.args.at = omega (arith, to.position_is, inside.4) in
    let same : search_of b new ≡ search_of b old = same_search b new old to.same.content to.asked_is in
    subst (λ x. IsInside x c.advance.new.input.position) same
    (c.advance.ensures.inside moved b (subst (λ j. IsInside (search_of b new) j) (sym at) (subst (λ x. IsInside x c.args.at) (sym same) inside)))

pub returns-in-None-clause-last : goal.returns-in-None-clause-last
returns-in-None-clause-last g c = λ none failed within b.
    let old = c.args.input.now in
    let new = c.move_to-in-None.new.self in
    let to = c.move_to-in-None.ensures in
    let at : new.position ≡ c.args.at = omega (arith, to.position_is, within) in
    let same : search_of b new ≡ search_of b old = same_search b new old to.same.content to.asked_is in
    subst (λ j. highest (search_of b old) < j + 1) at (subst (λ x. highest x < new.position + 1) same (c.advance.ensures.last failed b))
