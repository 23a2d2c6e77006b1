use Rattle.std.proofs.Common.{rules, ◌≡◌, sym, ap, subst}
use Rattle.rx_util.specs.declared.search.Anchored.{Anchored}
use Rattle.rx_util.specs.declared.search.Anchored.TheVariants.{Yes}
use Rattle.rx_walks.specs.Finds.{IsInside}
use Rattle.rx_steps.specs.Searching.{anchoring_of, search_of}
use Rattle.rx_steps.proofs.OverLaws.{same_search}
use Rattle.rx_onepass.proofs.AloneLaws.{answered}
use Rattle.rx_onepass.proofs.search.search_slots.Goals as goal

pub follow-found-requires-clause-looks : goal.follow-found-requires-clause-looks
follow-found-requires-clause-looks g c = c.requires.made.looks (c.may_try.ensures c.if-not-may_try.false)

pub follow-found-requires-clause-inside : goal.follow-found-requires-clause-inside
follow-found-requires-clause-inside g c =
    let b = c.args.utf8_empty in
    let after = c.enter.new.input in
    let same = same_search b after c.args.input.now c.enter.ensures.same.same.content c.enter.ensures.same.asked_is in
    subst (λ x. IsInside x after.position) (sym same) (c.enter.ensures.inside c.if-not-enter.false b)

pub follow-found-requires-clause-begins : goal.follow-found-requires-clause-begins
follow-found-requires-clause-begins g c =
    let b = c.args.utf8_empty in
    let after = c.enter.new.input in
    let same = same_search b after c.args.input.now c.enter.ensures.same.same.content c.enter.ensures.same.asked_is in
    (c.begins.ensures (subst (λ x. IsInside x after.position) (sym same) (c.enter.ensures.inside c.if-not-enter.false b))).0 c.if-not-begins.false

pub returns-clause-answer : goal.returns-clause-answer
returns-clause-answer g c =
    let b = c.args.utf8_empty in
    let i = c.args.input.now in
    let after = c.enter.new.input in
    let same = same_search b after i c.enter.ensures.same.same.content c.enter.ensures.same.asked_is in
    let mode : i.asked.anchored ≡ Yes = search rules in
    answered c.args.program.now (search_of b i) (search_of b after) c.follow-found.result c.follow-found.new.slots same c.walks_are_those_of_characters.ensures.reads c.program_is_searched_keeping.ensures
    (ap anchoring_of mode) c.follow-found.ensures.over
