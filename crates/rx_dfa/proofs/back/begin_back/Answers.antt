use Rattle.std.proofs.Common.{◌≡◌, Some, slice_get, refl, sym, ap, ◌∙◌, arith}
use Rattle.std.proofs.lemmas.Option.{slice_get_within}
use Rattle.rx_steps.specs.Searching.{anchoring_of, search_of}
use Rattle.rx_steps.proofs.FollowLaws.{if_ok}
use Rattle.rx_dfa.proofs.BackLaws.{begun_back, lacks_back}
use Rattle.rx_dfa.proofs.SearchLaws.{byte_there}
use Rattle.rx_dfa.proofs.back.begin_back.Goals as goal

pub returns-in-Some-clause-refused : goal.returns-in-Some-clause-refused
returns-in-Some-clause-refused g c = λ b.
    let i = c.args.input.now.position in
    let s = search_of b c.args.input.now in
    let told = c.in-Some.ensures.some in
    let there = byte_there s i c.in-Some.byte (sym (c.byte_seen-seen.ensures b) ∙ told.0) in
    let stands : slice_get s.content c.position-at.result ≡ Some c.in-Some.byte = ap (λ k. slice_get s.content k) c.position-at.ensures.position ∙ there.0 in (
      stands,
      omega (arith, (c.requires.inside b).0, c.position-at.ensures.position),
      omega (arith, there.1, c.position-at.ensures.position),
      told.1,
    )

pub first-requires-clause-begins : goal.first-requires-clause-begins
first-requires-clause-begins g c = record {
  anchoring = anchoring_of c.args.input.now.asked.anchored;
  start = c.args.start;
  starts = c.requires.start;
  starting_is = refl;
  byte = c.byte_seen-seen.result;
  may_be = c.side-side.ensures.byte;
  behind_is = c.side-side.ensures.side;
}

pub returns-in-Err-clause-refused : goal.returns-in-Err-clause-refused
returns-in-Err-clause-refused g c = λ b.
    lacks_back g.T.Table.is_whole c.args.automaton.now.alphabet.now.asked (search_of b c.args.input.now) c.args.input.now.position c.position-at.result c.in-Err.error (c.requires.inside b) c.position-at.ensures.position c.in-Err.ensures.refused

pub follow_back-requires-clause-first : goal.follow_back-requires-clause-first
follow_back-requires-clause-first g c =
    let found = c.in-Ok.ensures.first in
    slice_get_within (g.T.Table.shown c.first.new.self).states c.in-Ok.first found.state found.stands

pub returns-in-Ok-clause-ended : goal.returns-in-Ok-clause-ended
returns-in-Ok-clause-ended g c =
    let a = c.args.automaton.now in
    let states = (g.T.Table.shown c.first.new.self).states in
    let found = c.in-Ok.ensures.first in
    if_ok c.follow_back.result (λ best ended b. ended b c.args.start (begun_back a (search_of b c.args.input.now) c.args.start c.args.input.now.position states c.in-Ok.first c.byte_seen-seen.result (c.requires.end b) found
    (c.byte_seen-seen.ensures b) c.side-side.ensures.side (c.byte_that_quits.ensures.none c.in_default.is))) c.follow_back.ensures.ended
