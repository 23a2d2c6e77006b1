use Rattle.std.proofs.Common.{◌≡◌, ◌-◌, None, Some, slice_get, sym, ap, ap₂, subst, ◌∙◌, arith}
use Rattle.std.proofs.lemmas.Option.{slice_get_within}
use Rattle.rx_walks.specs.ProgramFinds.{start_node, lowest}
use Rattle.rx_program.specs.Programs.{character_program}
use Rattle.rx_steps.specs.Searching.{anchoring_of}
use Rattle.rx_steps.proofs.FollowLaws.{if_ok}
use Rattle.rx_steps.proofs.OverLaws.{same_search}
use Rattle.rx_dfa.specs.Automata.{directed}
use Rattle.rx_dfa.specs.Passing.{SearchStandsAt, search_by}
use Rattle.rx_dfa.specs.Searching.{StartsSo, IsHalfAnswer, byte_before}
use Rattle.rx_dfa.proofs.DenseLaws.{starts_from}
use Rattle.rx_dfa.proofs.InputLaws.{known_behind, before_there}
use Rattle.rx_dfa.proofs.ScanLaws.{behind_is, lacks_there, quit_there, reached_first}
use Rattle.rx_dfa.proofs.search.start.Goals as goal

pub overflow_sub-result : goal.overflow_sub-result
overflow_sub-result g c =
    let a = c.args.automaton.now in
    let b = a.alphabet.now.utf8_empty in
    let s = search_by a c.args.input.now in
    let i = c.args.input.now.position in
    let inside = c.requires.inside in
    let before = known_behind c.asked.result.any s i c.in-Some.byte c.byte_behind-behind.result (λ e. c.byte_behind-behind.ensures.asked e b inside) c.byte_behind-behind.ensures.unasked c.in-Some.ensures.some.0 in
    let there = before_there s i c.in-Some.byte inside.0 inside.4 before in
    omega (arith, there.0, c.position-at.ensures.position)

pub returns-in-Some-clause-refused : goal.returns-in-Some-clause-refused
returns-in-Some-clause-refused g c =
    let a = c.args.automaton.now in
    let b = a.alphabet.now.utf8_empty in
    let s = search_by a c.args.input.now in
    let i = c.args.input.now.position in
    let inside = c.requires.inside in
    let before = known_behind c.asked.result.any s i c.in-Some.byte c.byte_behind-behind.result (λ e. c.byte_behind-behind.ensures.asked e b inside) c.byte_behind-behind.ensures.unasked c.in-Some.ensures.some.0 in
    let there = before_there s i c.in-Some.byte inside.0 inside.4 before in
    let stands : slice_get s.content (c.position-at.result - 1) ≡ Some c.in-Some.byte = ap (λ k. slice_get s.content (k - 1)) c.position-at.ensures.position ∙ there.1 in
    quit_there g.T.Table.is_whole a s c.in-Some.byte (c.position-at.result - 1) (
      stands,
      omega (arith, there.0, c.position-at.ensures.position),
      omega (arith, there.0, inside.1, c.position-at.ensures.position),
      c.in-Some.ensures.some.1,
    )

pub first-requires-clause-begins : goal.first-requires-clause-begins
first-requires-clause-begins g c =
    let a = c.args.automaton.now in
    let b = a.alphabet.now.utf8_empty in
    let q = c.args.start in
    let old = c.args.input.now in
    let new = c.byte_behind-behind.new.input in
    let moved = c.byte_behind-behind.ensures.same in
    let s = search_by a new in
    let same = same_search b new old moved.same.content moved.asked_is in
    let first : new.position ≡ lowest s = moved.position_is ∙ c.requires.first ∙ ap (λ x. lowest x) (sym same) in
    record {
      anchoring = anchoring_of old.asked.anchored;
      start = q;
      starts = c.requires.start;
      starting_is = starts_from (directed a).is_back s q new.position c.first_starting-starting.result None c.requires.forward.way (c.first_starting-starting.ensures b first);
      byte = c.byte_behind-behind.result;
      may_be = c.side-side.ensures.byte;
      behind_is = c.side-side.ensures.side;
    }

pub returns-in-Err-clause-refused : goal.returns-in-Err-clause-refused
returns-in-Err-clause-refused g c =
    let a = c.args.automaton.now in
    lacks_there g.T.Table.is_whole a (search_by a c.args.input.now) c.args.input.now.position c.position-at.result c.in-Err.error c.requires.inside c.position-at.ensures.position c.in-Err.ensures.refused

pub follow-requires-clause-first : goal.follow-requires-clause-first
follow-requires-clause-first g c =
    let found = c.in-Ok.ensures.first in
    slice_get_within (g.T.Table.shown c.first.new.self).states c.in-Ok.first found.state found.stands

pub returns-in-Ok-clause-answer : goal.returns-in-Ok-clause-answer
returns-in-Ok-clause-answer g c =
    let a = c.args.automaton.now in
    let p = (directed a).bytes in
    let alphabet = a.alphabet.now in
    let b = alphabet.utf8_empty in
    let q = c.args.start in
    let old = c.args.input.now in
    let new = c.byte_behind-behind.new.input in
    let moved = c.byte_behind-behind.ensures.same in
    let s = search_by a new in
    let i = new.position in
    let states = (g.T.Table.shown c.first.new.self).states in
    let same : s ≡ search_by a old = same_search b new old moved.same.content moved.asked_is in
    let first : i ≡ lowest s = moved.position_is ∙ c.requires.first ∙ ap (λ x. lowest x) (sym same) in
    let starts : start_node (character_program p) (anchoring_of new.asked.anchored) ≡ Some q =
    subst (λ z. start_node (character_program p) (anchoring_of z) ≡ Some q) (sym (ap (λ x. x.anchored) moved.asked_is)) c.requires.start in
    let byte = c.byte_behind-behind.result in
    let any = ap (λ z. z.any) c.asked.ensures in
    let found = c.in-Ok.ensures.first in
    let x = found.state in
    let stands : SearchStandsAt a s q i states c.in-Ok.first None = record {
      state = x;
      stands = found.stands;
      reached = reached_first p s q i x first found.first.threads (subst (λ z. StartsSo s q i z None) (sym found.first.starting_is) (c.first_starting-starting.ensures b first));
      behind = behind_is p alphabet.asked s i x byte c.requires.is.asked
          (λ e. c.byte_behind-behind.ensures.asked (any ∙ e) b c.requires.inside ∙ ap₂ (λ z k. byte_before z k) (sym same) (sym moved.position_is))
          (λ e. c.byte_behind-behind.ensures.unasked (any ∙ e))
          (found.first.behind_is ∙ c.side-side.ensures.side) (c.byte_that_quits.ensures.none c.in_default.is);
    } in
    if_ok c.follow.result (λ found' answer. subst (λ z. IsHalfAnswer p z found') same (answer q starts stands)) c.follow.ensures.answer
