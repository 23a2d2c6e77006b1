use Rattle.std.proofs.Common.{◌≡◌, [], ◌∷◌, ◌++◌, length, None, refl, sym, ap, ap₂, subst, ◌∙◌, arith}
use Rattle.std.specs.List.{last_or}
use Rattle.rx_util.specs.Search.{Found}
use Rattle.rx_walks.specs.Iterating.{MatchesLeft}
use Rattle.rx_chunk.specs.Engines.{EngineFinds, match_of}
use Rattle.rx_chunk.proofs.IterLaws.{fewer_left}
use Rattle.rx_chunk.proofs.OrderLaws.{all_of, first_matches, never_over, one_more, stands_behind}
use Rattle.regex_cursor.specs.Linear.{GivesSlots, HasListed, IsListedFor, LinearState, left_of}
use Rattle.regex_cursor.specs.Regexes.{search_by}
use Rattle.regex_cursor.proofs.LinearLaws.{comes_ahead, given, given_none, given_ordered, same_places}
use Rattle.regex_cursor.proofs.ListingLaws.{map_one_more}
use Rattle.regex_cursor.proofs.engines.meta.all.collect.Goals as goal

pub loop-found-init : goal.loop-found-init
loop-found-init g c =
    let e = c.args.re.now.engine in
    let m = c.args.left.now in
    let s = search_by e m.input in
    record {
      matches = [];
      are_first = (first_matches e s).none;
      stands = ap (left_of e) c.requires.fresh;
      found_are = c.new-found.ensures.items;
      made = c.requires.made;
      room = refl;
      alike = subst (λ (x : LinearState). IsListedFor e x) (sym c.requires.fresh) tt;
      listed = subst (λ (x : LinearState). HasListed (length c.args.slots.now) x) (sym c.requires.fresh) tt;
      places = refl;
      counted = omega arith;
    }

pub returns-in-None-clause-all : goal.returns-in-None-clause-all
returns-in-None-clause-all g c =
    let e = c.args.re.now.engine in
    let s = search_by e c.args.left.now.input in
    let m = left_of e c.loop-found.left in
    let n = left_of e c.next_slots.new.self in
    let inv = c.loop-found.invariant in
    let on = ap (λ (x : MatchesLeft). x.is_over) inv.stands ∙ never_over s (last_or None inv.matches) in
    let gives = subst (λ o. GivesSlots (EngineFinds e) m o c.next_slots.new.slots n) c.in-None.is (c.in_ok-pattern.ensures.next on) in
    record { matches = inv.matches; are_all = all_of e s inv.matches m inv.are_first inv.stands (given_none (EngineFinds e) m n c.next_slots.new.slots gives); items_are = inv.found_are }

pub push_place-requires : goal.push_place-requires
push_place-requires g c =
    let e = c.args.re.now.engine in
    let s = search_by e c.args.left.now.input in
    let m = left_of e c.loop-found.left in
    let n = left_of e c.next_slots.new.self in
    let inv = c.loop-found.invariant in
    let on = ap (λ (x : MatchesLeft). x.is_over) inv.stands ∙ never_over s (last_or None inv.matches) in
    let slots = c.next_slots.new.slots in
    let gives = subst (λ o. GivesSlots (EngineFinds e) m o slots n) c.in-Some.is (c.in_ok-pattern.ensures.next on) in
    let is = given e c.group_info-groups.ensures.regex m n c.in-Some.pattern slots (omega (arith, c.requires.slots, inv.room)) gives in
    record { ordered = given_ordered e m n c.in-Some.pattern slots is }

pub loop-found-smaller : goal.loop-found-smaller
loop-found-smaller g c =
    let e = c.args.re.now.engine in
    let s = search_by e c.args.left.now.input in
    let m = left_of e c.loop-found.left in
    let n = left_of e c.next_slots.new.self in
    let inv = c.loop-found.invariant in
    let on = ap (λ (x : MatchesLeft). x.is_over) inv.stands ∙ never_over s (last_or None inv.matches) in
    let slots = c.next_slots.new.slots in
    let gives = subst (λ o. GivesSlots (EngineFinds e) m o slots n) c.in-Some.is (c.in_ok-pattern.ensures.next on) in
    let is = given e c.group_info-groups.ensures.regex m n c.in-Some.pattern slots (omega (arith, c.requires.slots, inv.room)) gives in
    fewer_left m n _ on (comes_ahead e m.search m.last_end is.outcome is.comes) is.left

pub loop-found-preserved : goal.loop-found-preserved
loop-found-preserved g c =
    let e = c.args.re.now.engine in
    let s = search_by e c.args.left.now.input in
    let m = left_of e c.loop-found.left in
    let n = left_of e c.next_slots.new.self in
    let inv = c.loop-found.invariant in
    let on = ap (λ (x : MatchesLeft). x.is_over) inv.stands ∙ never_over s (last_or None inv.matches) in
    let slots = c.next_slots.new.slots in
    let gives = subst (λ o. GivesSlots (EngineFinds e) m o slots n) c.in-Some.is (c.in_ok-pattern.ensures.next on) in
    let is = given e c.group_info-groups.ensures.regex m n c.in-Some.pattern slots (omega (arith, c.requires.slots, inv.room)) gives in
    let t = is.outcome in
    let same = c.next_slots.ensures.same in
    let listed = c.next_slots.ensures.listed on in
    let counted = c.in_ok-pattern.ensures.counted c.requires.first inv.listed in
    let one : Found = record { pattern = c.in-Some.pattern; span = (match_of t).span } in
    let told : one ≡ match_of t = ap (λ k. record { pattern = k; span = (match_of t).span }) is.pattern in
    record {
      matches = inv.matches ++ t ∷ [];
      are_first = one_more e s inv.matches m t inv.are_first inv.stands is.comes;
      stands = stands_behind e s inv.matches m n t inv.stands is.left;
      found_are = c.in_ok-push_place-in-Some.ensures (match_of t).span is.span ∙ ap₂ (λ xs x. xs ++ x ∷ []) inv.found_are told ∙ sym (map_one_more match_of inv.matches t);
      made = c.next_slots.ensures.made;
      room = omega (arith, inv.room);
      alike = c.next_slots.ensures.alike;
      listed = listed;
      places = same_places c.loop-found.left c.next_slots.new.self same.0 same.1 c.next_slots.ensures.first ∙ inv.places;
      counted = omega (arith, counted, inv.counted);
    }
