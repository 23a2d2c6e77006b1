use Rattle.std.proofs.Common.{◌≡◌, true, None, Some, refl, sym, ap, ◌∙◌, arith}
use Rattle.rx_walks.specs.Finds.{from_place_on}
use Rattle.rx_steps.specs.Searching.{search_of}
use Rattle.rx_chunk.specs.Engines.{EngineFinds, match_of}
use Rattle.rx_chunk.specs.Iterating.{MatchesLeft, IsFoundNext, left_behind}
use Rattle.rx_chunk.specs.FindMatches.{engine_of, left_of}
use Rattle.rx_chunk.proofs.IterLaws.{found_ends, left_there, moved_search, moved_on, set_to, gives_match, gives_none, fewer_left, none_left}
use Rattle.rx_chunk.proofs.KindLaws.{inside_of}
use Rattle.rx_chunk.proofs.pikevm.find_matches.FindMatchesIterator.next.Goals as goal

-- ---- nothing comes any more
pub returns-then-self-clause-steps : goal.returns-then-self-clause-steps
returns-then-self-clause-steps g c = let m = left_of c.args.self.now in let e = engine_of c.args.self.now in record {
  next = gives_none (EngineFinds e) match_of m m (λ goes_on. absurd (cc (sym goes_on ∙ c.if-self.true))) c.if-self.true;
  same_engine = refl;
  same_cache = refl;
}

-- ---- a match comes
pub set_start-requires : goal.set_start-requires
set_start-requires g c =
    let m = left_of c.args.self.now in
    let e = engine_of c.args.self.now in
    let a = c.in-Ok-Some.found in
    let is : IsFoundNext (EngineFinds e) m.search m.last_end (Some a) = rw c.in-Ok-Some.field-0-is at c.in-Ok-Some.ensures.answer in
    let ends = found_ends (EngineFinds e) m.last_end m.search a (inside_of e) is in
    let last : c.find_next.new.input.asked.span.end ≡ c.args.self.now.input.asked.span.end = ap (λ x. x.span.end) c.in-Ok-Some.ensures.same.1.asked in
    omega (arith, ends.in_span, last, c.end-end.ensures.end)

pub returns-in-Ok-Some-clause-steps : goal.returns-in-Ok-Some-clause-steps
returns-in-Ok-Some-clause-steps g c =
    let m = left_of c.args.self.now in
    let e = engine_of c.args.self.now in
    let b = c.args.self.now.vm.now.utf8_empty in
    let old = c.args.self.now.input in
    let new = c.set_start.new.self in
    let a = c.in-Ok-Some.found in
    let n : MatchesLeft = record { search = search_of b new; last_end = Some c.end-end.result; is_over = m.is_over } in
    let is : IsFoundNext (EngineFinds e) m.search m.last_end (Some a) = rw c.in-Ok-Some.field-0-is at c.in-Ok-Some.ensures.answer in
    let starts = moved_on old c.find_next.new.input new c.in-Ok-Some.ensures.same.0 c.end-end.result c.in-Ok-Some.ensures.same.1 (set_to c.find_next.new.input new c.end-end.result c.set_start.ensures) in
    let search : search_of b new ≡ from_place_on m.search a.span.end = moved_search b old new c.end-end.result starts ∙ ap (λ k. from_place_on m.search k) c.end-end.ensures.end in
    let left : n ≡ left_behind m a.span.end = left_there m (search_of b new) a.span.end c.end-end.result search c.end-end.ensures.end c.if-self.false in
    record {
      next = gives_match (EngineFinds e) m n a c.if-self.false is left;
      same_engine = refl;
      same_cache = refl;
    }

pub returns-in-Ok-Some-clause-goes : goal.returns-in-Ok-Some-clause-goes
returns-in-Ok-Some-clause-goes g c =
    let m = left_of c.args.self.now in
    let e = engine_of c.args.self.now in
    let b = c.args.self.now.vm.now.utf8_empty in
    let old = c.args.self.now.input in
    let new = c.set_start.new.self in
    let a = c.in-Ok-Some.found in
    let n : MatchesLeft = record { search = search_of b new; last_end = Some c.end-end.result; is_over = m.is_over } in
    let is : IsFoundNext (EngineFinds e) m.search m.last_end (Some a) = rw c.in-Ok-Some.field-0-is at c.in-Ok-Some.ensures.answer in
    let starts = moved_on old c.find_next.new.input new c.in-Ok-Some.ensures.same.0 c.end-end.result c.in-Ok-Some.ensures.same.1 (set_to c.find_next.new.input new c.end-end.result c.set_start.ensures) in
    let search : search_of b new ≡ from_place_on m.search a.span.end = moved_search b old new c.end-end.result starts ∙ ap (λ k. from_place_on m.search k) c.end-end.ensures.end in
    let ends = found_ends (EngineFinds e) m.last_end m.search a (inside_of e) is in
    let left : n ≡ left_behind m a.span.end = left_there m (search_of b new) a.span.end c.end-end.result search c.end-end.ensures.end c.if-self.false in
    let fewer = fewer_left m n a.span.end c.if-self.false ends left in
    record { on = λ _. (tt, tt, fewer); keeps = tt; rests = λ _. tt }

-- ---- none is found
pub returns-in-Ok-None-clause-steps : goal.returns-in-Ok-None-clause-steps
returns-in-Ok-None-clause-steps g c =
    let m = left_of c.args.self.now in
    let e = engine_of c.args.self.now in
    let b = c.args.self.now.vm.now.utf8_empty in
    let n : MatchesLeft = record m { search = search_of b c.find_next.new.input; is_over = true } in
    let is : IsFoundNext (EngineFinds e) m.search m.last_end None = rw c.in-Ok-None.field-0-is at c.in-Ok-None.ensures.answer in
    record { next = gives_none (EngineFinds e) match_of m n (λ _. is) refl; same_engine = refl; same_cache = refl }

-- ---- an error
pub returns-in-Err-clause-steps : goal.returns-in-Err-clause-steps
returns-in-Err-clause-steps g c = record { next = record { gives = (c.if-self.false, refl); refused = c.in-Err.ensures.refused }; same_engine = refl; same_cache = refl }

pub returns-in-Err-clause-goes : goal.returns-in-Err-clause-goes
returns-in-Err-clause-goes g c =
    let m = left_of c.args.self.now in
    let e = engine_of c.args.self.now in
    let b = c.args.self.now.vm.now.utf8_empty in
    let n : MatchesLeft = record m { search = search_of b c.find_next.new.input; is_over = true } in
    record { on = λ _. (tt, tt, none_left m n c.if-self.false refl); keeps = tt; rests = λ _. tt }
