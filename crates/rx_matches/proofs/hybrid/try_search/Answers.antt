use Rattle.std.proofs.Common.{◌≡◌, Some, None, sym, ap, subst, ◌∙◌, arith}
use Rattle.rx_walks.specs.Backward.{back_from}
use Rattle.rx_steps.specs.Reversed.{IsHalfAnswerBack}
use Rattle.rx_steps.specs.Searching.{search_of}
use Rattle.rx_dfa.specs.Searching.{IsHalfAnswer}
use Rattle.rx_chunk.specs.Engines.{Finds, IsFound}
use Rattle.rx_matches.specs.Halves.{StartsAtSpan, whole_of}
use Rattle.rx_matches.proofs.HalfLaws.{back_answer, back_there, back_whole, first_whole, half_lies, same_search, whole_inside, whole_ordered}
use Rattle.rx_matches.proofs.hybrid.try_search.Goals as goal

-- ---- the start is known
pub whole-requires : goal.whole-requires
whole-requires g c =
    let p = c.args.re.now.engine.program in
    let s = search_of c.args.re.now.engine.utf8_empty c.args.input.now in
    let half = c.in-Some.half in
    let lies = half_lies p s half (subst (λ o. IsHalfAnswer p s o) c.in-Some.is c.in_ok-half.ensures.answer) in
    let start : c.start.result ≡ s.start = c.start.ensures ∙ ap (λ a. a.span.start) c.in_ok-half.ensures.asked in
    omega (arith, lies.on, start)

pub returns-then-starts_first-clause-answer : goal.returns-then-starts_first-clause-answer
returns-then-starts_first-clause-answer g c =
    let p = c.args.re.now.engine.program in
    let u = c.args.re.now.engine.utf8_empty in
    let s = search_of u c.args.input.now in
    let half = c.in-Some.half in
    let answer = subst (λ o. IsHalfAnswer p s o) c.in-Some.is c.in_ok-half.ensures.answer in
    let same = same_search u c.args.input.now c.try_search_fwd.new.input c.in_ok-half.ensures.same c.in_ok-half.ensures.asked in
    let start : c.start.result ≡ s.start = c.start.ensures ∙ ap (λ a. a.span.start) c.in_ok-half.ensures.asked in
    let first : StartsAtSpan s half.offset = subst (λ k. StartsAtSpan s k) c.offset-end.ensures (subst (λ x. StartsAtSpan x c.offset-end.result) same (c.starts_first.ensures.yes c.if-starts_first.true u)) in
    subst (λ m. IsFound (Finds p) s (Some m)) (sym (c.whole.ensures ∙ ap (λ k. whole_of half k) start)) (first_whole p s half answer first)

pub returns-then-starts_first-clause-inside : goal.returns-then-starts_first-clause-inside
returns-then-starts_first-clause-inside g c =
    whole_inside c.args.re.now.engine.program c.args.re.now.engine.utf8_empty c.args.input.now (Some c.whole.result) c.position-at.ensures.holds.lawful.bound (returns-then-starts_first-clause-answer g c)

-- ---- the backward search
pub search_back-requires : goal.search_back-requires
search_back-requires g c =
    let p = c.args.re.now.engine.program in
    let s = search_of c.args.re.now.engine.utf8_empty c.args.input.now in
    let half = c.in-Some.half in
    let lies = half_lies p s half (subst (λ o. IsHalfAnswer p s o) c.in-Some.is c.in_ok-half.ensures.answer) in
    let start : c.try_search_fwd.new.input.asked.span.start ≡ s.start = ap (λ a. a.span.start) c.in_ok-half.ensures.asked in
    let last : c.try_search_fwd.new.input.asked.span.end ≡ s.end = ap (λ a. a.span.end) c.in_ok-half.ensures.asked in
    record { made = c.in_ok-half.ensures.made; unanchored = c.starts_first.ensures.no c.if-starts_first.false; end = omega (arith, lies.on, start, c.offset-end.ensures); span = omega (arith, lies.on, lies.in_span, start, last) }

-- it finds a start
pub returns-in_default-2-clause-answer : goal.returns-in_default-2-clause-answer
returns-in_default-2-clause-answer g c =
    let p = c.args.re.now.engine.program in
    let u = c.args.re.now.engine.utf8_empty in
    let s = search_of u c.args.input.now in
    let half = c.in-Some.half in
    let answer = subst (λ o. IsHalfAnswer p s o) c.in-Some.is c.in_ok-half.ensures.answer in
    let told : IsHalfAnswerBack p (back_from (search_of u c.try_search_fwd.new.input) c.offset-end.result) None = subst (λ o. IsHalfAnswerBack p (back_from (search_of u c.try_search_fwd.new.input) c.offset-end.result) o) c.in_default-2.is c.in_ok-back.ensures.answer in
    let there = back_answer p u c.args.input.now c.try_search_fwd.new.input half c.offset-end.result None c.in_ok-half.ensures.same c.in_ok-half.ensures.asked c.offset-end.ensures told in
    absurd (back_there p s half answer there)

pub returns-clause-answer : goal.returns-clause-answer
returns-clause-answer g c =
    let p = c.args.re.now.engine.program in
    let u = c.args.re.now.engine.utf8_empty in
    let s = search_of u c.args.input.now in
    let half = c.in-Some.half in
    let answer = subst (λ o. IsHalfAnswer p s o) c.in-Some.is c.in_ok-half.ensures.answer in
    let back = c.in-Some-2.back in
    let told : IsHalfAnswerBack p (back_from (search_of u c.try_search_fwd.new.input) c.offset-end.result) (Some back) = subst (λ o. IsHalfAnswerBack p (back_from (search_of u c.try_search_fwd.new.input) c.offset-end.result) o) c.in-Some-2.is c.in_ok-back.ensures.answer in
    let there = back_answer p u c.args.input.now c.try_search_fwd.new.input half c.offset-end.result (Some back) c.in_ok-half.ensures.same c.in_ok-half.ensures.asked c.offset-end.ensures told in
    subst (λ m. IsFound (Finds p) s (Some m)) (sym (c.whole-2.ensures ∙ ap (λ k. whole_of half k) c.offset.ensures)) (back_whole p s half back answer there)

pub whole-requires-2 : goal.whole-requires-2
whole-requires-2 g c =
    let p = c.args.re.now.engine.program in
    let u = c.args.re.now.engine.utf8_empty in
    let s = search_of u c.args.input.now in
    let half = c.in-Some.half in
    let answer = subst (λ o. IsHalfAnswer p s o) c.in-Some.is c.in_ok-half.ensures.answer in
    let back = c.in-Some-2.back in
    let told : IsHalfAnswerBack p (back_from (search_of u c.try_search_fwd.new.input) c.offset-end.result) (Some back) = subst (λ o. IsHalfAnswerBack p (back_from (search_of u c.try_search_fwd.new.input) c.offset-end.result) o) c.in-Some-2.is c.in_ok-back.ensures.answer in
    let there = back_answer p u c.args.input.now c.try_search_fwd.new.input half c.offset-end.result (Some back) c.in_ok-half.ensures.same c.in_ok-half.ensures.asked c.offset-end.ensures told in
    let ordered = whole_ordered p s (whole_of half back.offset) (back_whole p s half back answer there) in
    omega (arith, ordered, c.offset.ensures)

pub returns-clause-inside : goal.returns-clause-inside
returns-clause-inside g c =
    whole_inside c.args.re.now.engine.program c.args.re.now.engine.utf8_empty c.args.input.now (Some c.whole-2.result) c.position-at.ensures.holds.lawful.bound (returns-clause-answer g c)
