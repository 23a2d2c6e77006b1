use Rattle.std.proofs.Common.{◌≡◌, ◌+◌, ◌-◌, ◌<◌, length, min, ◌∙◌, sym, ap, subst, arith}
use Rattle.std.proofs.lemmas.Option.{slice_get_within}
use Rattle.rx_walks.specs.Finds.{IsInside}
use Rattle.rx_steps.specs.Idle.{IsPassedAt}
use Rattle.rx_steps.specs.Searching.{search_of}
use Rattle.rx_steps.proofs.IdleLaws.{passed_joined}
use Rattle.rx_steps.proofs.OverLaws.{same_search}
use Rattle.rx_steps.proofs.idle.skip.Goals as goal

pub loop-utf8_empty-preserved : goal.loop-utf8_empty-preserved
loop-utf8_empty-preserved g c =
    let old = c.args.input.now in
    let here = c.loop-utf8_empty.input in
    let there = c.move_to.new.self in
    let n = c.passed_ahead-len.result in
    let b = c.args.utf8_empty in
    let same : search_of b here ≡ search_of b old = same_search b here old c.loop-utf8_empty.invariant.same.content c.loop-utf8_empty.invariant.asked in
    -- as far as the bytes of the chunk go
    let moved : IsInside (search_of b old) here.position → IsInside (search_of b old) there.position =
    λ inside.
    let ahead : IsInside (search_of b old) (here.position + n) =
    subst (λ s. IsInside s (here.position + n)) same (c.passed_ahead-len.ensures.inside (subst (λ s. IsInside s here.position) (sym same) inside)) in
    subst (λ i. IsInside (search_of b old) i) (omega (arith, c.move_to.ensures.position_is, c.position.ensures.position, ahead.4, ap (λ xs. length xs) c.loop-utf8_empty.invariant.same.content)) ahead in
    let content : here.cursor.content ≡ old.cursor.content = c.loop-utf8_empty.invariant.same.content in
    record {
      above = omega (arith, c.loop-utf8_empty.invariant.above, c.move_to.ensures.position_is, c.position.ensures.position, c.position.ensures.holds.before_end, c.position.ensures.holds.lawful.within);
      inside = λ inside. moved (c.loop-utf8_empty.invariant.inside inside);
      passed = passed_joined c.args.idle.now b old.cursor.content old.position here.position there.position c.loop-utf8_empty.invariant.passed
          (λ k from to. subst (λ xs. IsPassedAt c.args.idle.now b xs k) content (c.passed_ahead-len.ensures.passed k from (omega (arith, to, c.move_to.ensures.position_is, c.position.ensures.position))));
      same = record { content = c.move_to.ensures.same.content ∙ content; is_sized = c.move_to.ensures.same.is_sized ∙ c.loop-utf8_empty.invariant.same.is_sized };
      asked = c.move_to.ensures.asked_is ∙ c.loop-utf8_empty.invariant.asked;
    }

pub loop-utf8_empty-smaller : goal.loop-utf8_empty-smaller
loop-utf8_empty-smaller g c =
    let here = c.loop-utf8_empty.input in
    let there = c.move_to.new.self in
    let n = c.passed_ahead-len.result in
    let content = c.args.input.now.cursor.content in
    let some : 0 < n = omega (arith, c.if-len-eq0.false) in
    let one = c.passed_ahead-len.ensures.passed here.position (omega arith) (omega (arith, some)) in
    let lt : here.position < length here.cursor.content = slice_get_within here.cursor.content here.position one.0 one.1 in
    let smaller : length content - there.position < length content - here.position =
    omega (arith, some, lt, c.move_to.ensures.position_is, c.position.ensures.position, ap (λ xs. length xs) c.loop-utf8_empty.invariant.same.content) in
    smaller

pub returns-then-len-eq0-clause-no_more : goal.returns-then-len-eq0-clause-no_more
returns-then-len-eq0-clause-no_more g c = λ below here.
    let b = c.args.utf8_empty in
    let there = c.loop-utf8_empty.input in
    let same = c.loop-utf8_empty.invariant in
    c.passed_ahead-len.ensures.no_more c.if-len-eq0.true
    (subst (λ a. there.position < min a.slice.end a.span.end) (sym same.asked) below)
    (subst (λ xs. IsPassedAt c.args.idle.now b xs there.position) (sym same.same.content) here)
