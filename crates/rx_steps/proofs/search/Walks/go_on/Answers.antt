use Rattle.std.proofs.Common.{◌≡◌, ◌<◌, min, sym, subst, arith}
use Rattle.rx_walks.specs.Finds.{IsInside}
use Rattle.rx_steps.specs.Idle.{IsPassedAt}
use Rattle.rx_steps.specs.Searching.{search_of}
use Rattle.rx_steps.proofs.IdleLaws.{no_threads, no_value}
use Rattle.rx_steps.proofs.OverLaws.{same_search}
use Rattle.rx_steps.proofs.search.Walks.go_on.Goals as goal

pub returns-then-is_none-clause-inside : goal.returns-then-is_none-clause-inside
returns-then-is_none-clause-inside g c = λ told inside.
    let b = c.args.utf8_empty in
    let old = c.args.input.now in
    let next = c.advance.new.input in
    let same : search_of b next ≡ search_of b old = same_search b next old c.advance.ensures.same.same.content c.advance.ensures.same.asked_is in
    subst (λ s. IsInside s c.skip.new.input.position) same
    (c.skip.ensures.inside (subst (λ s. IsInside s next.position) (sym same) (c.advance.ensures.inside c.if-not-advance.false b inside)))

pub returns-then-is_none-clause-skipped : goal.returns-then-is_none-clause-skipped
returns-then-is_none-clause-skipped g c = λ told k from to. (
  no_threads c.args.self.now.live.threads (omega (arith, c.len.ensures, c.if-len-eq0.true)),
  no_value c.args.self.now.met c.if-is_none.ensures,
  subst (λ xs. IsPassedAt c.args.self.now.idle c.args.utf8_empty xs k) c.advance.ensures.same.same.content (c.skip.ensures.passed k (omega (arith, from, c.advance.ensures.next c.if-not-advance.false)) to),
)

pub returns-then-not-advance-clause-last : goal.returns-then-not-advance-clause-last
returns-then-not-advance-clause-last g c = λ told. c.advance.ensures.last c.if-not-advance.true c.args.utf8_empty

pub returns-else-len-eq0-clause-inside : goal.returns-else-len-eq0-clause-inside
returns-else-len-eq0-clause-inside g c = λ told inside. c.advance.ensures.inside c.if-not-advance.false c.args.utf8_empty inside

pub returns-then-is_none-clause-no_more : goal.returns-then-is_none-clause-no_more
returns-then-is_none-clause-no_more g c = λ told none unmet below here.
    let i = c.skip.new.input.position in
    c.skip.ensures.no_more (subst (λ a. i < min a.slice.end a.span.end) (sym c.advance.ensures.same.asked_is) below)
    (subst (λ xs. IsPassedAt c.args.self.now.idle c.args.utf8_empty xs i) (sym c.advance.ensures.same.same.content) here)
