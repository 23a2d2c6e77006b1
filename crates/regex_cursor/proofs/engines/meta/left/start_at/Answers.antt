use Rattle.std.proofs.Common.{◌≤◌, sym, subst, ◌∙◌, arith}
use Rattle.rx_util.specs.declared.search.Span.{Span}
use Rattle.regex_cursor.specs.Strategies.{BeginsFrom}
use Rattle.regex_cursor.proofs.LeftLaws.{from_start}
use Rattle.regex_cursor.proofs.engines.meta.left.start_at.Goals as goal

pub returns-in-None : goal.returns-in-None
returns-in-None g c = λ p s start end none some. none c.in-None.is

pub returns-in-Some : goal.returns-in-Some
returns-in-Some g c = λ p s start end none some.
    some c.in-Some.span c.in-Some.is
    (subst (λ (x : Span). x.start ≤ c.in-Some.span.start) c.get_slice.ensures (c.lies_in.ensures.from c.if-lies_in.true))
    (subst (λ (x : Span). c.in-Some.span.end ≤ x.end) c.get_slice.ensures (c.lies_in.ensures.to c.if-lies_in.true))

pub returns-in-Some-2 : goal.returns-in-Some-2
returns-in-Some-2 g c = λ p s start end none some.
    let ordered : s.start ≤ s.end = omega (arith, start, end, c.requires) in
    subst (BeginsFrom p s) (start ∙ sym c.start.ensures) (from_start p s ordered)
