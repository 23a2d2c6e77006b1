use Rattle.std.proofs.Common.{refl, ap, arith}
use Rattle.rx_util.specs.declared.search.Span.{Span}
use Rattle.regex_cursor.proofs.engines.meta.linear.LinearMatches.new.Goals as goal

pub invariant_of-result : goal.invariant_of-result
invariant_of-result g c =
    let slice = ap (λ (x : Span). x.start) c.get_slice.ensures in (
      record { few = omega arith; further = λ on. omega (arith, c.max-first.ensures, slice, c.start.ensures); starts = λ on. tt; fresh = λ on none. refl; rest = tt },
      tt,
    )
