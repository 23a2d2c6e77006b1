use Rattle.std.proofs.Common.{All, None, get_or, refl, subst, arith}
use Rattle.rx_utf8.specs.declared.byte_ranges.ByteRange.{ByteRange}
use Rattle.rx_dfa.specs.Classes.{IsCut}
use Rattle.rx_dfa.proofs.ClassLaws.{row_more, take_all}
use Rattle.rx_dfa.proofs.classes.cut_row.Goals as goal

pub loop-range-preserved : goal.loop-range-preserved
loop-range-preserved c =
    let d : ByteRange = record { first = 0; last = 0; next = None } in
    record {
      cut = row_more c.loop-range.cuts c.cut.new.cuts c.args.row.now c.loop-range.range-index (get_or c.args.row.now c.loop-range.range-index d) d c.loop-range-test.true
          c.cut.ensures.more c.loop-range.invariant.cut refl (c.cut.ensures.first, c.cut.ensures.behind);
      more = λ k has. c.cut.ensures.more k (c.loop-range.invariant.more k has);
    }

pub returns-clause-cut : goal.returns-clause-cut
returns-clause-cut c = subst (λ xs. All (IsCut c.loop-range.cuts) xs) (take_all c.args.row.now c.loop-range.range-index (omega (arith, c.loop-range-test.false))) c.loop-range.invariant.cut
