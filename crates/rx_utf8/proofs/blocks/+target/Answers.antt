use Rattle.std.proofs.Common.{◌≡◌, ◌<◌, ◌≤◌, ◌+◌, length, [], ◌-◌, ◌*◌, true, subst, sym, arith}
use Rattle.std.specs.List.{All}
use Rattle.rx_sets.specs.Sets.{in_ranges}
use Rattle.rx_utf8.specs.Automata.{step_in, IsAutomatonRow}
use Rattle.rx_utf8.specs.Blocks.{size, AllBetween, Fits, rows_of}
use Rattle.rx_utf8.proofs.TargetLaws.{Filled, extends_on, whole_fits, filled_push, filled_skip, row_fits, last_fits, part_alike, rows_one_more}
use Rattle.rx_utf8.proofs.RowLaws.{rise_append}
use Rattle.rx_utf8.proofs.blocks.+target.Goals.{in-Some+in_ok-push_byte, in_default}
use Rattle.rx_utf8.proofs.blocks.+target.Goals as goal

pub returns-in-Some-true-clause-fits : goal.returns-in-Some-true-clause-fits
returns-in-Some-true-clause-fits t c =
    let p = in_ranges c.args.ranges.now in
    let v = c.args.value in
    let r = c.args.rest in
    let all₁ : AllBetween p (v * c.size.result) (v * c.size.result + (c.size-2.result - 1)) true = subst (λ b. AllBetween p (v * c.size.result) (v * c.size.result + (c.size-2.result - 1)) b) c.in-Some-true.field-0-test c.in-Some-true.ensures in
    let all₂ : AllBetween p (v * size r) (v * size r + (c.size-2.result - 1)) true = subst (λ x. AllBetween p (v * x) (v * x + (c.size-2.result - 1)) true) c.size.ensures all₁ in
    let all₃ : AllBetween p (v * size r) (v * size r + (size r - 1)) true = subst (λ x. AllBetween p (v * size r) (v * size r + (x - 1)) true) c.size-2.ensures all₂ in
    whole_fits (rows_of c.args.rows.now.items) p r v (omega (arith, c.if-rest-eq0.false)) c.requires.rest c.requires.prepared all₃

pub loop-byte-preserved : goal.loop-byte-preserved
loop-byte-preserved t c =
    let R = rows_of c.loop-byte.rows.items in
    let S = rows_of c.target.new.rows.items in
    let p = in_ranges c.ranges_up_to-part.result.now in
    let r = c.args.rest - 1 in
    let v = c.args.value in
    let to = c.loop-byte.byte in
    let inv = c.loop-byte.invariant in
    let ext = c.in_ok-next.ensures.grows in
    let fit : Fits (step_in S) (length S) p r (v * 64 + (to - 128)) c.in_ok-next.field-0 = c.in_ok-next.ensures.fits in
    let filled : Filled S p r v (to + 1) c.match-branch-4.row.items = elim c.match-branch-4.branch [
      | in-Some+in_ok-push_byte w ↦
          subst (λ row. Filled S p r v (to + 1) row.items) (sym w.row-is)
          (filled_push R S p r v to c.loop-byte.row.items w.push_byte.new.row.items w.in-Some.next ext inv.from inv.filled (subst (Fits (step_in S) (length S) p r (v * 64 + (to - 128))) w.in-Some.is fit)
          w.in_ok-push_byte.ensures.leads w.in_ok-push_byte.ensures.rises)
      | in_default w ↦
          subst (λ row. Filled S p r v (to + 1) row.items) (sym w.row-is)
          (filled_skip R S p r v to c.loop-byte.row.items ext inv.from inv.filled (subst (Fits (step_in S) (length S) p r (v * 64 + (to - 128))) w.in_default.is fit))
    ] in
    record {
      grows = extends_on (rows_of c.args.rows.now.items) R S inv.grows ext;
      kept = c.in_ok-next.ensures.kept;
      from = omega (arith, inv.from);
      filled = filled;
    }

pub returns-clause-fits : goal.returns-clause-fits
returns-clause-fits t c =
    let R = rows_of c.loop-byte.rows.items in
    let p = in_ranges c.ranges_up_to-part.result.now in
    let row = c.loop-byte.row.items in
    let inv = c.loop-byte.invariant in
    let end : c.loop-byte.byte ≡ 192 = omega (arith, c.loop-byte-test.false, c.loop-byte.auto.byte, c.loop-byte.auto.byte-end) in
    let filled : Filled R p (c.args.rest - 1) c.args.value 192 row = subst (λ x. Filled R p (c.args.rest - 1) c.args.value x row) end inv.filled in
    let more : 0 < length R = omega (arith, c.requires.prepared.0, inv.grows.0) in
    row_fits R (rows_of c.push_row-2.new.rows.items) p (in_ranges c.args.ranges.now) c.args.rest c.args.value c.in_ok-push_row-2.field-0 row (omega (arith, c.if-rest-eq0.false)) c.requires.rest more
    (part_alike p (in_ranges c.ranges_from.result.now) (in_ranges c.args.ranges.now) c.args.rest c.args.value c.size.result c.size-2.result c.size.ensures c.size-2.ensures c.ranges_up_to-part.ensures c.ranges_from.ensures)
    filled c.in_ok-push_row-2.ensures.rows c.in_ok-push_row-2.ensures.number

pub returns-clause-kept : goal.returns-clause-kept
returns-clause-kept t c =
    let R = rows_of c.loop-byte.rows.items in
    let row = c.loop-byte.row.items in
    let inv = c.loop-byte.invariant in
    let few : c.loop-byte.byte ≤ 256 = omega (arith, c.loop-byte.auto.byte-end) in
    subst (All IsAutomatonRow) (sym c.in_ok-push_row-2.ensures.rows) (rows_one_more R row c.loop-byte.byte few inv.kept inv.filled.rises)

pub returns-then-rest-eq1-clause-fits : goal.returns-then-rest-eq1-clause-fits
returns-then-rest-eq1-clause-fits t c =
    let R = rows_of c.args.rows.now.items in
    let p = in_ranges c.ranges_up_to-part.result.now in
    let row = c.in_ok-row.row.items in
    row_fits R (rows_of c.push_row.new.rows.items) p (in_ranges c.args.ranges.now) c.args.rest c.args.value c.in_ok-push_row.field-0 row (omega (arith, c.if-rest-eq0.false)) c.requires.rest (omega (arith, c.requires.prepared.0))
    (part_alike p (in_ranges c.ranges_from.result.now) (in_ranges c.args.ranges.now) c.args.rest c.args.value c.size.result c.size-2.result c.size.ensures c.size-2.ensures c.ranges_up_to-part.ensures c.ranges_from.ensures)
    (last_fits R p c.args.rest c.args.value row c.if-rest-eq1.true c.in_ok-row.ensures.leads c.in_ok-row.ensures.rises) c.in_ok-push_row.ensures.rows c.in_ok-push_row.ensures.number

pub returns-then-rest-eq1-clause-kept : goal.returns-then-rest-eq1-clause-kept
returns-then-rest-eq1-clause-kept t c =
    let R = rows_of c.args.rows.now.items in
    let row = c.in_ok-row.row.items in
    subst (All IsAutomatonRow) (sym c.in_ok-push_row.ensures.rows)
    (rows_one_more R row 192 (omega arith) c.requires.disjoint (rise_append 0 128 192 [] row (omega arith) c.in_ok-row.ensures.rises))
