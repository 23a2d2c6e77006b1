use Rattle.std.proofs.Common.{◌+◌, ◌*◌, subst, sym, arith}
use Rattle.rx_sets.specs.Sets.{in_ranges}
use Rattle.rx_utf8.specs.Blocks.{AllBetween}
use Rattle.rx_utf8.proofs.TargetLaws.{LastFilled, last_skip, last_push}
use Rattle.rx_utf8.proofs.blocks.last_row.Goals.{then-is_in+in_ok-push, else-is_in}
use Rattle.rx_utf8.proofs.blocks.last_row.Goals as goal

pub loop-code-preserved : goal.loop-code-preserved
loop-code-preserved c =
    let p = in_ranges c.args.ranges.now in
    let low = c.args.value * 64 in
    let code = c.loop-code.code in
    let last = c.run-is_in.result.1 in
    let inv = c.loop-code.invariant in
    let row = c.loop-code.row.items in
    let before : LastFilled p low code row = record { leads = inv.leads; rises = inv.rises } in
    let filled : LastFilled p low (last + 1) c.if-is_in.row.items = elim c.if-is_in.branch [
      | then-is_in+in_ok-push w ↦
          subst (λ row. LastFilled p low (last + 1) row.items) (sym w.row-is)
          (last_push p low code last row w.push.new.self.items inv.from c.run-is_in.ensures.from (subst (AllBetween p code last) w.if-is_in.true c.run-is_in.ensures.alike) before w.in_ok-push.ensures.items)
      | else-is_in w ↦
          subst (λ row. LastFilled p low (last + 1) row.items) (sym w.row-is)
          (last_skip p low code last row inv.from c.run-is_in.ensures.from (subst (AllBetween p code last) w.if-is_in.false c.run-is_in.ensures.alike) before)
    ] in
    record {
      from = omega (arith, inv.from, c.run-is_in.ensures.from);
      to = omega (arith, c.run-is_in.ensures.to);
      leads = filled.leads;
      rises = filled.rises;
    }
