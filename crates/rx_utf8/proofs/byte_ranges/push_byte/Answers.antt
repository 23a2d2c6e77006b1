use Rattle.std.proofs.Common.{rules, ◌≡◌, ◌+◌, ◌-◌, length, arith}
use Rattle.rx_utf8.proofs.RowLaws.{one_more, set_longer}
use Rattle.rx_utf8.proofs.byte_ranges.push_byte.Goals as goal

pub returns-then-takes_in-clause-rises : goal.returns-then-takes_in-clause-rises
returns-then-takes_in-clause-rises c =
    let len : length c.args.row.now.items ≡ c.len-len.result = search rules in
    let at : c.len-len.result - 1 + 1 ≡ length c.args.row.now.items = omega (arith, len, c.if-len-gt0.true) in
    (set_longer c.args.byte (c.len-len.result - 1) c.args.next c.args.row.now.items c.index.result.now c.index_mut.result.now c.requires at
    c.index.ensures c.index_mut.ensures.value c.if-takes_in.ensures.0 c.if-takes_in.ensures.1).0

pub returns-then-takes_in-clause-leads : goal.returns-then-takes_in-clause-leads
returns-then-takes_in-clause-leads c =
    let len : length c.args.row.now.items ≡ c.len-len.result = search rules in
    let at : c.len-len.result - 1 + 1 ≡ length c.args.row.now.items = omega (arith, len, c.if-len-gt0.true) in
    (set_longer c.args.byte (c.len-len.result - 1) c.args.next c.args.row.now.items c.index.result.now c.index_mut.result.now c.requires at
    c.index.ensures c.index_mut.ensures.value c.if-takes_in.ensures.0 c.if-takes_in.ensures.1).1

pub returns-clause-rises : goal.returns-clause-rises
returns-clause-rises c = (one_more c.args.byte c.args.next c.args.row.now.items c.push.new.self.items c.requires c.in_ok-push.ensures.items).0

pub returns-clause-leads : goal.returns-clause-leads
returns-clause-leads c = (one_more c.args.byte c.args.next c.args.row.now.items c.push.new.self.items c.requires c.in_ok-push.ensures.items).1
