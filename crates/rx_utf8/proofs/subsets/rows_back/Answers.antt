use Rattle.std.proofs.Common.{◌≡◌, ◌+◌, ◌-◌, suc, [], length, sym, ap, subst, arith}
use Rattle.std.specs.List.{All}
use Rattle.std.proofs.lemmas.List.Elements.{All-nil}
use Rattle.rx_utf8.specs.Automata.{step_in, IsAutomatonRow}
use Rattle.rx_utf8.specs.Blocks.{rows_of}
use Rattle.rx_utf8.specs.Subsets.{lists_of}
use Rattle.rx_utf8.proofs.SubsetLaws.{Made, made_none, made_more, made_all}
use Rattle.rx_utf8.proofs.subsets.rows_back.Goals as goal

pub loop-init : goal.loop-init
loop-init c =
    let step = step_in (rows_of c.args.forward.now) in
    let maker = c.in_ok-maker.maker in
    let none : rows_of maker.rows.items ≡ [] = ap rows_of c.in_ok-maker.ensures.rows in
    record {
      made = made_none (length c.args.forward.now) step (lists_of maker.subsets.sets.items) (rows_of maker.rows.items) (λ back. c.transposed_reads_alike.ensures step back) (subst (All IsAutomatonRow) (sym none) (All-nil IsAutomatonRow)) c.in_ok-maker.ensures.sets none;
      states = c.in_ok-maker.ensures.states;
      lists = c.in_ok-maker.ensures.lists;
    }

pub loop-preserved : goal.loop-preserved
loop-preserved c =
    let n = length c.args.forward.now in
    let step = step_in (rows_of c.args.forward.now) in
    let sets = lists_of c.loop.maker.subsets.sets.items in
    let rows = rows_of c.loop.maker.rows.items in
    let sets' = lists_of c.add_level.new.self.subsets.sets.items in
    let rows' = rows_of c.add_level.new.self.rows.items in
    let more = 4 - (c.loop.counter + 1) in
    let left : 4 - c.loop.counter ≡ suc more = omega arith in
    let made : Made n step (suc more) sets rows = subst (λ k. Made n step k sets rows) left c.loop.invariant.made in
    record {
      made = made_more n step more sets sets' rows rows' (λ back. c.transposed_reads_alike.ensures step back) made c.in_ok-add_level.ensures.rows;
      states = c.in_ok-add_level.ensures.states;
      lists = c.in_ok-add_level.ensures.lists;
    }

pub returns-clause-reads : goal.returns-clause-reads
returns-clause-reads c =
    let n = length c.args.forward.now in
    let step = step_in (rows_of c.args.forward.now) in
    let sets = lists_of c.loop.maker.subsets.sets.items in
    let rows = rows_of c.loop.maker.rows.items in
    let none : 4 - c.loop.counter ≡ 0 = omega arith in
    (length sets, made_all n step sets rows (subst (λ k. Made n step k sets rows) none c.loop.invariant.made))
