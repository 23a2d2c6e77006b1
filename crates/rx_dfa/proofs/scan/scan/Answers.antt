use Rattle.std.proofs.Common.{◌≡◌, ◌+◌, ◌-◌, ◌<◌, Some, length, take, drop, get_or, slice_get, sym, subst, arith}
use Rattle.std.proofs.lemmas.Option.{slice_get-get_or, slice_get_within}
use Rattle.std.proofs.lemmas.Result.{err_from_is_err_and}
use Rattle.rx_dfa.specs.Automata.{directed}
use Rattle.rx_dfa.specs.Caches.{CacheView, HoldsSteps}
use Rattle.rx_dfa.proofs.TableLaws.{there_is}
use Rattle.rx_dfa.proofs.ScanLaws.{byte_after_them, cache_in, passed_none, refused_on, run_after, run_shown}
use Rattle.rx_dfa.proofs.scan.scan.Goals as goal

pub loop-len-init : goal.loop-len-init
loop-len-init g c = record {
  table = c.requires.table;
  number = c.requires.first;
  len = omega arith;
  passed = λ x stands. passed_none c.args.automaton.now (g.T.Table.shown c.args.table.now).states x c.args.bytes.now c.args.at c.args.first c.args.met.now stands;
}

pub run-there-requires-clause-made : goal.run-there-requires-clause-made
run-there-requires-clause-made g c =
    let a = c.args.automaton.now in
    subst (λ v. HoldsSteps (directed a) a.alphabet.now v) (sym c.known-known.ensures) (cache_in g.T.Table.is_whole a (g.T.Table.shown c.loop-len.table) c.loop-len.invariant.table)

pub run-there-requires-clause-first : goal.run-there-requires-clause-first
run-there-requires-clause-first g c = subst (λ (v : CacheView). c.loop-len.number < length v.states) (sym c.known-known.ensures) c.loop-len.invariant.number

pub pass-requires-clause-number : goal.pass-requires-clause-number
pass-requires-clause-number g c =
    let shown = g.T.Table.shown c.loop-len.table in
    let here = there_is shown.states c.loop-len.number c.loop-len.invariant.number in
    let on = run_shown c.args.automaton.now c.known-known.result.now shown (take c.run-there.result.1 (take (length c.args.bytes.now - c.loop-len.len) (drop c.loop-len.len c.args.bytes.now))) (c.args.at + c.loop-len.len) c.loop-len.number c.run-there.result.0 c.loop-len.met c.run-there.new.met c.known-known.ensures c.run-there.ensures.passed here.0 here.1 in
    slice_get_within shown.states c.run-there.result.0 on.next on.stands

pub returns-in_err-number-clause-refused : goal.returns-in_err-number-clause-refused
returns-in_err-number-clause-refused g c =
    let bytes = c.args.bytes.now in
    let n = c.loop-len.len + c.run-there.result.1 in
    let is : slice_get bytes n ≡ Some (get_or bytes n 0) = slice_get-get_or bytes n 0 (omega (arith, c.if-len-bytes.false)) in
    let p = err_from_is_err_and c.from_residual.result c.from_residual.ensures.1 in
    rw (p.1, p.2) (refused_on g.T.Table.is_whole c.args.automaton.now c.args.at n (get_or bytes n 0) bytes c.in_err-number.field-0.0 is c.in_err-number.ensures.refused)

pub loop-len-preserved : goal.loop-len-preserved
loop-len-preserved g c =
    let a = c.args.automaton.now in
    let bytes = c.args.bytes.now in
    let shown = g.T.Table.shown c.loop-len.table in
    let few = length bytes - c.loop-len.len in
    let n = c.loop-len.len + c.run-there.result.1 in
    let lt : n < length bytes = omega (arith, c.if-len-bytes.false) in
    let is : slice_get bytes n ≡ Some (get_or bytes n 0) = slice_get-get_or bytes n 0 lt in
    let run = run_shown a c.known-known.result.now shown (take c.run-there.result.1 (take few (drop c.loop-len.len bytes))) (c.args.at + c.loop-len.len) c.loop-len.number c.run-there.result.0 c.loop-len.met c.run-there.new.met c.known-known.ensures c.run-there.ensures.passed in
    record {
      table = c.pass.ensures.table;
      number = c.in_ok-number.ensures.number;
      len = omega (arith, lt);
      passed = λ x stands. byte_after_them a shown.states (g.T.Table.shown c.pass.new.table).states x bytes n (get_or bytes n 0) c.args.at c.run-there.result.0 c.in_ok-number.number c.args.met.now c.run-there.new.met c.pass.new.met is
          (run_after a shown.states x bytes c.loop-len.len c.run-there.result.1 few c.args.at c.loop-len.number c.run-there.result.0 c.args.met.now c.loop-len.met c.run-there.new.met c.loop-len.invariant.len c.run-there.ensures.within (c.loop-len.invariant.passed x stands) run)
          c.in_ok-number.ensures.passed;
    }

pub returns-then-len-bytes-clause-passed : goal.returns-then-len-bytes-clause-passed
returns-then-len-bytes-clause-passed g c = λ x stands.
    let a = c.args.automaton.now in
    let bytes = c.args.bytes.now in
    let shown = g.T.Table.shown c.loop-len.table in
    let few = length bytes - c.loop-len.len in
    let run = run_shown a c.known-known.result.now shown (take c.run-there.result.1 (take few (drop c.loop-len.len bytes))) (c.args.at + c.loop-len.len) c.loop-len.number c.run-there.result.0 c.loop-len.met c.run-there.new.met c.known-known.ensures c.run-there.ensures.passed in
    run_after a shown.states x bytes c.loop-len.len c.run-there.result.1 few c.args.at c.loop-len.number c.run-there.result.0 c.args.met.now c.loop-len.met c.run-there.new.met c.loop-len.invariant.len c.run-there.ensures.within (c.loop-len.invariant.passed x stands) run

pub returns-then-is_over-clause-passed : goal.returns-then-is_over-clause-passed
returns-then-is_over-clause-passed g c = λ x stands.
    let a = c.args.automaton.now in
    let bytes = c.args.bytes.now in
    let shown = g.T.Table.shown c.loop-len.table in
    let few = length bytes - c.loop-len.len in
    let n = c.loop-len.len + c.run-there.result.1 in
    let is : slice_get bytes n ≡ Some (get_or bytes n 0) = slice_get-get_or bytes n 0 (omega (arith, c.if-len-bytes.false)) in
    let run = run_shown a c.known-known.result.now shown (take c.run-there.result.1 (take few (drop c.loop-len.len bytes))) (c.args.at + c.loop-len.len) c.loop-len.number c.run-there.result.0 c.loop-len.met c.run-there.new.met c.known-known.ensures c.run-there.ensures.passed in
    byte_after_them a shown.states (g.T.Table.shown c.pass.new.table).states x bytes n (get_or bytes n 0) c.args.at c.run-there.result.0 c.in_ok-number.number c.args.met.now c.run-there.new.met c.pass.new.met is
    (run_after a shown.states x bytes c.loop-len.len c.run-there.result.1 few c.args.at c.loop-len.number c.run-there.result.0 c.args.met.now c.loop-len.met c.run-there.new.met c.loop-len.invariant.len c.run-there.ensures.within (c.loop-len.invariant.passed x stands) run)
    c.in_ok-number.ensures.passed

pub is_over-requires : goal.is_over-requires
is_over-requires g c = subst (λ (v : CacheView). c.in_ok-number.number < length v.states) (sym c.known.ensures) c.in_ok-number.ensures.number
