use Rattle.std.proofs.Common.{rules, ◌≡◌, sym, subst}
use Rattle.rx_walks.specs.Transposed.{ReadsLast}
use Rattle.rx_utf8.specs.Automata.{is_in, step_in}
use Rattle.rx_utf8.specs.Blocks.{rows_of}
use Rattle.rx_utf8.proofs.reverse_automaton.ReverseAutomaton.new.Goals as goal

pub invariant_of-result : goal.invariant_of-result
invariant_of-result c =
    let set = c.args.set.now.value in
    let same : c.in_ok-set.set.value ≡ set = search rules in
    let forward = step_in (rows_of c.args.forward.now) in
    let back = step_in (rows_of c.in_ok-rows.rows.items) in
    let reads = c.in_ok-rows.ensures.reads in
    record {
      reads_last = subst (λ ranges. ReadsLast (is_in ranges) back) (sym same) (c.transposed_reads_last.ensures (is_in set) forward back reads.0 c.requires.reads reads.1);
      never_returns = c.in_ok-rows.ensures.never_returns;
      disjoint = c.in_ok-rows.ensures.disjoint;
    }
