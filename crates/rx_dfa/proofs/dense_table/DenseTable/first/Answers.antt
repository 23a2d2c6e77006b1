use Rattle.std.proofs.Common.{sym, subst}
use Rattle.rx_dfa.specs.Caches.{CacheView}
use Rattle.rx_dfa.specs.DenseTables.{HasOneFirst}
use Rattle.rx_dfa.proofs.DenseLaws.{begins_there}
use Rattle.rx_dfa.proofs.dense_table.DenseTable.first.Goals as goal

pub unreachable-requires : goal.unreachable-requires
unreachable-requires c =
    let has = begins_there c.args.automaton.now c.args.self.now c.args.starting.now c.args.side.now c.requires.closed c.requires.begins in
    c.find_first.ensures.none c.in-None.is (subst (λ (v : CacheView). HasOneFirst v.states c.args.starting.now c.args.side.now) (sym c.self.view_is) has)
