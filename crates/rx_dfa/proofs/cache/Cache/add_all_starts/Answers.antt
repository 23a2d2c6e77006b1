use Rattle.std.proofs.Common.{subst}
use Rattle.rx_dfa.specs.Automata.{directed}
use Rattle.rx_dfa.specs.DenseTables.{HasStartsFrom}
use Rattle.rx_dfa.proofs.DenseLaws.{starts_by_patterns, starts_from_still}
use Rattle.rx_dfa.proofs.cache.Cache.add_all_starts.Goals as goal

pub returns-clause-starts : goal.returns-clause-starts
returns-clause-starts c =
    let p = directed c.args.automaton.now in
    let alphabet = c.args.automaton.now.alphabet.now in
    let states = c.add_sides.new.self.states in
    starts_by_patterns p alphabet states (subst (λ q. HasStartsFrom p alphabet states q) c.start.ensures c.in_ok-add_sides.ensures.starts) (λ k q at. starts_from_still p alphabet c.add_patterns.new.self.states states q c.in_ok-add_sides.ensures.kept (c.in_ok-add_patterns.ensures.starts k q at))
