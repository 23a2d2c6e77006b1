use Rattle.std.proofs.Common.{◌+◌, ◌-◌, length}
use Rattle.rx_dfa.specs.declared.cache.TheConstants.{ENDS}
use Rattle.rx_dfa.specs.Tables.{HoldsBy}
use Rattle.rx_dfa.specs.Caches.{KeepNumbers}
use Rattle.rx_dfa.specs.DenseTables.{AreKnown, HaveRows}
use Rattle.rx_dfa.proofs.cache.Cache.close.Given as goal

-- all steps from the states so far are known
abbrev pub invariant-loop-number : goal.invariant-loop-number
invariant-loop-number l = record {
  made : HoldsBy l.automaton l.self;
  kept : KeepNumbers l.fn.self.states l.self.states;
  known : AreKnown l.self l.number;
  rows : HaveRows l.fn.self l.self;
}

-- the greatest number of states whose steps aren't known
abbrev pub decreases-loop-number : goal.decreases-loop-number
decreases-loop-number l = length l.fn.self.states + ENDS - l.number
