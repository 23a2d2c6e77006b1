use Rattle.std.proofs.Common.{◌∷◌, [], length, replicate, ap, arith, length-append}
use Rattle.rx_dfa.proofs.TableLaws.{found_new}
use Rattle.rx_dfa.proofs.DenseLaws.{grows_none, grows_added}
use Rattle.rx_dfa.proofs.cache.Cache.found_or_added.Goals as goal

pub returns-in-Some-clause-grows : goal.returns-in-Some-clause-grows
returns-in-Some-clause-grows c = grows_none c.args.self.now

pub returns-in-Ok-clause-number : goal.returns-in-Ok-clause-number
returns-in-Ok-clause-number c = found_new c.add.new.self.states c.args.state c.in-Ok.number c.in-Ok.ensures.number

pub returns-in-Ok-clause-grows : goal.returns-in-Ok-clause-grows
returns-in-Ok-clause-grows c = grows_added c.args.self.now c.add.new.self (replicate c.args.self.now.width 4294967295) c.in-Ok.ensures.kept c.in-Ok.ensures.table

pub returns-in-Some-clause-few : goal.returns-in-Some-clause-few
returns-in-Some-clause-few c = omega arith

pub returns-in-Ok-clause-few : goal.returns-in-Ok-clause-few
returns-in-Ok-clause-few c = omega (arith, c.in-Ok.ensures.last, ap length c.in-Ok.ensures.states, length-append c.args.self.now.states (c.args.state ∷ []))
