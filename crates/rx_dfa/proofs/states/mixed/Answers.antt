use Rattle.std.proofs.Common.{◌+◌, ◌*◌, ◌%◌, ap}
use Rattle.rx_dfa.specs.Hashes.{mixed}
use Rattle.rx_dfa.proofs.states.mixed.Goals as goal

pub returns : goal.returns
unfolding mixed
returns c = ap (λ n. ((n + 15111065706836454659) % 18446744073709551616 + c.args.number) % 18446744073709551616 * 11400714819323198485 % 18446744073709551616) c.rotate_left.ensures
