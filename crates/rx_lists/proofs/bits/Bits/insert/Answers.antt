use Rattle.std.proofs.Common.{◌*◌, ◌/◌, ◌<◌, length, ap, ◌∙◌, arith}
use Rattle.std.proofs.lemmas.List.{get_or_read}
use Rattle.rx_lists.specs.Bits.{has_bit}
use Rattle.rx_lists.proofs.BitLaws.{bit_there, bit_elsewhere}
use Rattle.rx_lists.proofs.bits.Bits.insert.Goals as goal

pub returns-clause-there : goal.returns-clause-there
returns-clause-there c = bit_there c.self.inside.words.items c.args.number c.index-word.result.now (omega (arith, c.requires, ap length c.self.view_is))

pub returns-clause-others : goal.returns-clause-others
returns-clause-others c = λ n other.
    let words = c.self.inside.words.items in
    let within : c.args.number < 64 * length words = omega (arith, c.requires, ap length c.self.view_is) in
    bit_elsewhere words c.args.number c.index-word.result.now n within (get_or_read words (c.args.number / 64) c.index-word.result.now (omega (arith, within)) c.index-word.ensures 0) other
    ∙ ap (λ xs. has_bit xs n) c.self.view_is
