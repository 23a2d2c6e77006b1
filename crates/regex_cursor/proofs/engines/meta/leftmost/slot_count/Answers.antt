use Rattle.std.proofs.Common.{refl, ap, ◌∙◌}
use Rattle.rx_util.specs.Lending.{with_slots}
use Rattle.rx_chunk.proofs.EngineLaws.{lent_slots}
use Rattle.regex_cursor.proofs.engines.meta.leftmost.slot_count.Goals as goal

pub returns-clause-same : goal.returns-clause-same
returns-clause-same c =
    let before = c.args.caps.now in
    ap (with_slots before) c.slots_mut.ensures.slots ∙ ap (λ xs. record before { slots = xs }) (lent_slots before before.slots refl)
