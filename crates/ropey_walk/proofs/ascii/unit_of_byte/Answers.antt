use Rattle.std.proofs.Common.{length, ap, sym, ◌∙◌}
use Rattle.std.specs.Str.{chars}
use Rattle.std.proofs.lemmas.Str.{encodes-chars}
use Rattle.str_indices.proofs.TextLaws.{counts_are_at_most_bytes-units, ends_of_a_part-units, units_are_chars_and_pairs}
use Rattle.ropey_walk.proofs.OneByte.{IsOneByte, units-up_to}
use Rattle.ropey_walk.proofs.ascii.unit_of_byte.Goals as goal

pub returns-then-is_ascii : goal.returns-then-is_ascii
returns-then-is_ascii c =
    let text = chars c.args.text.now in
    let one : IsOneByte text = c.requires.one_byte c.if-is_ascii.true ∙ sym (ap length (encodes-chars c.args.text.now c.utf8.text)) in
    sym (units-up_to units_are_chars_and_pairs counts_are_at_most_bytes-units ends_of_a_part-units text c.args.byte_idx one c.requires.within)
