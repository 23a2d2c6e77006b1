use Rattle.std.proofs.Common.{length, ap, arith}
use Rattle.std.specs.Str.{chars}
use Rattle.std.proofs.lemmas.Str.{encodes-chars}
use Rattle.str_indices.proofs.TextLaws.{counts_are_at_most_bytes-units, units_are_chars_and_pairs}
use Rattle.ropey_walk.proofs.ascii.chars_and_units.Goals as goal

pub returns-then-is_ascii-clause-units : goal.returns-then-is_ascii-clause-units
returns-then-is_ascii-clause-units c =
    let text = chars c.args.text.now in
    omega (
      arith,
      c.requires c.if-is_ascii.true,
      ap length (encodes-chars c.args.text.now c.utf8.text),
      units_are_chars_and_pairs text,
      counts_are_at_most_bytes-units text,
    )
