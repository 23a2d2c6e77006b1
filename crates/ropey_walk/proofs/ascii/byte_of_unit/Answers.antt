use Rattle.std.proofs.Common.{◌≡◌, length, get_or, ap, sym, ◌∙◌, arith}
use Rattle.std.specs.Str.{chars}
use Rattle.std.proofs.lemmas.Str.{encodes-chars}
use Rattle.str_indices.specs.Text.{byte_len, unit_starts}
use Rattle.str_indices.proofs.TextLaws.{counts_are_at_most_bytes-units, places_of_a_part-units, units_are_chars_and_pairs}
use Rattle.ropey_walk.proofs.OneByte.{IsOneByte, unit-place}
use Rattle.ropey_walk.proofs.ascii.byte_of_unit.Goals as goal

pub returns-then-is_ascii : goal.returns-then-is_ascii
returns-then-is_ascii c =
    let text = chars c.args.text.now in
    let bytes : byte_len text ≡ length c.args.text.now = ap length (encodes-chars c.args.text.now c.utf8.text) in
    let one : IsOneByte text = c.requires c.if-is_ascii.true ∙ sym bytes in
    let place = unit-place units_are_chars_and_pairs counts_are_at_most_bytes-units places_of_a_part-units text c.args.utf16_cu_idx one in
    omega (arith, c.min.ensures, bytes, place, ap (λ n. get_or (unit_starts text) c.args.utf16_cu_idx n) bytes)
