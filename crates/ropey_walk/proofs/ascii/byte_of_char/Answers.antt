use Rattle.std.proofs.Common.{◌≡◌, length, ap, sym, ◌∙◌, arith}
use Rattle.std.specs.Str.{chars}
use Rattle.std.proofs.lemmas.Str.{encodes-chars}
use Rattle.str_indices.specs.Text.{byte_len, char_ends, end_place}
use Rattle.str_indices.proofs.TextLaws.{places_of_a_part-chars}
use Rattle.ropey_walk.proofs.OneByte.{IsOneByte, char-place}
use Rattle.ropey_walk.proofs.ascii.byte_of_char.Goals as goal

pub returns-then-is_ascii : goal.returns-then-is_ascii
returns-then-is_ascii c =
    let text = chars c.args.text.now in
    let bytes : byte_len text ≡ length c.args.text.now = ap length (encodes-chars c.args.text.now c.utf8.text) in
    let one : IsOneByte text = c.requires c.if-is_ascii.true ∙ sym bytes in
    let place = char-place places_of_a_part-chars text c.args.char_idx one in
    omega (arith, c.min.ensures, bytes, place, ap (λ n. end_place (char_ends text) c.args.char_idx n) bytes)
