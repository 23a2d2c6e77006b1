use Rattle.std.proofs.Common.{length, ap, sym, ◌∙◌}
use Rattle.std.specs.Str.{chars}
use Rattle.std.proofs.lemmas.Str.{encodes-chars}
use Rattle.str_indices.proofs.TextLaws.{ends_of_a_part-chars}
use Rattle.ropey_walk.proofs.OneByte.{IsOneByte, chars-up_to}
use Rattle.ropey_walk.proofs.ascii.char_of_byte.Goals as goal

pub returns-then-is_ascii : goal.returns-then-is_ascii
returns-then-is_ascii c =
    let text = chars c.args.text.now in
    let one : IsOneByte text = c.requires.one_byte c.if-is_ascii.true ∙ sym (ap length (encodes-chars c.args.text.now c.utf8.text)) in
    sym (chars-up_to ends_of_a_part-chars text c.args.byte_idx one c.requires.within)
