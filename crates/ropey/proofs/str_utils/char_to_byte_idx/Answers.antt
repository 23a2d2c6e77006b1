use Rattle.std.proofs.Common.{length, ap, sym, ◌∙◌}
use Rattle.std.specs.Str.{chars}
use Rattle.std.proofs.lemmas.Str.{encodes-chars}
use Rattle.str_indices.specs.Text.{char_ends, end_place}
use Rattle.ropey.proofs.str_utils.char_to_byte_idx.Goals as goal

pub returns : goal.returns
returns c =
    let text = c.args.text.now in
    c.to_byte_idx.ensures ∙ ap (end_place (char_ends (chars text)) c.args.char_idx) (sym (ap length (encodes-chars text c.utf8.text)))
