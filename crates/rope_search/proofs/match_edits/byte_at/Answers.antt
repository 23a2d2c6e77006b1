use Rattle.std.proofs.Common.{◌∙◌, take}
use Rattle.ropey.specs.Slices.{slice_text}
use Rattle.rope_search.proofs.PlacedLemmas.{longest-is, taken-bytes}
use Rattle.rope_search.proofs.match_edits.byte_at.Goals as goal

pub returns : goal.returns
returns c =
    let text = slice_text c.args.line.now in
    let k = c.chars_up_to.result in
    c.char_to_byte.ensures ∙ taken-bytes text k c.chars_up_to.ensures.within ∙ longest-is c.args.column text (take k text) c.chars_up_to.ensures.front
