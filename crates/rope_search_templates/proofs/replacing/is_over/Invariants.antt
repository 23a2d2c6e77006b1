-- The room that is left.
use Rattle.std.proofs.Common.{drop}
use Rattle.str_indices.specs.Text.{byte_len}
use Rattle.ropey.specs.Chunks.{text_of}
use Rattle.rope_search_changes.specs.Text.{bytes_of}
use Rattle.rope_search_changes.specs.Replacement.{replaced}
use Rattle.rope_search_templates.specs.Matches.{matched}
use Rattle.rope_search_templates.proofs.LengthLemmas.{HasRoom}
use Rattle.rope_search_templates.proofs.replacing.is_over.Given as goal

abbrev pub invariant-loop-index : goal.invariant-loop-index
invariant-loop-index l =
    let content = bytes_of (text_of l.text) in
    let matches = matched l.matches in
    HasRoom content l.template l.at (drop l.index matches) l.room l.limit (byte_len (replaced content l.template 0 matches))
