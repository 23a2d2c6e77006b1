-- The text with the matches so far replaced, and their changes.
use Rattle.std.proofs.Common.{◌≡◌, drop}
use Rattle.ropey.specs.Chunks.{text_of}
use Rattle.rope_search_changes.specs.Text.{bytes_of}
use Rattle.rope_search_changes.specs.Replacement.{replaced}
use Rattle.rope_search_templates.specs.Matches.{matched}
use Rattle.rope_search_templates.proofs.EditingLemmas.{IsReplacedBefore}
use Rattle.rope_search_templates.proofs.ToldLemmas.{AreToldUpTo}
use Rattle.rope_search_templates.proofs.replacing.edited.Given as goal

abbrev pub invariant-loop-index : goal.invariant-loop-index
invariant-loop-index l =
    let content = bytes_of (text_of l.text) in
    let matches = matched l.matches in
    IsReplacedBefore content l.template l.told.at l.told.at_new (drop l.index matches) (text_of l.new) (replaced content l.template 0 matches)
    × AreToldUpTo content l.template matches l.index l.told
    × (l.parts ≡ l.text)
