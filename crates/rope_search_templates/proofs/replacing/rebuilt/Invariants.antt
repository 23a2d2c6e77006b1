-- What is built so far, the rest of the old text, and the changes so far.
use Rattle.std.proofs.Common.{◌≡◌, drop}
use Rattle.ropey.specs.Chunks.{text_of}
use Rattle.rope_search_changes.specs.Text.{bytes_of}
use Rattle.rope_search_changes.specs.Replacement.{replaced}
use Rattle.rope_search_templates.specs.Matches.{matched}
use Rattle.rope_search_templates.proofs.BuildingLemmas.{IsBuilt}
use Rattle.rope_search_templates.proofs.ToldLemmas.{AreToldUpTo}
use Rattle.rope_search_templates.proofs.replacing.rebuilt.Given as goal

abbrev pub invariant-loop-index : goal.invariant-loop-index
invariant-loop-index l =
    let content = bytes_of (text_of l.text) in
    let matches = matched l.matches in
    IsBuilt content l.template l.told.at (drop l.index matches) l.builder (replaced content l.template 0 matches)
    × (l.left.bytes ≡ drop l.told.at content) × AreToldUpTo content l.template matches l.index l.told
    × (l.parts ≡ l.text)
