-- What is built so far, and what is left of the old text.
use Rattle.std.proofs.Common.{◌≡◌, drop, map}
use Rattle.ropey.specs.Chunks.{text_of}
use Rattle.rope_search_changes.specs.Text.{bytes_of}
use Rattle.rope_search_templates.specs.Substitutions.{substituted, told}
use Rattle.rope_search_templates.proofs.SubstitutionLemmas.{IsBuiltUpTo}
use Rattle.rope_search_templates.proofs.substitutions.rebuilt.Given as goal

abbrev pub invariant-loop-substitution : goal.invariant-loop-substitution
invariant-loop-substitution l =
    let content = bytes_of (text_of l.text) in
    let all = map told l.substitutions in
    IsBuiltUpTo content l.at (drop l.substitution-index all) l.builder (substituted content 0 all)
    × (l.left.bytes ≡ drop l.at content)
