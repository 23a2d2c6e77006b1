use Rattle.rope_search_templates.proofs.SubstitutionLemmas.{make-changes}
use Rattle.rope_search_templates.proofs.laws.substitutions_are_changes.Goals as goal

pub returns : goal.returns
returns c = make-changes
