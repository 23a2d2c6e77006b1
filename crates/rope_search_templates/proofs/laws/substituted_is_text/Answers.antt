use Rattle.rope_search_templates.proofs.SubstitutionLemmas.{are-text}
use Rattle.rope_search_templates.proofs.laws.substituted_is_text.Goals as goal

pub returns : goal.returns
returns c = are-text
