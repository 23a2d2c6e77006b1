use Rattle.rope_search.proofs.TextChangeLemmas.{make_text}
use Rattle.rope_search.proofs.laws.text_changes_make_text.Goals as goal

pub returns : goal.returns
returns c = make_text
