use Rattle.str_indices.proofs.TextLaws.{break_ends_of_joined_texts}
use Rattle.str_indices.proofs.laws.break_ends_of_joined_texts.Goals as goal

pub returns : goal.returns
returns c = break_ends_of_joined_texts
