use Rattle.rope_search.proofs.RunEndings.{AnswersWhole-ran}
use Rattle.rope_search.proofs.runs.run_limited.Goals as goal

pub returns-clause-answers : goal.returns-clause-answers
returns-clause-answers g c = AnswersWhole-ran _ _ _ _ _ _ _ _ c.run_turns.ensures
