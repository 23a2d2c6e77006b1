-- Commands that are read can be run.
use Rattle.rope_search.proofs.AnswerLaws.{answers_exist}
use Rattle.rope_search.proofs.laws.has_answer.Goals as goal

pub returns : goal.returns
returns c = answers_exist c.known.ensures c.has_report.ensures
