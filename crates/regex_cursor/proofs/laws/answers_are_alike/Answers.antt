use Rattle.regex_cursor.proofs.AlikeAnswers.{alike_answers}
use Rattle.regex_cursor.proofs.laws.answers_are_alike.Goals as goal

pub returns : goal.returns
returns c = λ e. alike_answers e (c.finds_of_engines.ensures e)
