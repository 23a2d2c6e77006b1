use Rattle.rx_grammar.proofs.FewLaws.{few_groups}
use Rattle.rx_grammar.proofs.laws.groups_are_few.Goals as goal

pub returns : goal.returns
returns c = λ text settings. few_groups text settings
