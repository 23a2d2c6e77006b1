use Rattle.rx_grammar.specs.Settings.{default_settings}
use Rattle.regex_cursor.proofs.laws.one_tree.Goals as goal

pub returns : goal.returns
returns c = λ text tree other one second. c.spells_at_most_one.ensures text default_settings tree other one second
