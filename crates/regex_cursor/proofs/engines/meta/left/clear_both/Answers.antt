use Rattle.regex_cursor.proofs.SlotLaws.{none_after, none_both}
use Rattle.regex_cursor.proofs.engines.meta.left.clear_both.Goals as goal

pub returns-clause-all : goal.returns-clause-all
returns-clause-all c = none_both c.args.slots.now c.requires.two

pub returns-clause-none : goal.returns-clause-none
returns-clause-none c = none_after c.args.slots.now c.requires.two
