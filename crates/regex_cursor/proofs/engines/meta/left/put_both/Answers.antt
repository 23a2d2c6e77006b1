use Rattle.regex_cursor.proofs.SlotLaws.{both_slots}
use Rattle.regex_cursor.proofs.StrategyLaws.{some_given}
use Rattle.regex_cursor.proofs.engines.meta.left.put_both.Goals as goal

pub returns : goal.returns
returns c =
    both_slots c.args.span c.args.slots.now c.new-start.result c.new-end.result c.requires.two
    (some_given c.new-start.result c.args.span.start c.requires.start c.new-start.ensures) (some_given c.new-end.result c.args.span.end c.requires.end c.new-end.ensures)
