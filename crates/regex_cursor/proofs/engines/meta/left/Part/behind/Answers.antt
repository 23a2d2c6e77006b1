use Rattle.regex_cursor.proofs.LeftLaws.{all_next, none_ends, part_next}
use Rattle.regex_cursor.proofs.LowerLaws.{inside_law, one_law}
use Rattle.regex_cursor.proofs.engines.meta.left.Part.behind.Goals as goal

pub returns-then-may_end_at : goal.returns-then-may_end_at
returns-then-may_end_at c = λ p s start end is. all_next p s c.args.last_match_end c.args.whole c.args.self.now start end is

pub returns-else-may_end_at : goal.returns-else-may_end_at
returns-else-may_end_at c = λ p s start end is.
    part_next p s one_law inside_law c.args.last_match_end c.args.self.now is
    (none_ends p s one_law inside_law c.args.last_match_end c.args.self.now c.may_end_at.result is c.if-may_end_at.false c.may_end_at.ensures.known c.may_end_at.ensures.unknown)
