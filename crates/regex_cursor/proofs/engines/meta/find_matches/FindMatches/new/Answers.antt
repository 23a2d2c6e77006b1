use Rattle.regex_cursor.specs.Regexes.{search_by}
use Rattle.regex_cursor.proofs.OrderLaws.{finds_in_order}
use Rattle.regex_cursor.proofs.engines.meta.find_matches.FindMatches.new.Goals as goal

pub returns-clause-all : goal.returns-clause-all
returns-clause-all g c =
    finds_in_order c.args.re.now (search_by c.args.re.now.engine c.args.input) _ c.new.ensures.regex (c.new.ensures.left c.args.input)
