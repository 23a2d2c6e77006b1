use Rattle.std.proofs.Common.{refl}
use Rattle.regex_cursor.specs.Regexes.{search_by}
use Rattle.regex_cursor.proofs.OrderLaws.{captures_in_order}
use Rattle.regex_cursor.proofs.engines.meta.captures_matches.CapturesMatches.new.Goals as goal

pub returns-clause-all : goal.returns-clause-all
returns-clause-all g c =
    captures_in_order c.args.re.now (search_by c.args.re.now.engine c.args.input) _ refl refl
