use Rattle.std.proofs.Common.{ap, ◌∙◌}
use Rattle.regex_cursor.specs.Regexes.{search_by}
use Rattle.regex_cursor.specs.Splitting.{parts_of}
use Rattle.regex_cursor.proofs.OrderLaws.{gives_few_gaps}
use Rattle.regex_cursor.proofs.engines.meta.split_n.SplitN.new.Goals as goal

pub returns-clause-gaps : goal.returns-clause-gaps
returns-clause-gaps g c =
    let left = c.new-2.ensures.left c.args.input ∙ ap parts_of (c.new.ensures.left c.args.input) in
    gives_few_gaps g.row.C.Denot c.args.re.now (search_by c.args.re.now.engine c.args.input) _ (c.new-2.ensures.regex ∙ c.new.ensures.regex) left
