use Rattle.std.proofs.lemmas.Result.{err_from_is_err_and}
use Rattle.regex_cursor.proofs.TreeLaws.{regexes_have_trees}
use Rattle.rope_search_reports.proofs.rows.counted.CountedRegex.new.Goals as goal

pub returns-in_err-regex-clause-refused : goal.returns-in_err-regex-clause-refused
returns-in_err-regex-clause-refused c =
    let p = err_from_is_err_and c.from_residual.result c.from_residual.ensures.1 in
    rw (p.1, p.2) (regexes_have_trees.refused c.args.pattern.now _ c.in_err-regex.ensures.refused)
