use Rattle.std.proofs.Common.{sym, ap, ◌∙◌}
use Rattle.regex_cursor_tests.proofs.searchers.find.Goals as goal

pub returns-clause-inside : goal.returns-clause-inside
returns-clause-inside c = λ m is.
    (c.in_ok-search.ensures.whole (ap (λ x. x.groups) c.in_ok-caps.ensures.made, c.in_ok-caps.ensures.room)).inside m (sym c.get_match.ensures ∙ is)
