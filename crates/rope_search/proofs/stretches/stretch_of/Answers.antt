use Rattle.std.proofs.Common.{sym, ◌∙◌}
use Rattle.ropey.specs.Chunks.{text_of}
use Rattle.rope_search.proofs.StretchLemmas.{hull-lead, hull-none, rows-stretch, same-stretch}
use Rattle.rope_search.proofs.stretches.stretch_of.Goals as goal

pub lines_by-requires : goal.lines_by-requires
lines_by-requires c = hull-lead c.args.changes.now c.in-Some.change (text_of c.args.old.now) (text_of c.args.new.now) (sym c.hull.ensures ∙ c.in-Some.is) c.requires

pub returns-in-None-clause-rows : goal.returns-in-None-clause-rows
returns-in-None-clause-rows c = λ pattern.
    same-stretch pattern (text_of c.args.old.now) (text_of c.args.new.now) c.none.result c.one_list_of_matches.ensures
    (hull-none c.args.changes.now (text_of c.args.old.now) (text_of c.args.new.now) (sym c.hull.ensures ∙ c.in-None.is) c.requires) c.none.ensures

pub returns-in-Some-clause-rows : goal.returns-in-Some-clause-rows
returns-in-Some-clause-rows c = λ pattern.
    rows-stretch c.one_list_of_matches.ensures pattern (text_of c.args.old.now) (text_of c.args.new.now) c.lines_by.result c.lines_by.ensures.lines
