use Rattle.std.proofs.Common.{◌-◌, ◌∙◌, ap, reverse, take, arith}
use Rattle.rope_search.proofs.UndoStepLemmas.{dropped_first}
use Rattle.rope_search.proofs.history.drop_first.Goals as goal

pub returns : goal.returns
returns c =
    c.reverse-2.ensures.items ∙ ap reverse (c.truncate.ensures.items ∙ ap (take (c.len.result - c.args.count)) c.reverse.ensures.items)
    ∙ dropped_first c.args.versions.now.items c.args.count (c.len.result - c.args.count)
    (omega (arith, c.requires, c.len.ensures, c.args.versions.now.ok.0))
