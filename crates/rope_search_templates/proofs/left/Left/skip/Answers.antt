use Rattle.std.proofs.Common.{◌++◌}
use Rattle.rope_search_templates.proofs.LeftLemmas.{taken-more}
use Rattle.rope_search_templates.proofs.left.Left.skip.Goals as goal

pub loop-left-preserved : goal.loop-left-preserved
loop-left-preserved c =
    let so = c.loop-left.invariant in
    let part = c.part.result.now in
    (so.0 ++ part, taken-more _ _ so.0 part _ _ _ so.1 c.part.ensures.parts c.part.ensures.utf8 c.part.ensures.within)
