use Rattle.std.proofs.Common.{sym, subst, ◌∙◌}
use Rattle.rope_search_templates.proofs.FirstLemmas.{NeedsSoFar, max-is, needs-more}
use Rattle.rope_search_templates.proofs.templates.Template.group_count.Goals as goal

pub loop-piece-preserved : goal.loop-piece-preserved
loop-piece-preserved c =
    subst (NeedsSoFar c.args.self.now c.next.new.self) (sym (c.max-count.ensures ∙ max-is c.loop-piece.count c.group_count.result))
    (needs-more c.args.self.now c.loop-piece.piece-iterator c.next.new.self c.loop-piece.count c.group_count.result c.in-Some.piece c.in-Some.ensures.steps
    c.group_count.ensures.few c.group_count.ensures.none_further c.group_count.ensures.last c.loop-piece.invariant)
