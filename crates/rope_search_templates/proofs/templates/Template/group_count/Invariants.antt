-- The pieces so far need this number of groups.
use Rattle.rope_search_templates.proofs.FirstLemmas.{NeedsSoFar}
use Rattle.rope_search_templates.proofs.templates.Template.group_count.Given as goal

abbrev pub invariant-loop-piece : goal.invariant-loop-piece
invariant-loop-piece l = NeedsSoFar l.self l.piece-iterator l.count
