-- No piece so far names a group.
use Rattle.std.proofs.Common.{◌≡◌}
use Rattle.rope_search_templates.specs.Templates.{names_groups}
use Rattle.rope_search_templates.proofs.templates.Template.names_groups.Given as goal

abbrev pub invariant-loop-piece : goal.invariant-loop-piece
invariant-loop-piece l = names_groups l.self ≡ names_groups l.piece-iterator
