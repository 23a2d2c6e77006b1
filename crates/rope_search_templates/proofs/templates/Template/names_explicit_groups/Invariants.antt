-- The rest names an explicit group if the whole does.
use Rattle.std.proofs.Common.{◌≡◌}
use Rattle.rope_search_templates.specs.Templates.{names_explicit_groups}
use Rattle.rope_search_templates.proofs.templates.Template.names_explicit_groups.Given as goal

abbrev pub invariant-loop-piece : goal.invariant-loop-piece
invariant-loop-piece l = names_explicit_groups l.self ≡ names_explicit_groups l.piece-iterator
