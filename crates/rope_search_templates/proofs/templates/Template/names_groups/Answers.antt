use Rattle.std.proofs.Common.{ap, ◌∙◌}
use Rattle.rope_search_templates.specs.Templates.{names_groups}
use Rattle.rope_search_templates.proofs.ExpandLemmas.{expand-fixed}
use Rattle.rope_search_templates.proofs.templates.Template.names_groups.Goals as goal

pub returns-clause-fixed : goal.returns-clause-fixed
returns-clause-fixed c =
    λ _ content groups. expand-fixed content groups c.args.self.now (c.loop-piece.invariant ∙ ap names_groups c.in-None.ensures.steps.0)
