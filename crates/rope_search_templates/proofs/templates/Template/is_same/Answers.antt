use Rattle.std.proofs.Common.{◌≡◌, [], sym, subst, ◌∙◌}
use Rattle.std.specs.Str.{chars}
use Rattle.rope_search_changes.specs.Replacement.{expand}
use Rattle.rope_search_templates.proofs.ExpandLemmas.{expand-fixed, same-some}
use Rattle.rope_search_templates.proofs.templates.Template.is_same.Goals as goal

pub returns : goal.returns
returns c = λ some content groups.
    subst (λ t. expand content groups t ≡ expand [] [] t) c.self.view_is (expand-fixed content groups (chars c.self.inside.text.now) (same-some (chars c.self.inside.text.now) c.self.inside.same_len (sym c.is_some.ensures ∙ some) c.self.invariant.1))
