use Rattle.std.proofs.Common.{[], refl, sym, ◌∙◌}
use Rattle.std.specs.Str.{chars}
use Rattle.rope_search_templates.proofs.ExpandLemmas.{nothing-spans, same-told}
use Rattle.rope_search_templates.proofs.templates.Template.new.Goals as goal

pub invariant_of-result : goal.invariant_of-result
invariant_of-result c = (c.utf8.text, same-told (chars c.args.text.now) c.len_within-same_len.result _ (sym c.names_groups.ensures.named ∙ c.if-names_groups.false) (c.len_within-same_len.ensures [] refl nothing-spans))
