use Rattle.std.proofs.Common.{length, ap, sym, ◌∙◌}
use Rattle.std.proofs.lemmas.Str.{encodes-chars}
use Rattle.str_indices.specs.Text.{byte_len}
use Rattle.rope_search_templates.proofs.templates.Template.len_bytes.Goals as goal

pub returns : goal.returns
returns c = sym (ap length (encodes-chars c.self.inside.text.now c.self.invariant.0)) ∙ ap byte_len c.self.view_is
