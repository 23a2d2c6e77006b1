use Rattle.std.proofs.Common.{◌++◌, ap, sym, ◌∙◌, chars}
use Rattle.std.proofs.lemmas.Str.{chars-nil}
use Rattle.ropey.specs.Chunks.{text_of}
use Rattle.rope_search_changes.specs.Text.{bytes_of}
use Rattle.rope_search_changes.specs.Replacement.{expand}
use Rattle.rope_search_templates.specs.Matches.{groups_in}
use Rattle.rope_search_templates.proofs.told.Told.show.Goals as goal

pub returns-clause-text : goal.returns-clause-text
returns-clause-text c =
    let told = expand (bytes_of (text_of c.args.parts.now)) (groups_in c.args.found) c.args.template.now in
    c.in_ok-expand.ensures.expanded ∙ ap (λ bs. chars bs ++ told) c.clear.ensures.bytes ∙ ap (λ l. l ++ told) chars-nil

pub returns-clause-told : goal.returns-clause-told
returns-clause-told c = λ same content groups.
    let fixed = c.is_same-self.ensures same in
    returns-clause-text c ∙ fixed (bytes_of (text_of c.args.parts.now)) (groups_in c.args.found) ∙ sym (fixed content groups)
