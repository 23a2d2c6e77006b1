use Rattle.std.proofs.Common.{◌≡◌, [], ◌++◌, sym, ap, ◌∙◌, append-nil}
use Rattle.std.specs.Str.{chars}
use Rattle.std.proofs.lemmas.Str.{chars-nil}
use Rattle.rope_search_texts.proofs.GrowingLemmas.{none_from}
use Rattle.rope_search_texts.proofs.boxed_builder.BoxedBuilder.append.Goals as goal

pub returns-else-not-is_empty-clause-text : goal.returns-else-not-is_empty-clause-text
returns-else-not-is_empty-clause-text c =
    let old = c.args.self.now in
    let none : chars c.args.text.now ≡ [] = ap chars (none_from c.args.text.now c.is_empty.result c.is_empty.ensures c.if-not-is_empty.false) ∙ chars-nil in
    c.self.view_is ∙ sym (append-nil old) ∙ ap (λ t. old ++ t) (sym none)
