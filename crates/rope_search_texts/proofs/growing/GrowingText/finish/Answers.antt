use Rattle.std.proofs.Common.{◌≡◌, ◌++◌, sym, ap, ◌∙◌, subst, append-nil, IsUtf8}
use Rattle.std.specs.Prelude.{encode_utf8_all}
use Rattle.std.specs.Str.{chars}
use Rattle.std.proofs.lemmas.Str.{chars-encodes}
use Rattle.rope_search_io.proofs.Utf8Lemmas.{IsUtf8-after}
use Rattle.rope_search_texts.proofs.GrowingLemmas.{IsUtf8-bytes, none_from, some_from}
use Rattle.rope_search_texts.proofs.growing.GrowingText.finish.Goals as goal

pub returns-then-not-is_empty-clause-none : goal.returns-then-not-is_empty-clause-none
returns-then-not-is_empty-clause-none c = λ told utf8.
    let inside = c.self.inside in
    let part = IsUtf8-after (encode_utf8_all inside.text) inside.part.items (IsUtf8-bytes inside.text c.self.invariant.0) (subst IsUtf8 (sym c.self.view_is) utf8) in
    some_from inside.part.items c.is_empty.result c.is_empty.ensures c.if-not-is_empty.true (c.self.invariant.1 part)

pub returns-in-Ok-clause-text : goal.returns-in-Ok-clause-text
returns-in-Ok-clause-text c =
    let inside = c.self.inside in
    let none = none_from inside.part.items c.is_empty.result c.is_empty.ensures c.if-not-is_empty.false in
    let whole : encode_utf8_all inside.text ≡ c.args.self = sym (append-nil (encode_utf8_all inside.text)) ∙ ap (λ l. encode_utf8_all inside.text ++ l) (sym none) ∙ c.self.view_is in
    c.in-Ok.ensures ∙ sym (chars-encodes inside.text c.self.invariant.0) ∙ ap chars whole
