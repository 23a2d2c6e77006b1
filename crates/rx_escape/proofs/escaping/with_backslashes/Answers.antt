use Rattle.std.proofs.Common.{◌≡◌, encode_utf8_all, string_bytes, ap, sym, ◌∙◌}
use Rattle.std.proofs.lemmas.Iterator.{YieldsList-from_chars}
use Rattle.std.proofs.lemmas.Iterator.Consumers.{YieldsList-end}
use Rattle.std.proofs.lemmas.List.{map-id}
use Rattle.std.specs.Str.{chars}
use Rattle.rx_escape.specs.Escaped.{escaped}
use Rattle.rx_escape.proofs.EscapedLaws.{one_more-literal, one_more-meta}
use Rattle.rx_escape.proofs.escaping.with_backslashes.Goals.{then-is_meta_character+in_ok-push, else-is_meta_character}
use Rattle.rx_escape.proofs.escaping.with_backslashes.Goals as goal

pub loop-c-preserved : goal.loop-c-preserved
loop-c-preserved c = elim c.if-is_meta_character.branch [
  | then-is_meta_character+in_ok-push w ↦
      c.in_ok-push-2.ensures.bytes ∙ one_more-meta c.loop-c.yielded c.in-Some.c (string_bytes c.loop-c.pattern) (string_bytes c.if-is_meta_character.pattern)
      (sym c.is_meta_character.ensures ∙ w.if-is_meta_character.true) c.loop-c.invariant (ap string_bytes w.pattern-is ∙ w.in_ok-push.ensures.bytes)
  | else-is_meta_character w ↦
      c.in_ok-push-2.ensures.bytes ∙ one_more-literal c.loop-c.yielded c.in-Some.c (string_bytes c.if-is_meta_character.pattern)
      (sym c.is_meta_character.ensures ∙ w.if-is_meta_character.false) (ap string_bytes w.pattern-is ∙ c.loop-c.invariant)
]

pub returns : goal.returns
returns c =
    let t = YieldsList-end (YieldsList-from_chars c.args.text.now c.utf8.text cc) c.loop-c.yielded _ c.loop-c.yielded_by _ _ c.in-None.is c.next.ensures.steps in
    let whole : c.loop-c.yielded ≡ chars c.args.text.now = sym (map-id c.loop-c.yielded) ∙ t.0 in
    c.loop-c.invariant ∙ ap (λ text. encode_utf8_all (escaped text)) whole
