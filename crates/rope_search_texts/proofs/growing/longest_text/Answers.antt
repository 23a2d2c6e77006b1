use Rattle.std.proofs.Common.{◌∙◌, [], refl, take, drop, sym, ap, subst, ◌++◌, take-append-drop, append-nil, arith, IsUtf8}
use Rattle.std.proofs.lemmas.Str.{IsUtf8-nil, IsUtf8-append}
use Rattle.ropey.proofs.Utf8Fronts.{begins_no_text, is_part, begins_from_part, part_is_short}
use Rattle.rope_search_texts.proofs.growing.longest_text.Goals as goal

pub returns-in-Ok-clause-text : goal.returns-in-Ok-clause-text
returns-in-Ok-clause-text c =
    let e = c.in-Ok.ensures.cases in
    ([], record { parts = sym e.0 ∙ sym (append-nil _); utf8 = subst IsUtf8 (sym e.0) e.1; begins = ([], IsUtf8-nil); no_text = λ _. refl; short = omega arith })

pub returns-else-is_some-clause-text : goal.returns-else-is_some-clause-text
returns-else-is_some-clause-text c =
    let e = c.in-Err.ensures in
    let bytes = c.args.bytes.now in
    let n = c.valid_up_to.result in
    let is = c.valid_up_to.ensures in
    let cut = rw (← is) at e.cases.1 in
    let fault = rw (← is) at e.fault in
    let part = is_part bytes n c.error_len.result cut (c.error_len.ensures ∙ fault) (sym c.is_some.ensures ∙ c.if-is_some.false) in
    let text = c.from_utf8_unchecked.ensures in (
      drop n bytes,
      record {
        parts = sym (take-append-drop n bytes) ∙ ap (λ t. t ++ drop n bytes) (sym text);
        utf8 = c.from_utf8_unchecked.utf8;
        begins = begins_from_part (drop n bytes) part;
        no_text = λ whole. absurd (e.cases.0 (subst IsUtf8 (take-append-drop n bytes) (IsUtf8-append (take n bytes) (drop n bytes) cut.front whole)));
        short = part_is_short (drop n bytes) part;
      },
    )

pub returns-then-is_some-clause-none : goal.returns-then-is_some-clause-none
returns-then-is_some-clause-none c =
    let e = c.in-Err.ensures in
    begins_no_text c.args.bytes.now _ c.error_len.result e.cases.1 (c.error_len.ensures ∙ e.fault) (sym c.is_some.ensures ∙ c.if-is_some.true)
