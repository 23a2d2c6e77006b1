use Rattle.std.proofs.Common.{◌≡◌, ◌≤◌, ap, subst, sym, ◌∙◌}
use Rattle.unicode.specs.Perl.{is_word_char}
use Rattle.rx_input.specs.Inputs.{Asked}
use Rattle.rx_walks.specs.Finds.{unanchored, anchored}
use Rattle.rx_steps.specs.Searching.{anchoring_of, search_of}
use Rattle.rx_program.specs.Programs.{character_program}
use Rattle.rx_literals.specs.Needles.{FoundAtStart, FoundInSpan}
use Rattle.regex_cursor.specs.Strategies.{BeginsFrom}
use Rattle.regex_cursor.proofs.LeftLaws.{from_start}
use Rattle.rx_literals.proofs.LiteralLaws.{literals_find}
use Rattle.regex_cursor.proofs.engines.meta.left.start_of_literal.Goals as goal

pub returns-in-No-clause-start : goal.returns-in-No-clause-start
returns-in-No-clause-start g c = λ p utf8_empty literal.
    let i = c.args.input.now in
    let needles = c.args.needle.now in
    let s = search_of utf8_empty i in
    let law = literals_find needles (character_program p) is_word_char s c.needles_are_lawful.ensures literal in
    let free : s.anchoring ≡ unanchored = ap anchoring_of (sym c.get_anchored.ensures ∙ c.in-No.is) in
    let asked = sym c.find-found.ensures.asked in
    let found = c.find-found.ensures.found in
    c.start_at.ensures p s (ap (λ (a : Asked). a.span.start) asked) (ap (λ (a : Asked). a.span.end) asked)
    (λ none. law.nowhere free (subst (λ o. FoundInSpan needles i o) none found))
    (λ span some from to. law.first span free (subst (λ o. FoundInSpan needles i o) some found) (record {
      from = subst (λ (a : Asked). a.slice.start ≤ span.start) c.find-found.ensures.asked from;
      to = subst (λ (a : Asked). span.end ≤ a.slice.end) c.find-found.ensures.asked to;
    }))

pub returns-in-Yes-clause-start : goal.returns-in-Yes-clause-start
returns-in-Yes-clause-start g c = λ p utf8_empty literal.
    let i = c.args.input.now in
    let needles = c.args.needle.now in
    let s = search_of utf8_empty i in
    let law = literals_find needles (character_program p) is_word_char s c.needles_are_lawful.ensures literal in
    let kept : s.anchoring ≡ anchored = ap anchoring_of (sym c.get_anchored.ensures ∙ c.in-Yes.is) in
    let asked = sym c.prefix-found.ensures.asked in
    let found = c.prefix-found.ensures.found in
    c.start_at-in-Yes.ensures p s (ap (λ (a : Asked). a.span.start) asked) (ap (λ (a : Asked). a.span.end) asked)
    (λ none. law.not_at_start kept (subst (λ o. FoundAtStart needles i o) none found))
    (λ span some from to. law.at_start span kept (subst (λ o. FoundAtStart needles i o) some found) (record {
      from = subst (λ (a : Asked). a.slice.start ≤ span.start) c.prefix-found.ensures.asked from;
      to = subst (λ (a : Asked). span.end ≤ a.slice.end) c.prefix-found.ensures.asked to;
    }))

pub returns-in-Pattern-clause-start : goal.returns-in-Pattern-clause-start
returns-in-Pattern-clause-start g c = λ p utf8_empty literal.
    let s = search_of utf8_empty c.args.input.now in
    subst (BeginsFrom p s) (sym c.start.ensures) (from_start p s c.requires)
