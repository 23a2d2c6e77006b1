use Rattle.std.proofs.Common.{◌≡◌, ℕ, ◌<◌, ◌≤◌, Option, Some, None, min, sym, ap, ◌∙◌, arith}
use Rattle.std.specs.Option.{SomeIff}
use Rattle.rx_util.specs.declared.search.Span.{Span}
use Rattle.unicode.specs.Perl.{is_word_char}
use Rattle.rx_walks.specs.ProgramFinds.{lowest, highest}
use Rattle.rx_steps.specs.Searching.{search_of}
use Rattle.rx_steps.specs.Lists.{is_among}
use Rattle.rx_steps.proofs.ByteLaws.{next_byte_is, no_byte, within_is}
use Rattle.rx_steps.proofs.SeenLaws.{seen_tells}
use Rattle.rx_steps.proofs.place.Place.of.Goals as goal
use Rattle.rx_steps.proofs.place.Place.of.Goals.{then-at-end, else-at-end, then-asks_looks, else-asks_looks}

the_value : (P : Type 0) (o : Option ℕ) (r v : ℕ) → SomeIff o P v → o ≡ Some r → r ≡ v
the_value P None r v told e = absurd (cc e)
the_value P (Some x) r v told e =
    let same : x ≡ r = cc e in
    sym same ∙ told.1

pub returns-clause-place : goal.returns-clause-place
returns-clause-place g c = λ states utf8_empty inside asks.
    let i = c.args.input.now.position in
    let content = c.args.input.now.cursor.content in
    let asked = c.args.input.now.asked in
    let s = search_of utf8_empty c.args.input.now in
    let slice_end = ap (λ (x : Span). x.end) c.get_slice.ensures in
    record {
      at = the_value _ c.new.result c.unwrap.result c.position-at.result c.new.ensures c.unwrap.ensures ∙ c.position-at.ensures.position;
      inside = within_is (lowest s) (highest s) i (omega (arith, inside.0, inside.2)) (omega (arith, inside.1, inside.3, inside.4));
      byte = elim c.if-at-end.branch [
        | then-at-end w ↦
            let lt : i < min asked.slice.end asked.span.end = omega (arith, w.if-at-end.true, c.min-end.ensures, c.position-at.ensures.position, c.end.ensures, slice_end) in
            next_byte_is content (min asked.slice.end asked.span.end) i lt ∙ sym w.next_byte-byte.ensures ∙ sym w.byte-is
        | else-at-end w ↦
            let le : highest s ≤ i = omega (arith, w.if-at-end.false, c.min-end.ensures, c.position-at.ensures.position, c.end.ensures, slice_end) in
            no_byte content (highest s) i le ∙ sym w.byte-is
      ];
      looks = λ l wants. elim c.if-asks_looks.branch [
        | then-asks_looks w ↦
            seen_tells w.four_bytes_tell.ensures is_word_char c.args.line_terminator l content asked.slice i w.look_around-seen.result _ _ (is_among c.if-asks_looks.looks l) inside.0 inside.1 inside.4 w.look_around-seen.ensures.bytes
            w.before-then-asks_looks.ensures
            w.after.ensures
            (ap (λ x. is_among x l) w.looks-is ∙ w.between-looks.ensures l)
        | else-asks_looks w ↦ absurd (asks w.if-asks_looks.false l wants)
      ];
    }
