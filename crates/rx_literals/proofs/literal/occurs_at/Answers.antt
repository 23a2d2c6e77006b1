use Rattle.std.proofs.Common.{◌≡◌, ◌+◌, refl, true, Some, get_or, slice_get, sym, ap, ◌∙◌, below_more}
use Rattle.std.proofs.lemmas.Option.{slice_get_within, get_or_from_slice_get}
use Rattle.rx_literals.proofs.NeedleLaws.{byte_there}
use Rattle.rx_literals.proofs.literal.occurs_at.Goals as goal

pub returns-then-not-has_byte-clause-occurs : goal.returns-then-not-has_byte-clause-occurs
returns-then-not-has_byte-clause-occurs g c =
    let i = c.args.input.now in
    let byte = c.has_byte.ensures.byte in (
      λ e. absurd (cc e),
      λ occurs.
          let there = byte_there i.cursor.content c.args.needle.now i.asked.span.end c.args.at c.loop-index.index (get_or c.args.needle.now c.loop-index.index 0) c.loop-index-test.true refl occurs in
          let yes = byte.1 (ap (λ xs. slice_get xs (c.args.at + c.loop-index.index)) c.loop-index.invariant.same.content ∙ there) in
          absurd (cc (yes, c.if-not-has_byte.true)),
    )

pub loop-index-preserved : goal.loop-index-preserved
loop-index-preserved g c =
    let content = c.args.input.now.cursor.content in
    let at = c.args.at + c.loop-index.index in
    let told : c.has_byte.result ≡ true = cc (c.if-not-has_byte.false) in
    let there : slice_get content at ≡ Some (get_or c.args.needle.now c.loop-index.index 0) =
    ap (λ xs. slice_get xs at) (sym c.loop-index.invariant.same.content) ∙ c.has_byte.ensures.byte.0 told in
    record {
      same = record { content = c.has_byte.ensures.same.content ∙ c.loop-index.invariant.same.content; is_sized = c.has_byte.ensures.same.is_sized ∙ c.loop-index.invariant.same.is_sized };
      asked = c.has_byte.ensures.asked ∙ c.loop-index.invariant.asked;
      inside = below_more _ _ c.loop-index.invariant.inside (slice_get_within content at _ there);
      reads = below_more _ _ c.loop-index.invariant.reads (get_or_from_slice_get content at _ 0 there);
    }
