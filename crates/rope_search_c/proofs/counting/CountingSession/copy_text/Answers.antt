use Rattle.std.proofs.Common.{◌≡◌, List, ℕ, length, take, refl, ap, sym, subst, ◌∙◌, arith}
use Rattle.std.proofs.lemmas.List.{length-take, length-drop}
use Rattle.std.specs.Prelude.{Some}
use Rattle.ropey.specs.Chunks.{text_of}
use Rattle.ropey.specs.Slices.{between, IsByteRangeIn, slice_text}
use Rattle.rope_search_reports.specs.Text.{bytes_of}
use Rattle.rope_search_c.specs.Reading.{text_bytes_in, text_in, with_front}
use Rattle.rope_search_c.proofs.TextLemmas.{whole-is, none_is_some}
use Rattle.rope_search_c.proofs.counting.CountingSession.copy_text.Goals as goal

pub returns-in_default : goal.returns-in_default
returns-in_default c =
    let is : slice_text c.slice.result ≡ text_in c.args.self.now = ap text_of c.slice.ensures ∙ whole-is c.text.result.now ∙ c.text.ensures in
    let In : List ℕ → Type 0 = λ t. IsByteRangeIn t (record { start = Some c.args.from; end = Some c.args.to }) in (
      λ are. absurd (none_is_some c.get_byte_slice.result c.in_default.not-Some (c.get_byte_slice.ensures.some.1 (subst In (sym is) are))),
      refl,
    )

pub returns : goal.returns
returns c =
    let is : slice_text c.slice.result ≡ text_in c.args.self.now = ap text_of c.slice.ensures ∙ whole-is c.text.result.now ∙ c.text.ensures in
    let In : List ℕ → Type 0 = λ t. IsByteRangeIn t (record { start = Some c.args.from; end = Some c.args.to }) in
    let are : In (text_in c.args.self.now) = subst In is (c.in-Some.ensures.some.0 refl) in
    let bytes = text_bytes_in c.args.self.now in
    let copied = c.in-Some.ensures.bytes ∙ ap (λ t. between c.args.from c.args.to (bytes_of t)) is in (
      are,
      omega (arith, c.if-out-len_bytes.false, c.len_bytes.ensures.bytes, ap length copied, length-drop c.args.from (take c.args.to bytes), length-take c.args.to bytes, are.range.within, are.range.order),
      c.put_text.ensures ∙ ap (λ bs. with_front bs c.args.out.now) copied,
    )
