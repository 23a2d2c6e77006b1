use Rattle.std.proofs.Common.{◌≡◌, length, refl, sym, ap, ◌∙◌, subst}
use Rattle.std.specs.Str.{chars}
use Rattle.std.proofs.lemmas.Bool.{true≢false}
use Rattle.std.proofs.lemmas.Str.{encodes-chars}
use Rattle.ropey.specs.Chunks.{text_of}
use Rattle.rope_search.specs.Session.{LimitedBuffer, current_text}
use Rattle.rope_search.specs.Places.{GetsTooLong}
use Rattle.rope_search.proofs.PartLaws.{long_known}
use Rattle.rope_search.proofs.buffer.Buffer.part_to_replace.Goals as goal

pub returns-then-is_over-clause-size : goal.returns-then-is_over-clause-size
returns-then-is_over-clause-size c =
    let text = text_of c.text-text.result.now in
    let limit = c.self.inside.limits.text in
    let len = length c.args.inserted.now in
    let same : limit ≡ c.args.self.now.limit = ap (λ (b : LimitedBuffer). b.limit) c.self.view_is in
    let known = long_known c.one_place.ensures limit text c.args.from c.args.to c.in-Some.part (chars c.args.inserted.now) len
    c.in-Some.ensures.part (ap length (encodes-chars c.args.inserted.now c.utf8.inserted)) in
    let over : GetsTooLong limit text c.args.from c.args.to len = known.0 (c.is_over.ensures.0 c.if-is_over.true) in (
      λ e. subst (λ n. GetsTooLong n (current_text c.args.self.now.state) c.args.from c.args.to len) same (subst (λ t. GetsTooLong limit t c.args.from c.args.to len) c.text-text.ensures.text over),
      λ h. refl,
    )

pub returns-clause-size : goal.returns-clause-size
returns-clause-size c =
    let text = text_of c.text-text.result.now in
    let limit = c.self.inside.limits.text in
    let len = length c.args.inserted.now in
    let same : limit ≡ c.args.self.now.limit = ap (λ (b : LimitedBuffer). b.limit) c.self.view_is in
    let known = long_known c.one_place.ensures limit text c.args.from c.args.to c.in-Some.part (chars c.args.inserted.now) len
    c.in-Some.ensures.part (ap length (encodes-chars c.args.inserted.now c.utf8.inserted)) in
    let short : GetsTooLong limit text c.args.from c.args.to len → ⊥ = λ h. true≢false (sym (c.is_over.ensures.1 (known.1 h)) ∙ c.if-is_over.false) in (
      λ e. absurd (cc),
      λ h. absurd (short (subst (λ t. GetsTooLong limit t c.args.from c.args.to len) (sym c.text-text.ensures.text)
          (subst (λ n. GetsTooLong n (current_text c.args.self.now.state) c.args.from c.args.to len) (sym same) h))),
    )
