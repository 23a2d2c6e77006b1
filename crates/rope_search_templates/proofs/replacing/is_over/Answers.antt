use Rattle.std.proofs.Common.{◌≡◌, ℕ, ◌+◌, ◌-◌, ◌*◌, ◌<◌, [], drop, length, map, slice_index_or, refl, ap, sym, subst, ◌∙◌, arith}
use Rattle.std.proofs.lemmas.Bool.Decides.{nat_tests}
use Rattle.std.proofs.lemmas.List.{drop_all}
use Rattle.std.proofs.lemmas.List.Elements.{All-get_or}
use Rattle.str_indices.specs.Text.{byte_len}
use Rattle.ropey.specs.Chunks.{text_of}
use Rattle.rope_search_changes.specs.Text.{bytes_of}
use Rattle.rope_search_templates.specs.Matches.{matched}
use Rattle.rope_search_changes.specs.Replacement.{AreMatchesIn, alone, replaced, whole, expand, HasSpansIn}
use Rattle.rope_search_templates.proofs.ContentLemmas.{text-scalars, text-utf8, all-left}
use Rattle.rope_search_templates.proofs.LengthLemmas.{HasRoom, room-next, room-more, room-gap, room-told, room-end}
use Rattle.rope_search_templates.proofs.ShortLemmas.{all-short}
use Rattle.rope_search_templates.proofs.replacing.is_over.Goals as goal

pub returns-then-most_bytes-limit : goal.returns-then-most_bytes-limit
returns-then-most_bytes-limit c =
    let content = bytes_of (text_of c.args.text.now) in
    let template = c.args.template.now in
    let utf8 = text-utf8 _ c.len_bytes-text_len.ensures.cut.cut in
    let spans = c.in-Spans.spans in
    let are : AreMatchesIn content (map alone spans.items) = subst (λ ms. AreMatchesIn content (matched ms)) c.in-Spans.is c.requires in
    let short = all-short content template spans.items utf8 (all-left content (map alone spans.items) utf8 are) in
    let same = ap (λ ms. byte_len (replaced content template 0 (matched ms))) c.in-Spans.is in
    let most : ℕ → ℕ → ℕ → ℕ = λ m l k. m * l + l + m * k in
    let numbers : most c.len_bytes.result c.len_bytes-text_len.result c.len.result ≡ most (byte_len template) (length content) (length spans.items) =
    ap (λ m. most m c.len_bytes-text_len.result c.len.result) c.len_bytes.ensures
    ∙ ap (λ l. most (byte_len template) l c.len.result) c.len_bytes-text_len.ensures.bytes
    ∙ ap (λ k. most (byte_len template) (length content) k) (c.len.ensures ∙ spans.ok.0) in
    (λ so. absurd (cc), λ long. absurd (omega (arith, long, same, short, numbers, c.if-most_bytes-limit.true, c.most_bytes.ensures)))

pub loop-index-init : goal.loop-index-init
loop-index-init c = record {
  left = all-left _ _ (text-utf8 _ c.len_bytes-text_len.ensures.cut.cut) c.requires;
  room_is = refl;
}

pub overflow_sub-gap : goal.overflow_sub-gap
overflow_sub-gap c =
    let here = room-next _ _ _ (matched c.args.matches.now) c.loop-index.index _ _ _ (omega (arith, c.loop-index-test.true, c.len-index-end.ensures)) c.loop-index.invariant in
    omega (arith, here.left.follow.0, ap (λ p. p.0) (c.span-start.ensures ∙ ap whole c.at-found.ensures))

pub returns-then-room-gap : goal.returns-then-room-gap
returns-then-room-gap c =
    let here = room-next _ _ _ (matched c.args.matches.now) c.loop-index.index _ _ _ (omega (arith, c.loop-index-test.true, c.len-index-end.ensures)) c.loop-index.invariant in
    let none = subst (λ p. c.loop-index.room < p.0 - c.loop-index.at) (c.span-start.ensures ∙ ap whole c.at-found.ensures) c.if-room-gap.true in
    (λ _. room-gap _ _ _ _ _ _ _ _ (text-utf8 _ c.len_bytes-text_len.ensures.cut.cut) here none, λ _. refl)

pub len_within-requires : goal.len_within-requires
len_within-requires c = (
  text_of c.args.text.now,
  text-scalars _ c.len_bytes-text_len.ensures.cut.cut,
  subst (HasSpansIn (bytes_of (text_of c.args.text.now))) (sym c.at-found.ensures) (All-get_or (HasSpansIn (bytes_of (text_of c.args.text.now))) (matched c.args.matches.now) c.loop-index.index [] (omega (arith, c.loop-index-test.true, c.len-index-end.ensures)) c.requires.spans),
)

pub returns-in_default-len_within : goal.returns-in_default-len_within
returns-in_default-len_within c =
    let cut = c.len_bytes-text_len.ensures.cut.cut in
    let here = room-next _ _ _ (matched c.args.matches.now) c.loop-index.index _ _ _ (omega (arith, c.loop-index-test.true, c.len-index-end.ensures)) c.loop-index.invariant in
    let spans = subst (HasSpansIn (bytes_of (text_of c.args.text.now))) (sym c.at-found.ensures) (All-get_or (HasSpansIn (bytes_of (text_of c.args.text.now))) (matched c.args.matches.now) c.loop-index.index [] (omega (arith, c.loop-index-test.true, c.len-index-end.ensures)) c.requires.spans) in
    let long = c.in_default-len_within.ensures (text_of c.args.text.now) (text-scalars _ cut) spans in
    let start = ap (λ p. p.0) (c.span-start.ensures ∙ ap whole c.at-found.ensures) in (
      λ _. room-told _ _ _ _ _ _ _ _ (text-utf8 _ cut) here (omega (arith, c.if-room-gap.false, start)) (omega (arith, long, start, ap (λ g. byte_len (expand (bytes_of (text_of c.args.text.now)) g c.args.template.now)) c.at-found.ensures)),
      λ _. refl,
    )

pub overflow_add-room : goal.overflow_add-room
overflow_add-room c =
    let spans = subst (HasSpansIn (bytes_of (text_of c.args.text.now))) (sym c.at-found.ensures) (All-get_or (HasSpansIn (bytes_of (text_of c.args.text.now))) (matched c.args.matches.now) c.loop-index.index [] (omega (arith, c.loop-index-test.true, c.len-index-end.ensures)) c.requires.spans) in
    let told = c.in-Some.ensures (text_of c.args.text.now) (text-scalars _ c.len_bytes-text_len.ensures.cut.cut) spans in
    omega (arith, told.0, told.1)

pub overflow_sub-room-in-loop-index : goal.overflow_sub-room-in-loop-index
overflow_sub-room-in-loop-index c =
    let spans = subst (HasSpansIn (bytes_of (text_of c.args.text.now))) (sym c.at-found.ensures) (All-get_or (HasSpansIn (bytes_of (text_of c.args.text.now))) (matched c.args.matches.now) c.loop-index.index [] (omega (arith, c.loop-index-test.true, c.len-index-end.ensures)) c.requires.spans) in
    let told = c.in-Some.ensures (text_of c.args.text.now) (text-scalars _ c.len_bytes-text_len.ensures.cut.cut) spans in
    omega (arith, told.0, told.1)

pub loop-index-preserved : goal.loop-index-preserved
loop-index-preserved c =
    let cut = c.len_bytes-text_len.ensures.cut.cut in
    let content = bytes_of (text_of c.args.text.now) in
    let template = c.args.template.now in
    let here = room-next _ _ _ (matched c.args.matches.now) c.loop-index.index _ _ _ (omega (arith, c.loop-index-test.true, c.len-index-end.ensures)) c.loop-index.invariant in
    let spans = subst (HasSpansIn content) (sym c.at-found.ensures) (All-get_or (HasSpansIn content) (matched c.args.matches.now) c.loop-index.index [] (omega (arith, c.loop-index-test.true, c.len-index-end.ensures)) c.requires.spans) in
    let told = c.in-Some.ensures (text_of c.args.text.now) (text-scalars _ cut) spans in
    let start = ap (λ p. p.0) (c.span-start.ensures ∙ ap whole c.at-found.ensures) in
    let match = slice_index_or (matched c.args.matches.now) c.loop-index.index [] in
    subst (λ (p : ℕ × ℕ). HasRoom content template p.1 (drop (c.loop-index.index + 1) (matched c.args.matches.now))
    (c.loop-index.room - (p.0 - c.loop-index.at + c.in-Some.len)) c.args.limit (byte_len (replaced content template 0 (matched c.args.matches.now))))
    (sym (c.span-start.ensures ∙ ap whole c.at-found.ensures))
    (room-more content template c.loop-index.at match (drop (c.loop-index.index + 1) (matched c.args.matches.now)) c.loop-index.room c.args.limit
    (byte_len (replaced content template 0 (matched c.args.matches.now))) (c.loop-index.room - ((whole match).0 - c.loop-index.at + c.in-Some.len)) (text-utf8 _ cut) here
    (omega (arith, told.0, told.1, start, c.if-room-gap.false, ap (λ g. byte_len (expand (bytes_of (text_of c.args.text.now)) g c.args.template.now)) c.at-found.ensures)))

pub overflow_sub-result : goal.overflow_sub-result
overflow_sub-result c = omega (arith, c.loop-index.invariant.left.here.0, c.len_bytes-text_len.ensures.bytes)

pub returns : goal.returns
returns c =
    let content = bytes_of (text_of c.args.text.now) in
    let template = c.args.template.now in
    let ended = subst (λ ms. HasRoom content template c.loop-index.at ms c.loop-index.room c.args.limit (byte_len (replaced content template 0 (matched c.args.matches.now))))
    (drop_all c.loop-index.index (matched c.args.matches.now) (omega (arith, c.loop-index-test.false, c.len-index-end.ensures))) c.loop-index.invariant in
    let bytes = c.len_bytes-text_len.ensures.bytes in
    let end = room-end content template c.loop-index.at c.loop-index.room c.args.limit (byte_len (replaced content template 0 (matched c.args.matches.now))) (text-utf8 _ c.len_bytes-text_len.ensures.cut.cut) ended in (
      λ so. end.0 (grind (arith, nat_tests, so, bytes)),
      λ long. let below = end.1 long in grind (arith, nat_tests, below, bytes),
    )
