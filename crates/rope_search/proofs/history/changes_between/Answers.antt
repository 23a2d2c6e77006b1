use Rattle.std.proofs.Common.{◌≡◌, ◌-◌, ◌^◌, ◌<◌, [], length, drop, slice_index_or, sym, ap, subst, ◌∙◌, arith}
use Rattle.std.proofs.lemmas.List.{length-map}
use Rattle.str_indices.specs.Text.{byte_len}
use Rattle.ropey.specs.Chunks.{text_of}
use Rattle.rope_search_reports.specs.Turned.{Lead, listed}
use Rattle.rope_search.specs.Histories.{changes_at, text_at}
use Rattle.rope_search.specs.JoinedSteps.{AreComposed, Stays}
use Rattle.rope_search.specs.Joints.{version_changes, version_texts}
use Rattle.rope_search.proofs.HistoryLemmas.{text_in, changes_in, led-to}
use Rattle.rope_search.proofs.UndoStepLemmas.{seen_at}
use Rattle.rope_search.proofs.JoinedLemmas.{between-start, between-more, between-end}
use Rattle.rope_search.proofs.history.changes_between.Goals as goal

pub loop-k-init : goal.loop-k-init
loop-k-init c =
    let items = c.args.versions.now in
    let text : text_at (version_texts items) 0 ≡ text_of (slice_index_or items 0 c.index-versions-0.result).text = seen_at text_in items 0 c.index-versions-0.result [] c.requires.some in
    let fits : byte_len (text_at (version_texts items) 0) < 2 ^ 64 = omega (arith, ap byte_len text, c.len_bytes.ensures.bytes, c.len_bytes.type_inv) in
    (between-start (version_texts items) (version_changes items) c.new-changes.result.items c.new-changes.ensures.items fits, omega arith)

pub composed-requires : goal.composed-requires
composed-requires c =
    let items = c.args.versions.now in
    let k = c.loop-k.k in
    let texts = version_texts items in
    let low : k < length items = omega (arith, c.loop-k-test.true) in
    let b = c.loop-k.invariant.0 in
    let text : text_at texts k ≡ text_of c.index-versions-k.result.text = seen_at text_in items k c.index-versions-k.result [] low ∙ sym (ap text_in c.index-versions-k.is) in
    let fits : byte_len (text_at texts k) < 2 ^ 64 = omega (arith, ap byte_len text, c.len_bytes-in-loop-k.ensures.bytes, c.len_bytes-in-loop-k.type_inv) in
    let first : text_at texts 0 ≡ text_of (slice_index_or items 0 c.index-versions-0.result).text = seen_at text_in items 0 c.index-versions-0.result [] c.requires.some in
    let first_fits : byte_len (text_at texts 0) < 2 ^ 64 = omega (arith, ap byte_len first, c.len_bytes.ensures.bytes, c.len_bytes.type_inv) in
    let made : changes_at (version_changes items) k ≡ c.as_slice-in-loop-k.result.now =
    seen_at changes_in items k c.index-versions-k.result [] low ∙ sym (c.as_slice-in-loop-k.ensures ∙ ap changes_in c.index-versions-k.is) in
    let on = led-to texts (version_changes items) k c.requires.led (λ none. absurd (omega (arith, none, c.loop-k.invariant.1))) (omega (arith, low, length-map items text_in)) in (
      text_at texts 0,
      text_at texts (k - 1),
      text_at texts k,
      subst (λ cs. Lead cs (text_at texts 0) (text_at texts (k - 1))) (sym c.as_slice.ensures.value) b.lead,
      subst (λ cs. Lead cs (text_at texts (k - 1)) (text_at texts k)) made on,
      first_fits,
      b.fits,
      fits,
    )

pub loop-k-preserved : goal.loop-k-preserved
loop-k-preserved c =
    let items = c.args.versions.now in
    let k = c.loop-k.k in
    let texts = version_texts items in
    let changes = version_changes items in
    let low : k < length items = omega (arith, c.loop-k-test.true) in
    let text : text_at texts k ≡ text_of c.index-versions-k.result.text = seen_at text_in items k c.index-versions-k.result [] low ∙ sym (ap text_in c.index-versions-k.is) in
    let fits : byte_len (text_at texts k) < 2 ^ 64 = omega (arith, ap byte_len text, c.len_bytes-in-loop-k.ensures.bytes, c.len_bytes-in-loop-k.type_inv) in
    let made : c.as_slice-in-loop-k.result.now ≡ changes_at changes k =
    c.as_slice-in-loop-k.ensures ∙ ap changes_in c.index-versions-k.is ∙ sym (seen_at changes_in items k c.index-versions-k.result [] low) in
    let told = c.in_ok-changes.ensures in
    let here = c.as_slice.ensures.value in (
      between-more texts changes k c.loop-k.changes.items c.in_ok-changes.changes.items c.loop-k.invariant.1 (omega (arith, low, length-map items text_in))
          (length-map items changes_in ∙ sym (length-map items text_in)) c.requires.led c.loop-k.invariant.0 fits
          (λ old middle new one other. told.lead old middle new (subst (λ cs. Lead cs old middle) (sym here) one) (subst (λ cs. Lead cs middle new) (sym made) other))
          (λ x y z one other. told.stays x y z (subst (λ cs. Stays cs x y) (sym here) one) (subst (λ cs. Stays cs y z) (sym made) other))
          told.apart
          (omega (arith, told.few, ap length here, ap length made)),
      omega arith,
    )

pub returns-clause-lead : goal.returns-clause-lead
returns-clause-lead c =
    let items = c.args.versions.now in
    let texts = version_texts items in
    let same = length-map items text_in in
    let all = between-end texts (version_changes items) c.loop-k.k c.loop-k.changes.items (omega (arith, c.loop-k-test.false, c.loop-k.auto.k-end, same, c.requires.some))
    (length-map items changes_in ∙ sym same) c.loop-k.invariant.0 in
    subst (λ n. Lead (listed c.packed.result) (text_at texts 0) (text_at texts (n - 1))) same (subst (λ cs. Lead cs (text_at texts 0) (text_at texts (length texts - 1))) (sym c.packed.ensures) all.0)

pub returns-clause-composed : goal.returns-clause-composed
returns-clause-composed c =
    let items = c.args.versions.now in
    let same = length-map items text_in in
    let all = between-end (version_texts items) (version_changes items) c.loop-k.k c.loop-k.changes.items (omega (arith, c.loop-k-test.false, c.loop-k.auto.k-end, same, c.requires.some))
    (length-map items changes_in ∙ sym same) c.loop-k.invariant.0 in
    subst (AreComposed (drop 1 (version_changes items))) (sym c.packed.ensures) all.1
