use Rattle.std.proofs.Common.{◌≡◌, ◌+◌, ◌<◌, length, ap, sym, subst, ◌∙◌, arith, slice_set}
use Rattle.rope_search.specs.declared.text_changes.TextChange.{TextChange}
use Rattle.rope_search.specs.TextChanges.{range_from, range_in}
use Rattle.rope_search_reports.proofs.WeaveLemmas.{change_at}
use Rattle.rope_search.proofs.TextChangeLemmas.{RangesPut, put-start, put-more, put-all}
use Rattle.rope_search.proofs.text_changes.put_ranges.Goals as goal

pub loop-k-init : goal.loop-k-init
loop-k-init c = put-start c.args.is_back c.args.changes.now c.args.out.now c.requires.0 c.requires.1 c.requires.2

pub loop-k-preserved : goal.loop-k-preserved
loop-k-preserved c =
    let changes = c.args.changes.now in
    let k = c.loop-k.k in
    let low : k < length changes = omega (arith, c.loop-k-test.true, c.min-count.ensures) in
    let room : k < length c.args.out.now = omega (arith, c.loop-k-test.true, c.min-count.ensures) in
    let told : c.from_change-range.result ≡ range_from c.loop-k.at c.loop-k.at_new (change_at changes k) = c.from_change-range.ensures in
    let more = put-more c.args.is_back changes k c.loop-k.at c.loop-k.at_new c.args.out.now c.loop-k.out c.directed.result low room
    (c.directed.ensures ∙ ap (range_in c.args.is_back) told) c.loop-k.invariant in
    subst (λ (r : TextChange). RangesPut c.args.is_back changes (k + 1) r.old_end r.new_end c.args.out.now (slice_set c.loop-k.out k c.directed.result)) (sym told) more

pub returns : goal.returns
returns c =
    put-all c.args.is_back c.args.changes.now c.loop-k.k c.loop-k.at c.loop-k.at_new c.args.out.now c.loop-k.out
    (omega (arith, c.min-count.ensures, c.loop-k-test.false, c.loop-k.auto.k-end)) c.loop-k.invariant
