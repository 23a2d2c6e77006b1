use Rattle.std.proofs.Common.{◌<◌, ◌+◌, ◌++◌, length, drop, sym, ap, ◌∙◌, arith}
use Rattle.std.proofs.lemmas.List.{append_assoc}
use Rattle.rx_utf8.specs.Subsets.{entries_from, entries_of, is_place, lists_of}
use Rattle.rx_utf8.proofs.SourceLaws.{entries_next}
use Rattle.rx_utf8.proofs.entries.entries_into.Goals as goal

pub loop-source-preserved : goal.loop-source-preserved
loop-source-preserved c =
    let into = is_place c.args.end c.args.states.now in
    let rows = c.args.rows.now in
    let s = c.loop-source.source in
    let row = c.index-rows-source.result in
    let old = c.loop-source.entries.items in
    let rest = entries_from into (s + 1) (drop (s + 1) (lists_of rows)) in
    let within : s < length rows = omega arith in
    ap (λ xs. xs ++ rest) (c.in_ok-push_entries.ensures ∙ ap (λ k. old ++ entries_of into k c.deref.result.now) c.in_ok-state_number.ensures ∙ ap (λ x. old ++ entries_of into s x) c.deref.ensures.value)
    ∙ append_assoc old (entries_of into s row.items) rest
    ∙ ap (λ xs. old ++ xs) (sym (entries_next into rows s row within c.index-rows-source.is))
    ∙ c.loop-source.invariant
