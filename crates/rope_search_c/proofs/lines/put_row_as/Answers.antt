use Rattle.std.proofs.Common.{◌≡◌, ℕ, ◌<◌, ◌++◌, List, length, map, set, get_or, ap, sym, subst, ◌∙◌, arith}
use Rattle.std.proofs.lemmas.List.{get_or-map, length-map, take_all}
use Rattle.std.proofs.lemmas.List.Elements.{All-get_or}
use Rattle.ropey.specs.Slices.{slice_text}
use Rattle.rope_search.specs.LineColumns.{AreColumnsOf, columns_as}
use Rattle.rope_search_c.specs.Reading.{span_in, with_front}
use Rattle.rope_search_c.specs.declared.matches.Span.{Span}
use Rattle.rope_search_c.proofs.SpanLemmas.{put-match-in, put-match-out}
use Rattle.rope_search_c.proofs.lines.put_row_as.Goals.{then-next-out, else-next-out}
use Rattle.rope_search_c.proofs.lines.put_row_as.Goals as goal

pub column_for-requires : goal.column_for-requires
column_for-requires c =
    (All-get_or (AreColumnsOf (slice_text c.args.own.now)) c.args.row.now c.loop-columns.columns-index (0, 0) c.loop-columns-test.true c.requires.columns).0

pub column_for-requires-then-next-out : goal.column_for-requires-then-next-out
column_for-requires-then-next-out c =
    (All-get_or (AreColumnsOf (slice_text c.args.own.now)) c.args.row.now c.loop-columns.columns-index (0, 0) c.loop-columns-test.true c.requires.columns).1

pub loop-columns-preserved : goal.loop-columns-preserved
loop-columns-preserved c =
    let so = c.loop-columns.invariant in
    let row = c.args.row.now in
    let i = c.loop-columns.columns-index in
    let f = columns_as c.args.encoding (slice_text c.args.own.now) in
    let inside : i < length (map f row) = omega (arith, c.loop-columns-test.true, length-map row f) in
    let one : get_or (map f row) i (0, 0) ≡ f (get_or row i (0, 0)) = get_or-map f row i (0, 0) (0, 0) c.loop-columns-test.true in (
      omega (arith, so.0),
      λ done first was here. elim c.if-next-out.branch [
        | then-next-out w ↦
            let make : ℕ → ℕ → Span = λ start stop. record { line = c.args.line; start = start; stop = stop } in
            let told : make w.column_for.result w.column_for-then-next-out.result ≡ span_in c.args.line (get_or (map f row) i (0, 0)) =
            ap (λ n. make n w.column_for-then-next-out.result) w.column_for.ensures
            ∙ ap (make (f (get_or row i (0, 0))).0) w.column_for-then-next-out.ensures
            ∙ ap (span_in c.args.line) (sym one) in
            w.out-is ∙ ap (λ s. set c.loop-columns.out c.loop-columns.next s) told
            ∙ put-match-in c.args.line c.args.at i c.loop-columns.next (map f row) (0, 0) done first c.loop-columns.out inside so.0 here (so.1 done first was here) w.if-next-out.true
        | else-next-out w ↦
            w.out-is ∙ put-match-out c.args.line c.args.at i c.loop-columns.next (map f row) (0, 0) done first c.loop-columns.out inside so.0 here (so.1 done first was here) w.if-next-out.false
      ],
    )

pub returns : goal.returns
returns c = λ done first was here.
    let f = columns_as c.args.encoding (slice_text c.args.own.now) in
    let row = c.args.row.now in
    let all = take_all c.loop-columns.columns-index (map f row) (omega (arith, length-map row f, c.loop-columns-test.false)) in
    c.loop-columns.invariant.1 done first was here ∙ ap (λ l. with_front (done ++ map (span_in c.args.line) l) first) all
