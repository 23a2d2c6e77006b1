use Rattle.std.proofs.Common.{◌≡◌, ◌+◌, ◌-◌, ◌<◌, [], ◌∷◌, ◌++◌, length, take, drop, map, get_or, refl, sym, ap, subst, ◌∙◌, arith}
use Rattle.std.specs.Str.{IsCharBoundary}
use Rattle.std.proofs.lemmas.Grind.{take-set_at}
use Rattle.std.proofs.lemmas.List.{drop-set-lt, length-set, map-append, take_all, take_more}
use Rattle.std.proofs.lemmas.Str.{IsCharBoundary-start}
use Rattle.rope_search_reports.specs.Text.{bytes_of}
use Rattle.rope_search_reports.specs.Replacement.{FollowEachOther, alone}
use Rattle.rope_search_reports.specs.Report.{column, columns}
use Rattle.rope_search_reports.specs.Drafts.{own_text}
use Rattle.rope_search_reports.proofs.OwnLemmas.{own-utf8}
use Rattle.rope_search_reports.proofs.SpanLemmas.{column-start, ends-at, last-end, last-is, narrow-spans, next-span, same-at}
use Rattle.rope_search_reports.proofs.TextPlaces.{places}
use Rattle.rope_search_reports.proofs.line.Line.turn_into_columns.Goals as goal

pub column_from-requires-clause-starts : goal.column_from-requires-clause-starts
column_from-requires-clause-starts c =
    let content = bytes_of (own_text c.args.self.now) in
    IsCharBoundary-start content (own-utf8 c.args.self.now c.requires.holds)

pub column_from-requires-clause-ends : goal.column_from-requires-clause-ends
column_from-requires-clause-ends c =
    let content = bytes_of (own_text c.args.self.now) in
    let from = IsCharBoundary-start content (own-utf8 c.args.self.now c.requires.holds) in
    let some : length c.args.spans.now ≡ (length c.args.spans.now - 1) + 1 = omega (arith, c.if-count-eq0.false) in
    subst (IsCharBoundary content) (sym (last-is c.args.spans.now 0 (length c.args.spans.now - 1) _ some))
    (ends-at content 0 c.args.spans.now c.requires.matches.follow from).stands

pub column_from-requires-clause-counted : goal.column_from-requires-clause-counted
column_from-requires-clause-counted c = sym (column-start (bytes_of (own_text c.args.self.now)))

pub returns-then-column_from-last_end : goal.returns-then-column_from-last_end
returns-then-column_from-last_end c =
    let content = bytes_of (own_text c.args.self.now) in
    let some : length c.args.spans.now ≡ (length c.args.spans.now - 1) + 1 = omega (arith, c.if-count-eq0.false) in
    let last = last-is c.args.spans.now 0 (length c.args.spans.now - 1) (0, 0) some in
    let narrow : column content (last-end 0 c.args.spans.now) ≡ last-end 0 c.args.spans.now =
    ap (column content) (sym last) ∙ sym c.column_from.ensures ∙ c.if-column_from-last_end.true ∙ last in
    sym (narrow-spans places content 0 c.args.spans.now (own-utf8 c.args.self.now c.requires.holds) c.requires.matches.follow narrow)

pub loop-index-init : goal.loop-index-init
loop-index-init c =
    let content = bytes_of (own_text c.args.self.now) in (
      refl,
      refl,
      refl,
      c.requires.matches.follow,
      IsCharBoundary-start content (own-utf8 c.args.self.now c.requires.holds),
      sym (column-start content),
    )

pub columns_from-columns-requires-clause-place : goal.columns_from-columns-requires-clause-place
columns_from-columns-requires-clause-place c = c.loop-index.invariant.4

pub columns_from-columns-requires-clause-counted : goal.columns_from-columns-requires-clause-counted
columns_from-columns-requires-clause-counted c = c.loop-index.invariant.5

pub columns_from-columns-requires-clause-behind : goal.columns_from-columns-requires-clause-behind
columns_from-columns-requires-clause-behind c =
    let content = bytes_of (own_text c.args.self.now) in
    let inv = c.loop-index.invariant in
    let below : c.loop-index.index < length c.loop-index.spans = omega (arith, inv.0, c.loop-index-test.true) in
    let follow = subst (λ ss. FollowEachOther content c.loop-index.place (map alone ss)) (sym inv.2) inv.3 in
    (next-span content c.loop-index.place c.loop-index.spans c.loop-index.index (0, 0) below follow).behind

pub columns_from-columns-requires-clause-span : goal.columns_from-columns-requires-clause-span
columns_from-columns-requires-clause-span c =
    let content = bytes_of (own_text c.args.self.now) in
    let inv = c.loop-index.invariant in
    let below : c.loop-index.index < length c.loop-index.spans = omega (arith, inv.0, c.loop-index-test.true) in
    let follow = subst (λ ss. FollowEachOther content c.loop-index.place (map alone ss)) (sym inv.2) inv.3 in
    let next = next-span content c.loop-index.place c.loop-index.spans c.loop-index.index (0, 0) below follow in
    record { ordered = next.ordered; starts = next.starts; stops = next.ends }

pub loop-index-preserved : goal.loop-index-preserved
loop-index-preserved c =
    let content = bytes_of (own_text c.args.self.now) in
    let f = columns content in
    let spans = c.loop-index.spans in
    let all = c.args.spans.now in
    let k = c.loop-index.index in
    let v = c.columns_from-columns.result in
    let inv = c.loop-index.invariant in
    let below : k < length spans = omega (arith, inv.0, c.loop-index-test.true) in
    let same = same-at spans all k (0, 0) below c.loop-index-test.true inv.2 in
    let next = next-span content c.loop-index.place all k (0, 0) c.loop-index-test.true inv.3 in (
      length-set spans k v ∙ inv.0,
      take-set_at spans k (k + 1) v refl below
          ∙ ap (λ cs. cs ++ v ∷ []) inv.1
          ∙ ap (λ x. map f (take k all) ++ x ∷ []) (c.columns_from-columns.ensures ∙ ap f same.0)
          ∙ sym (ap (map f) (take_more all k (0, 0) c.loop-index-test.true) ∙ map-append f (take k all) (get_or all k (0, 0) ∷ [])),
      drop-set-lt (k + 1) spans k v (omega arith) ∙ same.1,
      subst (λ s. FollowEachOther content s.1 (map alone (drop (k + 1) all))) (sym same.0) next.follow,
      subst (λ s. IsCharBoundary content s.1) (sym same.0) next.ends,
      ap (λ s. s.1) c.columns_from-columns.ensures,
    )

pub returns : goal.returns
returns c =
    let f = columns (bytes_of (own_text c.args.self.now)) in
    let inv = c.loop-index.invariant in
    let whole : c.loop-index.index ≡ length c.args.spans.now = omega (arith, c.loop-index-test.false, c.loop-index.auto.index-end) in
    sym (take_all c.loop-index.index c.loop-index.spans (omega (arith, whole, inv.0)))
    ∙ inv.1 ∙ ap (map f) (take_all c.loop-index.index c.args.spans.now (omega (arith, whole)))
