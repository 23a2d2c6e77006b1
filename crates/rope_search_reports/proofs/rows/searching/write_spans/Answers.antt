use Rattle.std.proofs.Common.{ℕ, List, length, refl, ap, sym, subst, ◌∙◌, arith}
use Rattle.regex_cursor.specs.Regexes.{IsRegexOf}
use Rattle.regex_cursor.proofs.TreeLaws.{finds_of_trees}
use Rattle.regex_cursor.specs.NextMatches.{TreeFindsNext}
use Rattle.rope_search_reports.specs.Finders.{FinderTells}
use Rattle.rope_search_reports.specs.Pattern.{span_of}
use Rattle.rope_search_reports.proofs.MatchLemmas.{Searched-start, room_behind}
use Rattle.rope_search_reports.proofs.RowLemmas.{next-told, next-further, next-shown, none-next, last-spans}
use Rattle.rope_search_reports.proofs.rows.searching.write_spans.Goals as goal

pub loop-span-init : goal.loop-span-init
loop-span-init g c =
    let content = c.args.pass.now.content in (
      refl,
      c.requires.goes_on,
      refl,
      λ text built.
          rw (c.requires.first, c.requires.empty)
          (Searched-start span_of built.tree content (finds_of_trees built.tree)),
      c.requires.by,
    )

pub loop-span-smaller : goal.loop-span-smaller
loop-span-smaller g c =
    let content = c.args.pass.now.content in
    let told : (text : List ℕ) → (built : IsRegexOf text c.args.regex.now) → FinderTells (TreeFindsNext built.tree c.loop-span.pass.content c.loop-span.pass.last) c.in_ok-span.field-0 c.next.new.slots =
    subst (λ re. (text : List ℕ) → (built : IsRegexOf text re) → FinderTells (TreeFindsNext built.tree c.loop-span.pass.content c.loop-span.pass.last) c.in_ok-span.field-0 c.next.new.slots) c.loop-span.invariant.0 (c.in_ok-span.ensures.found c.loop-span.invariant.1) in
    let tree = c.requires.built.1.tree in
    let next = next-told tree content _ c.loop-span.pass.last c.in_ok-span.field-0 c.in-Some.span _ c.loop-span.invariant.2 (told c.requires.built.0 c.requires.built.1) c.in-Some.is in
    let gone = rw c.in-Some.is at c.in_ok-span.ensures.goes_on in
    omega (arith, next-further tree content c.loop-span.pass.last _ _ (finds_of_trees tree) next, ap (λ p. room_behind (length content) p.last) gone)

pub loop-span-preserved : goal.loop-span-preserved
loop-span-preserved g c =
    let content = c.args.pass.now.content in
    let told : (text : List ℕ) → (built : IsRegexOf text c.args.regex.now) → FinderTells (TreeFindsNext built.tree c.loop-span.pass.content c.loop-span.pass.last) c.in_ok-span.field-0 c.next.new.slots =
    subst (λ re. (text : List ℕ) → (built : IsRegexOf text re) → FinderTells (TreeFindsNext built.tree c.loop-span.pass.content c.loop-span.pass.last) c.in_ok-span.field-0 c.next.new.slots) c.loop-span.invariant.0 (c.in_ok-span.ensures.found c.loop-span.invariant.1) in
    let gone = rw c.in-Some.is at c.in_ok-span.ensures.goes_on in (
      c.next.ensures.same ∙ c.loop-span.invariant.0,
      ap (λ p. p.is_over) gone,
      ap (λ p. p.content) gone ∙ c.loop-span.invariant.2,
      λ text built.
          let next = next-told built.tree content _ c.loop-span.pass.last c.in_ok-span.field-0 c.in-Some.span _ c.loop-span.invariant.2 (told text built) c.in-Some.is in
          rw (ap (λ p. p.last) gone, c.in_ok-push.ensures.items)
          (next-shown span_of built.tree content c.loop-span.pass.last c.in-Some.span _ c.loop-span.spans.items c.in-Some.span
          (finds_of_trees built.tree) next next.span_is (c.loop-span.invariant.3 text built)),
      ap (λ p. p.by) gone ∙ c.loop-span.invariant.4,
    )

pub returns-clause-spans : goal.returns-clause-spans
returns-clause-spans g c = λ text built.
    let content = c.args.pass.now.content in
    let told : (text : List ℕ) → (built : IsRegexOf text c.args.regex.now) → FinderTells (TreeFindsNext built.tree c.loop-span.pass.content c.loop-span.pass.last) c.in_ok-span.field-0 c.next.new.slots =
    subst (λ re. (text : List ℕ) → (built : IsRegexOf text re) → FinderTells (TreeFindsNext built.tree c.loop-span.pass.content c.loop-span.pass.last) c.in_ok-span.field-0 c.next.new.slots) c.loop-span.invariant.0 (c.in_ok-span.ensures.found c.loop-span.invariant.1) in
    last-spans built.tree content c.loop-span.pass.last c.loop-span.spans.items (finds_of_trees built.tree)
    (none-next built.tree content _ c.loop-span.pass.last c.in_ok-span.field-0 _ c.loop-span.invariant.2 (told text built) c.in_default.is)
    (c.loop-span.invariant.3 text built)

pub next-requires-clause-by : goal.next-requires-clause-by
next-requires-clause-by g c = c.loop-span.invariant.4 ∙ sym c.loop-span.invariant.0
