use Rattle.std.proofs.Common.{◌≡◌, ℕ, [], ◌∷◌, ◌++◌, List, IsUtf8, length, refl, ap, sym, subst, ◌∙◌, arith}
use Rattle.ropey.specs.Slices.{slice_bytes, slice_pieces, slice_text}
use Rattle.regex_cursor.specs.Regexes.{IsRegexOf}
use Rattle.regex_cursor.proofs.TreeLaws.{finds_of_trees, regexes_have_trees}
use Rattle.regex_cursor.specs.NextMatches.{TreeFindsNext}
use Rattle.rope_search_reports.specs.Finders.{FinderTells}
use Rattle.rope_search_reports.specs.LineGroups.{moved}
use Rattle.rope_search_reports.specs.Replacement.{HasSpansIn}
use Rattle.rope_search_reports.proofs.AmongLemmas.{next-spans}
use Rattle.rope_search_reports.proofs.ListedLemmas.{added-all, added-more, added-none}
use Rattle.rope_search_reports.proofs.MatchLemmas.{room_behind}
use Rattle.rope_search_reports.proofs.PlaceLemmas.{rope-scalars}
use Rattle.rope_search_reports.proofs.RowLemmas.{groups-told, next-told, next-further, none-next}
use Rattle.rope_search_reports.proofs.rows.groups.add_groups.Goals as goal

pub loop-pass-init : goal.loop-pass-init
loop-pass-init c =
    let begins = c.in_line-pass.ensures.begins in
    let shows = c.new.ensures.content in (
      refl,
      ap (λ p. p.is_over) begins,
      ap (λ p. p.content) begins ∙ shows,
      λ text built.
          rw (ap (λ p. p.last) begins)
          (added-none built.tree (slice_bytes c.args.line) c.args.start c.args.groups.now.items (finds_of_trees built.tree)),
      ap (λ p. p.by) begins,
    )

pub loop-pass-smaller : goal.loop-pass-smaller
loop-pass-smaller c =
    let content = slice_bytes c.args.line in
    let told : (text : List ℕ) → (built : IsRegexOf text c.args.regex.now) → FinderTells (TreeFindsNext built.tree c.loop-pass.pass.content c.loop-pass.pass.last) c.in_ok-next.field-0 c.next.new.slots =
    subst (λ re. (text : List ℕ) → (built : IsRegexOf text re) → FinderTells (TreeFindsNext built.tree c.loop-pass.pass.content c.loop-pass.pass.last) c.in_ok-next.field-0 c.next.new.slots) c.loop-pass.invariant.0 (c.in_ok-next.ensures.found c.loop-pass.invariant.1) in
    let tree = c.requires.built.1.tree in
    let next = next-told tree content _ c.loop-pass.pass.last c.in_ok-next.field-0 c.in-Some.field-0 _ c.loop-pass.invariant.2 (told c.requires.built.0 c.requires.built.1) c.in-Some.is in
    let gone = rw c.in-Some.is at c.in_ok-next.ensures.goes_on in
    omega (arith, next-further tree content c.loop-pass.pass.last _ _ (finds_of_trees tree) next, ap (λ p. room_behind (length content) p.last) gone)

pub moved-requires-clause-spans : goal.moved-requires-clause-spans
moved-requires-clause-spans c =
    let content = slice_bytes c.args.line in
    let told : (text : List ℕ) → (built : IsRegexOf text c.args.regex.now) → FinderTells (TreeFindsNext built.tree c.loop-pass.pass.content c.loop-pass.pass.last) c.in_ok-next.field-0 c.next.new.slots =
    subst (λ re. (text : List ℕ) → (built : IsRegexOf text re) → FinderTells (TreeFindsNext built.tree c.loop-pass.pass.content c.loop-pass.pass.last) c.in_ok-next.field-0 c.next.new.slots) c.loop-pass.invariant.0 (c.in_ok-next.ensures.found c.loop-pass.invariant.1) in
    let utf8 : IsUtf8 content = (slice_text c.args.line, (rope-scalars (slice_pieces c.args.line) c.len_bytes.ensures.cut.cut, refl)) in
    let text = c.requires.built.0 in
    let built = c.requires.built.1 in
    let has = finds_of_trees built.tree in
    let notes = regexes_have_trees.noted text c.args.regex.now built content in
    let slots = c.next.new.slots in
    let next = next-told built.tree content _ c.loop-pass.pass.last c.in_ok-next.field-0 c.in-Some.field-0 slots c.loop-pass.invariant.2 (told text built) c.in-Some.is in
    let shown = groups-told built.tree content c.loop-pass.pass.last c.in-Some.field-0 slots (omega (arith, c.next.auto.slots)) notes next in
    subst (HasSpansIn content) (sym (c.groups_in.ensures ∙ shown))
    (next-spans built.tree content c.loop-pass.pass.last c.in-Some.field-0 slots has notes utf8 next)

pub loop-pass-preserved : goal.loop-pass-preserved
loop-pass-preserved c =
    let content = slice_bytes c.args.line in
    let told : (text : List ℕ) → (built : IsRegexOf text c.args.regex.now) → FinderTells (TreeFindsNext built.tree c.loop-pass.pass.content c.loop-pass.pass.last) c.in_ok-next.field-0 c.next.new.slots =
    subst (λ re. (text : List ℕ) → (built : IsRegexOf text re) → FinderTells (TreeFindsNext built.tree c.loop-pass.pass.content c.loop-pass.pass.last) c.in_ok-next.field-0 c.next.new.slots) c.loop-pass.invariant.0 (c.in_ok-next.ensures.found c.loop-pass.invariant.1) in
    let utf8 : IsUtf8 content = (slice_text c.args.line, (rope-scalars (slice_pieces c.args.line) c.len_bytes.ensures.cut.cut, refl)) in
    let gone = rw c.in-Some.is at c.in_ok-next.ensures.goes_on in
    let slots = c.next.new.slots in
    let items : c.push.new.self.items ≡ c.loop-pass.groups.items ++ moved c.args.start c.groups_in.result ∷ [] =
    c.in_ok-push.ensures.items ∙ ap (λ g. c.loop-pass.groups.items ++ g ∷ []) c.moved.ensures in (
      c.next.ensures.same ∙ c.loop-pass.invariant.0,
      ap (λ p. p.is_over) gone,
      ap (λ p. p.content) gone ∙ c.loop-pass.invariant.2,
      λ text built.
          let has = finds_of_trees built.tree in
          let notes = regexes_have_trees.noted text c.args.regex.now built content in
          let next = next-told built.tree content _ c.loop-pass.pass.last c.in_ok-next.field-0 c.in-Some.field-0 slots c.loop-pass.invariant.2 (told text built) c.in-Some.is in
          let shown = c.groups_in.ensures ∙ groups-told built.tree content c.loop-pass.pass.last c.in-Some.field-0 slots (omega (arith, c.next.auto.slots)) notes next in
          let stand = subst (HasSpansIn content) (sym shown) (next-spans built.tree content c.loop-pass.pass.last c.in-Some.field-0 slots has notes utf8 next) in
          rw (ap (λ p. p.last) gone)
          (added-more built.tree content c.loop-pass.pass.last c.in-Some.field-0 slots c.args.start c.args.groups.now.items c.loop-pass.groups.items c.push.new.self.items
          c.groups_in.result has next shown stand items (c.loop-pass.invariant.3 text built)),
      ap (λ p. p.by) gone ∙ c.loop-pass.invariant.4,
    )

pub returns-clause-groups : goal.returns-clause-groups
returns-clause-groups c = λ text built.
    let content = slice_bytes c.args.line in
    let told : (text : List ℕ) → (built : IsRegexOf text c.args.regex.now) → FinderTells (TreeFindsNext built.tree c.loop-pass.pass.content c.loop-pass.pass.last) c.in_ok-next.field-0 c.next.new.slots =
    subst (λ re. (text : List ℕ) → (built : IsRegexOf text re) → FinderTells (TreeFindsNext built.tree c.loop-pass.pass.content c.loop-pass.pass.last) c.in_ok-next.field-0 c.next.new.slots) c.loop-pass.invariant.0 (c.in_ok-next.ensures.found c.loop-pass.invariant.1) in
    added-all built.tree content c.loop-pass.pass.last c.args.start c.args.groups.now.items c.loop-pass.groups.items (finds_of_trees built.tree)
    (none-next built.tree content _ c.loop-pass.pass.last c.in_ok-next.field-0 _ c.loop-pass.invariant.2 (told text built) c.in_default.is)
    (c.loop-pass.invariant.3 text built)

pub next-requires-clause-by : goal.next-requires-clause-by
next-requires-clause-by c = c.loop-pass.invariant.4 ∙ sym c.loop-pass.invariant.0
