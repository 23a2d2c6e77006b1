use Rattle.std.proofs.Common.{◌≡◌, ◌*◌, ◌++◌, ◌∷◌, [], ℕ, List, length, map, refl, ap, sym, subst, ◌∙◌, arith}
use Rattle.std.specs.List.{range_with_len}
use Rattle.regex_cursor.specs.Regexes.{IsRegexOf}
use Rattle.regex_cursor.proofs.TreeLaws.{finds_of_trees, regexes_have_trees}
use Rattle.regex_cursor.specs.NextMatches.{TreeFindsNext}
use Rattle.rope_search_changes.specs.FirstGroups.{first_groups}
use Rattle.rope_search_reports.specs.Finders.{FinderTells, group_told}
use Rattle.rope_search_reports.specs.Matches.{groups_of}
use Rattle.rope_search_reports.proofs.FirstLemmas.{first-groups-are, first-groups-told}
use Rattle.rope_search_reports.proofs.MatchLemmas.{Searched-start, room_behind}
use Rattle.rope_search_reports.proofs.RowLemmas.{next-told, next-further, next-shown, none-next}
use Rattle.rope_search_reports.proofs.rows.searching.write_groups.Goals as goal

pub loop-groups-init : goal.loop-groups-init
loop-groups-init g c =
    let content = c.args.pass.now.content in
    let count = c.args.count in (
      refl,
      c.requires.goes_on,
      refl,
      λ text built.
          rw (c.requires.first, c.requires.empty)
          (Searched-start (λ t. first_groups count (groups_of t)) built.tree content (finds_of_trees built.tree)),
      c.requires.by,
      c.requires.slots,
    )

pub loop-groups-smaller : goal.loop-groups-smaller
loop-groups-smaller g c =
    let content = c.args.pass.now.content in
    let told : (text : List ℕ) → (built : IsRegexOf text c.args.regex.now) → FinderTells (TreeFindsNext built.tree c.loop-groups.pass.content c.loop-groups.pass.last) c.in_ok-next.field-0 c.next.new.slots =
    subst (λ re. (text : List ℕ) → (built : IsRegexOf text re) → FinderTells (TreeFindsNext built.tree c.loop-groups.pass.content c.loop-groups.pass.last) c.in_ok-next.field-0 c.next.new.slots) c.loop-groups.invariant.0 (c.in_ok-next.ensures.found c.loop-groups.invariant.1) in
    let tree = c.requires.built.1.tree in
    let next = next-told tree content _ c.loop-groups.pass.last c.in_ok-next.field-0 c.in-Some.field-0 _ c.loop-groups.invariant.2 (told c.requires.built.0 c.requires.built.1) c.in-Some.is in
    let gone = rw c.in-Some.is at c.in_ok-next.ensures.goes_on in
    omega (arith, next-further tree content c.loop-groups.pass.last _ _ (finds_of_trees tree) next, ap (λ p. room_behind (length content) p.last) gone)

pub loop-groups-preserved : goal.loop-groups-preserved
loop-groups-preserved g c =
    let content = c.args.pass.now.content in
    let count = c.args.count in
    let told : (text : List ℕ) → (built : IsRegexOf text c.args.regex.now) → FinderTells (TreeFindsNext built.tree c.loop-groups.pass.content c.loop-groups.pass.last) c.in_ok-next.field-0 c.next.new.slots =
    subst (λ re. (text : List ℕ) → (built : IsRegexOf text re) → FinderTells (TreeFindsNext built.tree c.loop-groups.pass.content c.loop-groups.pass.last) c.in_ok-next.field-0 c.next.new.slots) c.loop-groups.invariant.0 (c.in_ok-next.ensures.found c.loop-groups.invariant.1) in
    let gone = rw c.in-Some.is at c.in_ok-next.ensures.goes_on in
    let slots = c.next.new.slots in
    let len : length slots ≡ 2 * count = c.next.auto.slots ∙ c.loop-groups.invariant.5 in
    let shown = first_groups count (map (group_told slots) (range_with_len 0 10)) in
    let items : c.push.new.self.items ≡ c.loop-groups.groups.items ++ shown ∷ [] = c.in_ok-push.ensures.items ∙ ap (λ g. c.loop-groups.groups.items ++ g ∷ []) c.groups_in.ensures in (
      c.next.ensures.same ∙ c.loop-groups.invariant.0,
      ap (λ p. p.is_over) gone,
      ap (λ p. p.content) gone ∙ c.loop-groups.invariant.2,
      λ text built.
          let next = next-told built.tree content _ c.loop-groups.pass.last c.in_ok-next.field-0 c.in-Some.field-0 slots c.loop-groups.invariant.2 (told text built) c.in-Some.is in
          rw (ap (λ p. p.last) gone, items)
          (next-shown (λ t. first_groups count (groups_of t)) built.tree content c.loop-groups.pass.last c.in-Some.field-0 slots c.loop-groups.groups.items shown
          (finds_of_trees built.tree) next
          (first-groups-told built.tree content c.loop-groups.pass.last c.in-Some.field-0 slots count len c.requires.few
          (regexes_have_trees.noted text c.args.regex.now built content) next)
          (c.loop-groups.invariant.3 text built)),
      ap (λ p. p.by) gone ∙ c.loop-groups.invariant.4,
      len,
    )

pub returns-clause-groups : goal.returns-clause-groups
returns-clause-groups g c = λ text built.
    let content = c.args.pass.now.content in
    let told : (text : List ℕ) → (built : IsRegexOf text c.args.regex.now) → FinderTells (TreeFindsNext built.tree c.loop-groups.pass.content c.loop-groups.pass.last) c.in_ok-next.field-0 c.next.new.slots =
    subst (λ re. (text : List ℕ) → (built : IsRegexOf text re) → FinderTells (TreeFindsNext built.tree c.loop-groups.pass.content c.loop-groups.pass.last) c.in_ok-next.field-0 c.next.new.slots) c.loop-groups.invariant.0 (c.in_ok-next.ensures.found c.loop-groups.invariant.1) in
    first-groups-are c.args.count built.tree content c.loop-groups.pass.last c.loop-groups.groups.items (finds_of_trees built.tree)
    (none-next built.tree content _ c.loop-groups.pass.last c.in_ok-next.field-0 _ c.loop-groups.invariant.2 (told text built) c.in_default.is)
    (c.loop-groups.invariant.3 text built)

pub next-requires-clause-by : goal.next-requires-clause-by
next-requires-clause-by g c = c.loop-groups.invariant.4 ∙ sym c.loop-groups.invariant.0

pub next-requires-clause-slots : goal.next-requires-clause-slots
next-requires-clause-slots g c = omega (arith, c.loop-groups.invariant.5, c.requires.some)

pub groups_in-requires-clause-slots : goal.groups_in-requires-clause-slots
groups_in-requires-clause-slots g c = omega (arith, c.next.auto.slots, c.loop-groups.invariant.5)
