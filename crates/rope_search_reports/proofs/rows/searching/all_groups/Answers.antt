use Rattle.std.proofs.Common.{IsUtf8, refl, ap, subst}
use Rattle.ropey.specs.Slices.{slice_bytes, slice_text}
use Rattle.regex_cursor.proofs.TreeLaws.{finds_of_trees, regexes_have_trees}
use Rattle.rope_search_reports.specs.Finders.{AreFirstGroupsOf}
use Rattle.rope_search_reports.proofs.FirstLemmas.{first-groups-stand}
use Rattle.rope_search_reports.proofs.rows.searching.all_groups.Goals as goal

pub write_groups-requires-clause-first : goal.write_groups-requires-clause-first
write_groups-requires-clause-first c = ap (λ p. p.last) c.in_text-pass.ensures.begins

pub write_groups-requires-clause-goes_on : goal.write_groups-requires-clause-goes_on
write_groups-requires-clause-goes_on c = ap (λ p. p.is_over) c.in_text-pass.ensures.begins

pub write_groups-requires-clause-by : goal.write_groups-requires-clause-by
write_groups-requires-clause-by c = ap (λ p. p.by) c.in_text-pass.ensures.begins

pub returns-clause-groups : goal.returns-clause-groups
returns-clause-groups c = λ text built.
    let same = ap (λ p. p.content) c.in_text-pass.ensures.begins in
    subst (λ content. AreFirstGroupsOf c.args.count built.tree content c.write_groups.new.groups.items) same (c.in_ok-write_groups.ensures.groups text built)

pub returns-clause-stand : goal.returns-clause-stand
returns-clause-stand c =
    let content = slice_bytes c.args.text in
    let utf8 : IsUtf8 content = (slice_text c.args.text, (c.in_text-pass.ensures.scalars, refl)) in
    let text = c.requires.built.0 in
    let built = c.requires.built.1 in
    let same = ap (λ p. p.content) c.in_text-pass.ensures.begins in
    first-groups-stand c.args.count built.tree content c.write_groups.new.groups.items c.requires.some (finds_of_trees built.tree)
    (regexes_have_trees.noted text c.args.regex.now built content) utf8
    (subst (λ cs. AreFirstGroupsOf c.args.count built.tree cs c.write_groups.new.groups.items) same (c.in_ok-write_groups.ensures.groups text built))
