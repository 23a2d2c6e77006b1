use Rattle.std.proofs.Common.{sym, subst, ◌∙◌, arith}
use Rattle.std.specs.Str.{chars}
use Rattle.std.proofs.lemmas.Bool.{true≢false}
use Rattle.ropey.specs.Chunks.{text_of}
use Rattle.rope_search_reports.specs.Changes.{AreChanges}
use Rattle.rope_search_reports.specs.Replacement.{searched}
use Rattle.rope_search_reports.specs.Text.{IsText, bytes_of}
use Rattle.rope_search_templates.specs.Matches.{matched}
use Rattle.rope_search.specs.Stretches.{ReplacesIn}
use Rattle.rope_search.proofs.PartLaws.{cutting_scalars}
use Rattle.rope_search.proofs.MatchLemmas.{changed_by, not_over, replacements_in, rows_in}
use Rattle.rope_search.proofs.search.Search.replaced.Goals as goal

pub patches-requires-clause-changed : goal.patches-requires-clause-changed
patches-requires-clause-changed c =
    let old = text_of c.args.old.now in
    let template = chars c.args.template.now in
    let enough = c.in_ok-matches.ensures.found in
    let is_text : IsText old = cutting_scalars c.args.old.now c.len_bytes.ensures.cut.cut in
    let shown = c.deref.ensures.value in
    let told = c.in_ok-text.changes-is in
    let made = c.in_ok-text.ensures.changes in
    let changed : AreChanges c.deref.result.now 0 0 old (text_of c.in_ok-text.field-0.text) (searched (bytes_of old) template enough.groups) =
    changed_by c.replacements_are_changes.ensures old c.args.self.now.finder template c.new-template.result (text_of c.in_ok-text.field-0.text) (matched c.in_ok-matches.matches) c.deref.result.now
    is_text enough c.new-template.ensures (cc) c.in_ok-text.ensures.text in
    (searched (bytes_of old) template enough.groups, changed)

pub returns-in_err-patches-clause-unmade : goal.returns-in_err-patches-clause-unmade
returns-in_err-patches-clause-unmade c = λ gets. absurd (
    not_over c.one_list_of_groups.ensures c.args.limits.text (text_of c.args.old.now) c.args.self.now.finder (chars c.args.template.now) c.new-template.result
    (matched c.in_ok-matches.matches) c.in_ok-matches.ensures.found c.new-template.ensures
    (λ long. true≢false (sym (c.is_over.ensures.1 long) ∙ c.if-is_over.false)) gets)

pub returns-in_err-patches-clause-count : goal.returns-in_err-patches-clause-count
returns-in_err-patches-clause-count c = λ n rows.
    let old = text_of c.args.old.now in
    let template = chars c.args.template.now in
    let enough = c.in_ok-matches.ensures.found in
    let is_text : IsText old = cutting_scalars c.args.old.now c.len_bytes.ensures.cut.cut in
    let shown = c.deref.ensures.value in
    let told = c.in_ok-text.changes-is in
    let made = c.in_ok-text.ensures.changes in
    let changed : AreChanges c.deref.result.now 0 0 old (text_of c.in_ok-text.field-0.text) (searched (bytes_of old) template enough.groups) =
    changed_by c.replacements_are_changes.ensures old c.args.self.now.finder template c.new-template.result (text_of c.in_ok-text.field-0.text) (matched c.in_ok-matches.matches) c.deref.result.now
    is_text enough c.new-template.ensures (cc) c.in_ok-text.ensures.text in
    let same = rows_in c.one_list_of_groups.ensures old c.args.self.now.finder template enough.groups n enough.are rows in
    omega (arith, c.patches.ensures.count (searched (bytes_of old) template enough.groups) changed, c.matches_for.ensures.count, same)

pub returns-clause-fits : goal.returns-clause-fits
returns-clause-fits c =
    not_over c.one_list_of_groups.ensures c.args.limits.text (text_of c.args.old.now) c.args.self.now.finder (chars c.args.template.now) c.new-template.result
    (matched c.in_ok-matches.matches) c.in_ok-matches.ensures.found c.new-template.ensures
    (λ long. true≢false (sym (c.is_over.ensures.1 long) ∙ c.if-is_over.false))

pub returns-clause-unmade : goal.returns-clause-unmade
returns-clause-unmade c = λ gets. absurd (
    not_over c.one_list_of_groups.ensures c.args.limits.text (text_of c.args.old.now) c.args.self.now.finder (chars c.args.template.now) c.new-template.result
    (matched c.in_ok-matches.matches) c.in_ok-matches.ensures.found c.new-template.ensures
    (λ long. true≢false (sym (c.is_over.ensures.1 long) ∙ c.if-is_over.false)) gets)

pub returns-clause-count : goal.returns-clause-count
returns-clause-count c = λ n rows.
    let old = text_of c.args.old.now in
    let template = chars c.args.template.now in
    let enough = c.in_ok-matches.ensures.found in
    let is_text : IsText old = cutting_scalars c.args.old.now c.len_bytes.ensures.cut.cut in
    let shown = c.deref.ensures.value in
    let told = c.in_ok-text.changes-is in
    let made = c.in_ok-text.ensures.changes in
    let changed : AreChanges c.deref.result.now 0 0 old (text_of c.in_ok-text.field-0.text) (searched (bytes_of old) template enough.groups) =
    changed_by c.replacements_are_changes.ensures old c.args.self.now.finder template c.new-template.result (text_of c.in_ok-text.field-0.text) (matched c.in_ok-matches.matches) c.deref.result.now
    is_text enough c.new-template.ensures (cc) c.in_ok-text.ensures.text in
    let same = rows_in c.one_list_of_groups.ensures old c.args.self.now.finder template enough.groups n enough.are rows in
    omega (arith, c.patches.ensures.count (searched (bytes_of old) template enough.groups) changed, c.matches_for.ensures.count, same)

pub returns-clause-changes : goal.returns-clause-changes
returns-clause-changes c =
    replacements_in (text_of c.args.old.now) c.args.self.now.finder (chars c.args.template.now) c.new-template.result (matched c.in_ok-matches.matches)
    c.in_ok-text.field-0.changes.items c.in_ok-matches.ensures.found c.new-template.ensures c.in_ok-text.ensures.changes

pub returns-clause-led : goal.returns-clause-led
returns-clause-led c =
    let old = text_of c.args.old.now in
    let template = chars c.args.template.now in
    let enough = c.in_ok-matches.ensures.found in
    let is_text : IsText old = cutting_scalars c.args.old.now c.len_bytes.ensures.cut.cut in (
      searched (bytes_of old) template enough.groups,
      changed_by c.replacements_are_changes.ensures old c.args.self.now.finder template c.new-template.result (text_of c.in_ok-text.field-0.text) (matched c.in_ok-matches.matches)
          c.in_ok-text.field-0.changes.items is_text enough c.new-template.ensures c.in_ok-text.ensures.changes
          c.in_ok-text.ensures.text,
    )

pub returns-clause-changed : goal.returns-clause-changed
returns-clause-changed c =
    subst (λ f. ReplacesIn (text_of c.args.old.now) (text_of c.in_ok-text.field-0.text) f c.in_ok-patches.patches.changed) c.matches_for.ensures.finder c.in_ok-patches.ensures.changed
