use Rattle.ropey.specs.Chunks.{text_of}
use Rattle.rope_search_reports.specs.Replacement.{searched}
use Rattle.rope_search_reports.specs.Text.{IsText, bytes_of}
use Rattle.rope_search_templates.specs.Matches.{matched}
use Rattle.rope_search.proofs.ListedReplacingLemmas.{changes-made}
use Rattle.rope_search.proofs.PartLaws.{cutting_scalars}
use Rattle.rope_search.proofs.search.Search.with_matches_replaced.Goals as goal

pub patches-requires-clause-changed : goal.patches-requires-clause-changed
patches-requires-clause-changed c =
    let old = text_of c.args.old.now in
    let matches = matched c.args.matches.now in
    let shown = c.deref.ensures.value in
    let told = c.in_ok-text.changes-is in
    let made = c.in_ok-text.ensures.changes in
    let is_text : IsText old = cutting_scalars c.args.old.now c.len_bytes.ensures.cut.cut in (
      searched (bytes_of old) c.args.template.now matches,
      changes-made c.replacements_are_changes.ensures old c.args.template.now (text_of c.in_ok-text.field-0.text) matches c.deref.result.now is_text c.requires.matches (cc) c.in_ok-text.ensures.text,
    )

pub returns-in_err-patches-clause-count : goal.returns-in_err-patches-clause-count
returns-in_err-patches-clause-count c =
    let old = text_of c.args.old.now in
    let matches = matched c.args.matches.now in
    let shown = c.deref.ensures.value in
    let told = c.in_ok-text.changes-is in
    let made = c.in_ok-text.ensures.changes in
    let is_text : IsText old = cutting_scalars c.args.old.now c.len_bytes.ensures.cut.cut in
    c.patches.ensures.count (searched (bytes_of old) c.args.template.now matches)
    (changes-made c.replacements_are_changes.ensures old c.args.template.now (text_of c.in_ok-text.field-0.text) matches c.deref.result.now is_text c.requires.matches (cc) c.in_ok-text.ensures.text)

pub returns-clause-count : goal.returns-clause-count
returns-clause-count c =
    let old = text_of c.args.old.now in
    let matches = matched c.args.matches.now in
    let shown = c.deref.ensures.value in
    let told = c.in_ok-text.changes-is in
    let made = c.in_ok-text.ensures.changes in
    let is_text : IsText old = cutting_scalars c.args.old.now c.len_bytes.ensures.cut.cut in
    c.patches.ensures.count (searched (bytes_of old) c.args.template.now matches)
    (changes-made c.replacements_are_changes.ensures old c.args.template.now (text_of c.in_ok-text.field-0.text) matches c.deref.result.now is_text c.requires.matches (cc) c.in_ok-text.ensures.text)

pub returns-clause-led : goal.returns-clause-led
returns-clause-led c =
    let old = text_of c.args.old.now in
    let matches = matched c.args.matches.now in
    let is_text : IsText old = cutting_scalars c.args.old.now c.len_bytes.ensures.cut.cut in (
      searched (bytes_of old) c.args.template.now matches,
      changes-made c.replacements_are_changes.ensures old c.args.template.now (text_of c.in_ok-text.field-0.text) matches c.in_ok-text.field-0.changes.items is_text c.requires.matches
          c.in_ok-text.ensures.changes c.in_ok-text.ensures.text,
    )
