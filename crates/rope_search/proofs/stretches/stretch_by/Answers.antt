use Rattle.std.proofs.Common.{◌≡◌, ◌-◌, ◌∷◌, [], length, ap, subst, ◌∙◌, arith}
use Rattle.ropey.specs.Chunks.{text_of}
use Rattle.rope_search_reports.specs.Patches.{made_by}
use Rattle.rope_search_reports.specs.Text.{bytes_of}
use Rattle.rope_search_reports.specs.Turned.{lines_put}
use Rattle.rope_search_reports.proofs.TurnLemmas.{put_lines}
use Rattle.rope_search.specs.Stretches.{ReplacesIn, lines_spanned}
use Rattle.rope_search.proofs.PartLaws.{cutting_scalars}
use Rattle.rope_search.proofs.StretchLemmas.{one-item, patch-stretch}
use Rattle.rope_search.proofs.stretches.stretch_by.Goals as goal

pub returns-then-changes-ne1-clause-rows : goal.returns-then-changes-ne1-clause-rows
returns-then-changes-ne1-clause-rows c = λ pattern report. c.stretch_of.ensures.rows pattern

pub returns-clause-rows : goal.returns-clause-rows
returns-clause-rows c = λ pattern report.
    let old = text_of c.args.old.now in
    let new = text_of c.args.new.now in
    let patch = c.index-patches-0.result in
    let one = one-item c.args.patches.now c.if-patches-ne1.false in
    let same : one.0 ≡ patch = cc (one.1, c.index-patches-0.is) in
    let told = patch-stretch c.one_list_of_matches.ensures pattern old new c.args.patches.now patch (one.1 ∙ ap (λ p. p ∷ []) same) c.requires.turn report in
    let added : length patch.made.items ≡ c.len.result = omega (arith, c.len.ensures) in
    subst (λ n. ReplacesIn old new pattern (record { first = patch.first; removed = patch.end - patch.first; added = n })) added told

pub returns-clause-added : goal.returns-clause-added
returns-clause-added c =
    let content = bytes_of (text_of c.args.new.now) in
    let led = c.requires.led in
    let one = one-item c.args.patches.now c.if-patches-ne1.false in
    let alone = one-item c.args.changes.now c.if-changes-ne1.false in
    let same : one.0 ≡ c.index-patches-0.result = cc (one.1, c.index-patches-0.is) in
    let scalars = cutting_scalars c.args.new.now c.len_bytes.ensures.cut.cut in
    omega (
      arith,
      c.requires.few led.0 led.1,
      ap made_by one.1,
      ap (λ p. length p.made.items) same,
      c.len.ensures,
      put_lines c.args.changes.now (text_of c.args.old.now) (text_of c.args.new.now) led.0 scalars led.1,
      ap (lines_spanned content) alone.1,
      ap (lines_put content) alone.1,
    )
