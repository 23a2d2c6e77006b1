use Rattle.std.proofs.Common.{◌++◌, ℕ, List, sym, subst, ◌∙◌, arith, ap}
use Rattle.std.specs.Prelude.{OnOk}
use Rattle.std.proofs.lemmas.Result.{on_ok_weaker}
use Rattle.ropey.specs.Chunks.{text_of}
use Rattle.ropey.specs.Slices.{slice_text}
use Rattle.regex_cursor.specs.Patterns.{SpellsTree}
use Rattle.str_indices.specs.Text.{byte_len}
use Rattle.rope_search_reports.specs.LineGroups.{AddsGroupsOf}
use Rattle.rope_search_reports.specs.Position.{line_start, line_text}
use Rattle.rope_search_reports.specs.Text.{IsText, bytes_of}
use Rattle.rope_search_reports.proofs.LineLemmas.{byte_len-append, lines-in-place}
use Rattle.rope_search_reports.proofs.ListedLemmas.{adds-line}
use Rattle.rope_search_reports.proofs.PlaceLemmas.{rope-scalars}
use Rattle.rope_search_reports.proofs.rows.engine.Finder.add_groups_of_line.Goals as goal

pub add_groups-requires-clause-fits : goal.add_groups-requires-clause-fits
add_groups-requires-clause-fits c =
    let text = text_of c.args.text.now in
    let h = lines-in-place text c.args.line_idx c.requires in
    let own = line_text text c.args.line_idx in
    omega (
      arith,
      c.line_to_byte-start.ensures,
      h.starts,
      ap byte_len c.line_text-line.ensures,
      ap byte_len h.parts,
      byte_len-append h.before (own ++ h.behind),
      byte_len-append own h.behind,
      c.len_bytes.ensures.bytes,
      c.len_bytes.ensures.fits,
    )

pub returns-clause-groups : goal.returns-clause-groups
returns-clause-groups c =
    let text = text_of c.args.text.now in
    let line = c.args.line_idx in
    let pattern = c.args.self.now in
    let old = c.args.groups.now.items in
    let new = c.add_groups.new.groups.items in
    let scalars : IsText text = rope-scalars c.args.text.now c.len_bytes.ensures.cut.cut in
    let built = c.self.invariant.built in
    let spells : SpellsTree pattern built.tree =
    subst (λ p. SpellsTree p built.tree) (sym c.self.invariant.pattern_is ∙ c.self.view_is) built.spells in
    let P : List ℕ → ℕ → Type 0 = λ own start. OnOk c.add_groups.result (AddsGroupsOf built.tree (bytes_of own) start old new) in
    let told : P (slice_text c.line_text-line.result) c.line_to_byte-start.result = c.add_groups.ensures.groups c.self.invariant.text built in
    on_ok_weaker c.add_groups.result (adds-line text scalars line c.requires pattern built.tree old new spells)
    (subst (λ own. P own (line_start text line)) c.line_text-line.ensures (subst (P (slice_text c.line_text-line.result)) c.line_to_byte-start.ensures told))
