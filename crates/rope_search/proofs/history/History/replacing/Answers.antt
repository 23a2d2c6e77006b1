use Rattle.std.proofs.Common.{◌≡◌, [], ◌∷◌, ap, sym, subst, ◌∙◌}
use Rattle.str_indices.specs.Text.{byte_len}
use Rattle.ropey.specs.Chunks.{text_of}
use Rattle.rope_search_reports.specs.Turned.{Lead}
use Rattle.rope_search_reports.proofs.PlaceLemmas.{rope-scalars}
use Rattle.rope_search.specs.TextChanges.{whole_change}
use Rattle.rope_search.proofs.HistoryLemmas.{on_ok}
use Rattle.rope_search.proofs.TextChangeLemmas.{led-ranges, whole-lead}
use Rattle.rope_search.proofs.history.History.replacing.Goals as goal

pub of_changes-requires : goal.of_changes-requires
of_changes-requires c =
    let old = text_of c.args.old.now in
    let new = text_of c.args.text in
    let told : whole_change c.len_bytes.result c.len_bytes-2.result ≡ whole_change (byte_len old) (byte_len new) =
    ap (λ n. whole_change n c.len_bytes-2.result) c.len_bytes.ensures.bytes ∙ ap (whole_change (byte_len old)) c.len_bytes-2.ensures.bytes in
    (old, subst (λ change. Lead (change ∷ []) old new) (sym told) (whole-lead old new))

pub returns-clause-ranges : goal.returns-clause-ranges
returns-clause-ranges c =
    let old = text_of c.args.old.now in
    let new = text_of c.args.text in
    on_ok c.of_changes.result
    (led-ranges (whole_change (byte_len old) (byte_len new) ∷ []) old new (rope-scalars c.args.old.now c.len_bytes.ensures.cut.cut)
    (rope-scalars c.args.text c.len_bytes-2.ensures.cut.cut) (whole-lead old new))

pub returns-clause-scalars : goal.returns-clause-scalars
returns-clause-scalars c = rope-scalars c.args.old.now c.len_bytes.ensures.cut.cut
