use Rattle.std.proofs.Common.{◌≡◌, ℕ, [], ◌∷◌, ◌++◌, List, None, Some, slice_index_or, refl, ap, sym, subst, ◌∙◌, arith}
use Rattle.ropey.specs.Chunks.{text_of}
use Rattle.ropey.specs.Slices.{IsByteRangeIn}
use Rattle.rope_search_changes.specs.declared.Change.{Change}
use Rattle.rope_search_reports.specs.Replacement.{IsSpanIn, changes_of, replaced, whole}
use Rattle.rope_search_reports.specs.Text.{IsText, bytes_of}
use Rattle.rope_search.proofs.MatchEditLemmas.{put-range, put-scalars, put-there, span-first}
use Rattle.rope_search.proofs.PartLaws.{cutting_scalars}
use Rattle.rope_search.proofs.match_edits.expanded.Goals as goal

pub byte_slice-inserted-requires : goal.byte_slice-inserted-requires
byte_slice-inserted-requires c =
    let text = text_of c.args.text.now in
    let new = text_of c.in_ok-new.field-0.text in
    let template = c.args.template.now in
    let groups = c.args.groups in
    let scalars : IsText text = cutting_scalars c.args.text.now c.len_bytes.ensures.cut.cut in
    let items = c.push_reserved.ensures.items ∙ ap (λ l. l ++ groups ∷ []) c.in_ok-matches.ensures.items in
    let is : new ≡ replaced (bytes_of text) template 0 (groups ∷ []) = c.in_ok-new.ensures.text ∙ ap (replaced (bytes_of text) template 0) items in
    let spelled : IsText new = cutting_scalars c.in_ok-new.field-0.text c.len_bytes-2.ensures.cut.cut in
    let change = c.index-change.ensures ∙ ap (λ l. slice_index_or l 0 c.index-change.result.now) (c.in_ok-new.ensures.changes ∙ ap (changes_of (bytes_of text) template 0 0) items) in
    put-range text template scalars groups new spelled (span-first (bytes_of text) groups c.requires.spans c.requires.some) is
    c.index-change.result.now.new_start c.index-change.result.now.new_end (ap (λ (d : Change). d.new_start) change ∙ omega arith) (ap (λ (d : Change). d.new_end) change ∙ omega arith)

pub returns-in-Ok-clause-text : goal.returns-in-Ok-clause-text
returns-in-Ok-clause-text c =
    let text = text_of c.args.text.now in
    let new = text_of c.in_ok-new.field-0.text in
    let template = c.args.template.now in
    let groups = c.args.groups in
    let scalars : IsText text = cutting_scalars c.args.text.now c.len_bytes.ensures.cut.cut in
    let items = c.push_reserved.ensures.items ∙ ap (λ l. l ++ groups ∷ []) c.in_ok-matches.ensures.items in
    let is : new ≡ replaced (bytes_of text) template 0 (groups ∷ []) = c.in_ok-new.ensures.text ∙ ap (replaced (bytes_of text) template 0) items in
    let spelled : IsText new = cutting_scalars c.in_ok-new.field-0.text c.len_bytes-2.ensures.cut.cut in
    let change = c.index-change.ensures ∙ ap (λ l. slice_index_or l 0 c.index-change.result.now) (c.in_ok-new.ensures.changes ∙ ap (changes_of (bytes_of text) template 0 0) items) in
    c.in-Ok.ensures.text ∙ c.byte_slice-inserted.ensures.bytes
    ∙ put-there text template scalars groups new spelled (span-first (bytes_of text) groups c.requires.spans c.requires.some) is
    c.index-change.result.now.new_start c.index-change.result.now.new_end (ap (λ (d : Change). d.new_start) change ∙ omega arith) (ap (λ (d : Change). d.new_end) change ∙ omega arith)

pub returns-in-Ok-clause-scalars : goal.returns-in-Ok-clause-scalars
returns-in-Ok-clause-scalars c =
    let text = text_of c.args.text.now in
    let new = text_of c.in_ok-new.field-0.text in
    let template = c.args.template.now in
    let groups = c.args.groups in
    let scalars : IsText text = cutting_scalars c.args.text.now c.len_bytes.ensures.cut.cut in
    let items = c.push_reserved.ensures.items ∙ ap (λ l. l ++ groups ∷ []) c.in_ok-matches.ensures.items in
    let is : new ≡ replaced (bytes_of text) template 0 (groups ∷ []) = c.in_ok-new.ensures.text ∙ ap (replaced (bytes_of text) template 0) items in
    let spelled : IsText new = cutting_scalars c.in_ok-new.field-0.text c.len_bytes-2.ensures.cut.cut in
    put-scalars text template scalars groups new spelled (span-first (bytes_of text) groups c.requires.spans c.requires.some) is
