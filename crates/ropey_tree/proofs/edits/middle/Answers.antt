use Rattle.std.proofs.Common.{◌≤◌, ◌/◌, [], length, take, drop, ap, sym, ◌∙◌, arith}
use Rattle.std.specs.Str.{chars}
use Rattle.std.proofs.lemmas.List.{append-nil}
use Rattle.str_indices.specs.Text.{byte_len}
use Rattle.ropey_tree.specs.Cutting.{cuts_cr_lf}
use Rattle.ropey_tree.proofs.Merging.{whole_cut}
use Rattle.ropey_tree.proofs.Editing.{back_bytes}
use Rattle.ropey_tree.proofs.edits.middle.Goals as goal

pub returns-clause-whole : goal.returns-clause-whole
returns-clause-whole c =
    let text = c.args.text.now in
    let at = c.fill_end.result in
    let e = c.fill_end.ensures in
    let more : 1 ≤ byte_len (chars (drop at text)) = omega (arith, back_bytes text at c.utf8.text e.boundary, e.fits, c.requires.long) in
    let whole = whole_cut (chars (take at text)) (chars (drop at text)) [] at (length text / 2) more (omega (arith, c.requires.long)) e.cr e.lf in
    ap (λ t. cuts_cr_lf (chars (take at text)) t) (sym (append-nil (chars (drop at text)))) ∙ whole
