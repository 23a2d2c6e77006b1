use Rattle.std.proofs.Common.{◌≡◌, ◌++◌, length, ap, sym, ◌∙◌, arith}
use Rattle.std.specs.Str.{chars}
use Rattle.std.proofs.lemmas.Str.{encodes-chars}
use Rattle.str_indices.specs.Text.{byte_len}
use Rattle.ropey_tree.specs.Counts.{total}
use Rattle.ropey_tree.specs.Splits.{pieces_in}
use Rattle.ropey.specs.Chunks.{text_of}
use Rattle.ropey.proofs.Pieces.{bytes-concat}
use Rattle.std.proofs.lemmas.Bool.Decides.{nat_tests}
use Rattle.std.proofs.lemmas.List.{append-nil}
use Rattle.ropey.proofs.Editing.{edited_text, appended_is, chars_of_none}
use Rattle.ropey.proofs.trees.extended.Goals as goal

pub returns-then-is_empty : goal.returns-then-is_empty
returns-then-is_empty c =
    let t = text_of (pieces_in c.args.tree) in
    let none : length c.args.text.now ≡ 0 = grind (arith, nat_tests, c.is_empty.ensures, c.if-is_empty.true) in
    sym (append-nil t) ∙ ap (λ s. t ++ s) (sym (chars_of_none c.args.text.now none))

pub replace_in_leaf-requires-clause-fits : goal.replace_in_leaf-requires-clause-fits
replace_in_leaf-requires-clause-fits c =
    let ps = c.in-Some.node.value.pieces in
    let text = c.args.text.now in
    omega (arith, c.requires.fits, bytes-concat ps, ap (λ t. byte_len (text_of (pieces_in t))) c.in-Some.is, ap length (encodes-chars text c.utf8.text))

pub returns-in-Some-2 : goal.returns-in-Some-2
returns-in-Some-2 c =
    let v = c.in-Some.node.value in
    let w = c.in-Some-2.longer.value in
    let text = chars c.args.text.now in
    let end = c.counts-end.result.bytes in
    let end_is : end ≡ byte_len (text_of v.pieces) = ap (λ k. k.bytes) c.counts-end.ensures ∙ ap (λ u. (total u.pieces).bytes) c.deref.ensures ∙ bytes-concat v.pieces in
    let h = rw c.in-Some-2.is at c.in_ok-longer.ensures in
    appended_is (text_of v.pieces) text (text_of w.pieces) end end_is (edited_text v w end end text (omega arith) h.edited) ∙ ap (λ t. text_of (pieces_in t) ++ text) (sym c.in-Some.is)

pub append-requires : goal.append-requires
append-requires c =
    let text = c.args.text.now in
    record { fits = omega (arith, c.requires.fits, bytes-concat (pieces_in c.args.tree), bytes-concat (pieces_in c.in_ok-added.added), ap byte_len c.in_ok-added.ensures, ap length (encodes-chars text c.utf8.text)) }
