use Rattle.std.proofs.Common.{◌≡◌, ◌+◌, ◌≤◌, ◌++◌, ◌&&◌, cond, length, ap, ◌∙◌, arith}
use Rattle.std.specs.Str.{chars}
use Rattle.std.proofs.lemmas.Bool.Decides.{nat_tests}
use Rattle.std.proofs.lemmas.Str.{encodes-chars}
use Rattle.str_indices.specs.Text.{breaks}
use Rattle.str_indices.proofs.TextLaws.{breaks_of_joined_texts-lines_crlf}
use Rattle.ropey_tree.specs.Breaks.{is_break}
use Rattle.ropey_tree.proofs.Filling.{no_chars}
use Rattle.ropey_tree.proofs.Editing.{seams_some, seams_none}
use Rattle.ropey_tree.proofs.edits.seams.Goals as goal

pub returns-then-is_empty-clause-seams : goal.returns-then-is_empty-clause-seams
returns-then-is_empty-clause-seams c = λ front back cr lf.
    let text = chars c.args.text.now in
    let none : length c.args.text.now ≡ 0 = grind (arith, nat_tests, c.is_empty.ensures, c.if-is_empty.true) in
    ap (λ n. breaks is_break (front ++ text ++ back) + n) c.cut_between.ensures.value ∙ seams_none breaks_of_joined_texts-lines_crlf front text back c.args.is_cr c.args.is_lf cr lf (no_chars c.args.text.now none)

pub returns-clause-seams : goal.returns-clause-seams
returns-clause-seams c = λ front back cr lf.
    let text = chars c.args.text.now in
    let len = ap length (encodes-chars c.args.text.now c.utf8.text) in
    let more : 1 ≤ length c.args.text.now = grind (arith, nat_tests, c.is_empty.ensures, c.if-is_empty.false) in
    let first = c.cut_between-2.ensures.value ∙ ap (λ b. cond (c.args.is_cr && b) 1 0) c.is_lf_first.ensures in
    let second = c.cut_between-3.ensures.value ∙ ap (λ b. cond (b && c.args.is_lf) 1 0) c.is_cr_last.ensures in
    rw (first, second) (seams_some breaks_of_joined_texts-lines_crlf front text back c.args.is_cr c.args.is_lf cr lf (omega (arith, len, more)))
