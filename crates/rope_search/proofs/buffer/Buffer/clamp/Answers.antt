use Rattle.std.proofs.Common.{◌≡◌, ◌≤◌, take, ap, subst, ◌∙◌, arith}
use Rattle.ropey.specs.Chunks.{text_of}
use Rattle.ropey.specs.Slices.{slice_text}
use Rattle.str_indices.specs.Text.{units}
use Rattle.rope_search_reports.specs.Position.{line_text}
use Rattle.rope_search.specs.LineColumns.{IsClamped, IsLongestFront}
use Rattle.rope_search.proofs.ClampLemmas.{clamped-inside, clamped-past}
use Rattle.rope_search.proofs.FrontLemmas.{units-of-chars}
use Rattle.rope_search.proofs.PartLaws.{cutting_scalars}
use Rattle.rope_search.proofs.buffer.Buffer.clamp.Goals as goal

pub returns-then-len_lines-line : goal.returns-then-len_lines-line
returns-then-len_lines-line c =
    let text = text_of c.text-text.result.now in
    subst (λ t. IsClamped c.args.encoding t c.args.line c.args.column c.position_of.result) c.text-text.ensures.text
    (clamped-past c.args.encoding text c.args.line c.args.column c.len_bytes-then-len_lines-line.result c.position_of.result (cutting_scalars c.text-text.result.now c.len_bytes.ensures.cut.cut)
    (omega (arith, c.len_lines.ensures, c.if-len_lines-line.true)) c.len_bytes-then-len_lines-line.ensures.bytes c.position_of.ensures)

pub returns : goal.returns
returns c =
    let text = text_of c.text-text.result.now in
    let e = c.args.encoding in
    let line = c.args.line in
    let column = c.args.column in
    let own = slice_text c.line_text-own.result in
    let k = c.chars_up_to-chars.result in
    let own_is : own ≡ line_text text line = c.line_text-own.ensures in
    let longest : IsLongestFront e (line_text text line) column (take k (line_text text line)) =
    subst (λ o. IsLongestFront e o column (take k o)) own_is c.chars_up_to-chars.ensures.front in
    let told = c.char_to_utf16_cu.ensures ∙ units-of-chars own k c.chars_up_to-chars.ensures.within in
    subst (λ t. IsClamped e t line column (record { line = line; column = c.char_to_utf16_cu.result })) c.text-text.ensures.text
    (clamped-inside e text line column c.char_to_utf16_cu.result (take k (line_text text line)) (cutting_scalars c.text-text.result.now c.len_bytes.ensures.cut.cut)
    (omega (arith, c.len_lines.ensures, c.if-len_lines-line.false)) longest (told ∙ ap (λ o. units (take k o)) own_is))
