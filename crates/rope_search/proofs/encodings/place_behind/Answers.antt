use Rattle.std.proofs.Common.{◌≡◌, ◌+◌, ◌^◌, ◌<◌, ap, subst, ◌∙◌, arith}
use Rattle.std.specs.Prelude.{Some, MatchOption, IfSome}
use Rattle.ropey.specs.Chunks.{text_of, is_break}
use Rattle.rope_search_reports.specs.Position.{IsAt, line_at, line_start}
use Rattle.rope_search.specs.Encodings.{IsAtIn, column_in}
use Rattle.rope_search.specs.declared.encodings.Encoding.TheVariants.{Utf8, Utf16, Utf32}
use Rattle.rope_search.proofs.PartLaws.{cutting_scalars}
use Rattle.rope_search.proofs.EncodingLemmas.{chars_up_to, chars-within, char-within, chars-before, char-starts, bytes-sum, chars-sum, units-column, units-only}
use Rattle.rope_search.proofs.encodings.place_behind.Goals as goal

pub returns-in_err-place-in-Utf8-clause-only : goal.returns-in_err-place-in-Utf8-clause-only
returns-in_err-place-in-Utf8-clause-only c = λ place there.
    let text = text_of c.args.text.now in
    let in_bytes = subst (λ e. IsAtIn e text c.args.line c.args.column place) c.in-Utf8.is there in
    let sum = bytes-sum (c.place_there_and_back.ensures.lines is_break) text c.args.line c.args.column place in_bytes in
    let fits : c.line_to_byte.result + c.args.column < 2 ^ 64 = omega (arith, sum, c.line_to_byte.ensures, there.boundary.0, c.len_bytes.ensures.bytes, c.len_bytes.ensures.fits) in
    absurd (c.in_err-place-in-Utf8.ensures fits)

pub returns-then-len_bytes-place-clause-only : goal.returns-then-len_bytes-place-clause-only
returns-then-len_bytes-place-clause-only c = λ place there.
    let text = text_of c.args.text.now in
    let in_bytes = subst (λ e. IsAtIn e text c.args.line c.args.column place) c.in-Utf8.is there in
    let sum = bytes-sum (c.place_there_and_back.ensures.lines is_break) text c.args.line c.args.column place in_bytes in
    absurd (omega (arith, sum, c.line_to_byte.ensures, there.boundary.0, c.len_bytes-in-Utf8.ensures.bytes, c.if-len_bytes-place.true, c.in_ok-place-in-Utf8.ensures.1))

pub returns-else-len_bytes-place-clause-column : goal.returns-else-len_bytes-place-clause-column
returns-else-len_bytes-place-clause-column c = λ line_is.
    let text = text_of c.args.text.now in
    rw c.in-Utf8.is (omega (arith, c.in_ok-place-in-Utf8.ensures.1, c.line_to_byte.ensures, ap (line_start text) line_is))

pub returns-else-len_bytes-place-clause-only : goal.returns-else-len_bytes-place-clause-only
returns-else-len_bytes-place-clause-only c = λ place there.
    let text = text_of c.args.text.now in
    let in_bytes = subst (λ e. IsAtIn e text c.args.line c.args.column place) c.in-Utf8.is there in
    let sum = bytes-sum (c.place_there_and_back.ensures.lines is_break) text c.args.line c.args.column place in_bytes in
    ap Some (omega (arith, sum, c.line_to_byte.ensures, c.in_ok-place-in-Utf8.ensures.1))

pub returns-in-Utf16-clause-column : goal.returns-in-Utf16-clause-column
returns-in-Utf16-clause-column c =
    let text = text_of c.args.text.now in
    rw c.in-Utf16.is (units-column text c.args.line c.args.column c.byte_of.result c.byte_of.ensures)

pub returns-in-Utf16-clause-only : goal.returns-in-Utf16-clause-only
returns-in-Utf16-clause-only c = λ place there.
    let text = text_of c.args.text.now in
    units-only text c.args.line c.args.column c.byte_of.result (cutting_scalars c.args.text.now c.len_bytes.ensures.cut.cut) c.byte_of.ensures place
    (subst (λ e. IsAtIn e text c.args.line c.args.column place) c.in-Utf16.is there)

pub returns-in_err-char_idx-in-Utf32-clause-only : goal.returns-in_err-char_idx-in-Utf32-clause-only
returns-in_err-char_idx-in-Utf32-clause-only c = λ place there.
    let text = text_of c.args.text.now in
    let start = c.line_to_char.result in
    let in_chars = subst (λ e. IsAtIn e text c.args.line c.args.column place) c.in-Utf32.is there in
    let same = chars-sum c.char_laws.ensures (c.place_there_and_back.ensures.lines is_break) text c.args.line c.args.column place in_chars in
    let low = chars-within c.char_laws.ensures text place there.boundary.0 in
    let fits : start + c.args.column < 2 ^ 64 = omega (arith, same, c.line_to_char.ensures, low, c.char_laws.ensures.few text, c.len_bytes.ensures.bytes, c.len_bytes.ensures.fits) in
    absurd (c.in_err-char_idx-in-Utf32.ensures fits)

pub returns-then-len_chars-char_idx-clause-only : goal.returns-then-len_chars-char_idx-clause-only
returns-then-len_chars-char_idx-clause-only c = λ place there.
    let text = text_of c.args.text.now in
    let in_chars = subst (λ e. IsAtIn e text c.args.line c.args.column place) c.in-Utf32.is there in
    let same = chars-sum c.char_laws.ensures (c.place_there_and_back.ensures.lines is_break) text c.args.line c.args.column place in_chars in
    let low = chars-within c.char_laws.ensures text place there.boundary.0 in
    absurd (omega (arith, same, c.line_to_char.ensures, low, c.len_chars.ensures, c.if-len_chars-char_idx.true, c.in_ok-char_idx-in-Utf32.ensures.1))

pub returns-else-len_chars-char_idx-clause-column : goal.returns-else-len_chars-char_idx-clause-column
returns-else-len_chars-char_idx-clause-column c = λ line_is.
    let text = text_of c.args.text.now in
    let char = c.in_ok-char_idx-in-Utf32.char_idx in
    let there : chars_up_to text c.char_to_byte.result ≡ char =
    ap (chars_up_to text) c.char_to_byte.ensures ∙ chars-before c.char_laws.ensures text char (omega (arith, c.len_chars.ensures, c.if-len_chars-char_idx.false)) in
    let all : chars_up_to text c.char_to_byte.result ≡ chars_up_to text (line_start text c.args.line) + c.args.column =
    omega (arith, there, c.in_ok-char_idx-in-Utf32.ensures.1, c.line_to_char.ensures) in
    rw c.in-Utf32.is (omega (arith, all, ap (λ l. chars_up_to text (line_start text l)) line_is))

pub returns-else-len_chars-char_idx-clause-only : goal.returns-else-len_chars-char_idx-clause-only
returns-else-len_chars-char_idx-clause-only c = λ place there.
    let text = text_of c.args.text.now in
    let in_chars = subst (λ e. IsAtIn e text c.args.line c.args.column place) c.in-Utf32.is there in
    let same = chars-sum c.char_laws.ensures (c.place_there_and_back.ensures.lines is_break) text c.args.line c.args.column place in_chars in
    let char = c.in_ok-char_idx-in-Utf32.char_idx in
    let here : chars_up_to text place ≡ char = omega (arith, same, c.in_ok-char_idx-in-Utf32.ensures.1, c.line_to_char.ensures) in
    ap Some (c.char_to_byte.ensures ∙ char-starts c.char_laws.ensures text place char (cutting_scalars c.args.text.now c.len_bytes.ensures.cut.cut) there.boundary here)
