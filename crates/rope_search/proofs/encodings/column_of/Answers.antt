use Rattle.std.proofs.Common.{◌≡◌, ℕ, ◌-◌, ◌≤◌, ap, ◌∙◌, arith}
use Rattle.ropey.specs.Chunks.{text_of, is_break}
use Rattle.rope_search_reports.specs.Position.{line_at, line_start}
use Rattle.rope_search.proofs.EncodingLemmas.{chars_up_to}
use Rattle.rope_search.proofs.encodings.column_of.Goals as goal

pub overflow_sub-result : goal.overflow_sub-result
overflow_sub-result c =
    let text = text_of c.args.text.now in
    let low = c.place_there_and_back.ensures.lines is_break text c.args.place in
    let line_is : c.args.position.line ≡ line_at text c.args.place = ap (λ (p : ℕ × ℕ). p.0) c.requires.same in
    omega (arith, c.line_to_byte.ensures, ap (line_start text) line_is, low)

pub overflow_sub-result-in-Utf32 : goal.overflow_sub-result-in-Utf32
overflow_sub-result-in-Utf32 c =
    let text = text_of c.args.text.now in
    let low = c.place_there_and_back.ensures.lines is_break text c.args.place in
    let line_is : c.args.position.line ≡ line_at text c.args.place = ap (λ (p : ℕ × ℕ). p.0) c.requires.same in
    let start : line_start text c.args.position.line ≤ c.args.place = omega (arith, ap (line_start text) line_is, low) in
    omega (arith, c.line_to_char.ensures, c.byte_to_char.ensures, c.char_laws.ensures.rise text (line_start text c.args.position.line) c.args.place start)

pub returns-in-Utf8 : goal.returns-in-Utf8
returns-in-Utf8 c =
    let text = text_of c.args.text.now in
    let line_is : c.args.position.line ≡ line_at text c.args.place = ap (λ (p : ℕ × ℕ). p.0) c.requires.same in
    rw c.in-Utf8.is (ap (λ n. c.args.place - n) (c.line_to_byte.ensures ∙ ap (line_start text) line_is))

pub returns-in-Utf16 : goal.returns-in-Utf16
returns-in-Utf16 c = rw c.in-Utf16.is (ap (λ (p : ℕ × ℕ). p.1) c.requires.same)

pub returns-in-Utf32 : goal.returns-in-Utf32
returns-in-Utf32 c =
    let text = text_of c.args.text.now in
    let line_is : c.args.position.line ≡ line_at text c.args.place = ap (λ (p : ℕ × ℕ). p.0) c.requires.same in
    let start = c.line_to_char.ensures ∙ ap (λ l. chars_up_to text (line_start text l)) line_is in
    rw c.in-Utf32.is (ap (λ n. n - c.line_to_char.result) c.byte_to_char.ensures ∙ ap (λ n. chars_up_to text c.args.place - n) start)
