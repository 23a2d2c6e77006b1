use Rattle.std.proofs.Common.{◌≡◌, length, arith}
use Rattle.str_indices.specs.Text.{byte_len}
use Rattle.ropey.specs.Slices.{slice_text}
use Rattle.rope_search_reports.proofs.StartLemmas.{ascii-there, chars-there}
use Rattle.rope_search_reports.proofs.line_start.LineStart.chars_before.Goals as goal

pub overflow_add-result : goal.overflow_add-result
overflow_add-result c =
    let near = (chars-there (slice_text c.args.text.now) c.args.line_idx c.args.self.now c.requires.starts).near in
    omega (arith, near, c.requires.starts.fits)

pub overflow_add-result-2 : goal.overflow_add-result-2
overflow_add-result-2 c =
    let few = (chars-there (slice_text c.args.text.now) c.args.line_idx c.args.self.now c.requires.starts).few in
    omega (arith, few, c.requires.starts.fits, c.from_byte_idx.ensures)

pub returns-then-len_chars-len_bytes : goal.returns-then-len_chars-len_bytes
returns-then-len_chars-len_bytes c =
    let ascii : length (slice_text c.args.text.now) ≡ byte_len (slice_text c.args.text.now) = omega (arith, c.if-len_chars-len_bytes.true, c.len_chars.ensures, c.len_bytes.ensures.bytes) in
    ascii-there (slice_text c.args.text.now) c.args.line_idx c.args.self.now c.requires.starts c.requires.below ascii

pub returns : goal.returns
returns c =
    let chars_are = (chars-there (slice_text c.args.text.now) c.args.line_idx c.args.self.now c.requires.starts).chars_are in
    omega (arith, chars_are, c.from_byte_idx.ensures)
