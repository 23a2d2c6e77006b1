use Rattle.std.proofs.Common.{[], ap, ◌∙◌, arith}
use Rattle.std.specs.Str.{chars}
use Rattle.str_indices.specs.Text.{byte_len}
use Rattle.ropey.specs.Chunks.{text_of}
use Rattle.ropey.proofs.Copying.{only_memory}
use Rattle.ropey.proofs.Editing.{removes, replaced_len, no_chars, on_ok}
use Rattle.ropey.proofs.rope.Rope.remove_chars.Goals as goal

pub returns-clause-text : goal.returns-clause-text
returns-clause-text c =
    on_ok c.replace_chars.result (λ e. e ∙ removes (text_of c.args.self.now) c.args.start c.args.end (chars []) no_chars) c.replace_chars.ensures.text

pub returns-clause-refused : goal.returns-clause-refused
returns-clause-refused c =
    let t = text_of c.args.self.now in
    let len = replaced_len t c.args.start c.args.end (chars []) c.requires.order in
    let fits = c.len_bytes.ensures.fits in
    only_memory c.replace_chars.result c.replace_chars.ensures.refused
    (λ e. omega (arith, c.replace_chars.ensures.size.0 e, len, ap byte_len no_chars, fits, c.len_bytes.ensures.bytes))
