use Rattle.std.proofs.Common.{◌≡◌, ◌++◌, ap, ◌∙◌, arith}
use Rattle.str_indices.specs.Text.{byte_len}
use Rattle.ropey_walk.specs.Slices.{slice_text}
use Rattle.ropey.proofs.Pieces.{byte_len-append}
use Rattle.ropey.proofs.rope_builder.RopeBuilder.append_slice.Goals as goal

pub invariant_of-self : goal.invariant_of-self
invariant_of-self c =
    let text = slice_text c.args.slice in
    let appended = rw c.in-Ok.is at c.append_chunks.ensures.text in
    let whole : c.whole.result ≡ c.self.inside.text ++ text = c.whole.ensures ∙ appended ∙ ap (λ t. t ++ text) (c.marked-text.ensures.text ∙ c.replace.ensures.value) in
    let len = ap byte_len whole ∙ byte_len-append c.self.inside.text text in
    (omega (arith, len, c.self.invariant.0, c.len_bytes-len.ensures.bytes), omega (arith, c.if-len-self.false, c.self.invariant.1))
