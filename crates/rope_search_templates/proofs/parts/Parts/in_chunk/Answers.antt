use Rattle.std.proofs.Common.{◌≡◌, ◌-◌, take, drop, chars, ap, ◌∙◌, arith}
use Rattle.ropey.specs.Chunks.{text_of}
use Rattle.rope_search_changes.specs.Text.{bytes_of}
use Rattle.rope_search_changes.specs.Replacement.{between}
use Rattle.rope_search_templates.proofs.ChunkLemmas.{same-part}
use Rattle.rope_search_templates.proofs.parts.Parts.in_chunk.Goals as goal

pub returns : goal.returns
returns c =
    let start = c.args.start in
    let end = c.args.end in
    let chunk = c.self.inside.chunk.now in
    let at = c.self.inside.start in
    let low = c.if-start-self.false in
    let count : (end - at) - (start - at) ≡ end - start = omega (arith, low, c.requires.ordered) in
    ap chars (c.range.ensures.value ∙ ap (λ n. take n (drop (start - at) chunk)) count
    ∙ same-part (bytes_of (text_of c.self.inside.text.now)) chunk at start end c.self.invariant.1 low c.requires.ordered c.if-end-self.false)
    ∙ ap (λ ps. between (bytes_of (text_of ps)) start end) c.self.view_is
