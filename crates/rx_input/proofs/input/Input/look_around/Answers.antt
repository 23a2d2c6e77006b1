use Rattle.std.proofs.Common.{ℕ, ◌+◌, ◌-◌, min, max, ◌∙◌, ap, refl}
use Rattle.rx_input.specs.Inputs.{seen_around}
use Rattle.rx_input.proofs.SeenLemmas.{seen_is}
use Rattle.rx_input.proofs.input.Input.look_around.Goals as goal

pub returns-clause-bytes : goal.returns-clause-bytes
returns-clause-bytes g c =
    let i = c.self.inside in
    let s = g.C.Cursor.state i.cursor in
    let at : ℕ = s.start + i.chunk_pos in
    let offset = c.offset.ensures.offset in
    let from = c.max-from.ensures ∙ ap (max i.slice.start) (c.saturating_sub.ensures ∙ ap (λ (o : ℕ). o + i.chunk_pos - 4) offset) in
    let to = c.min-to.ensures ∙ ap (λ (o : ℕ). min i.slice.end (o + i.chunk_pos + 4)) offset in
    let before = c.saturating_sub-3.ensures ∙ ap (λ (o : ℕ). o + i.chunk_pos - c.max-from.result) offset in
    let position = c.new.ensures.position ∙ c.min.ensures ∙ ap (λ (n : ℕ). min n c.read_at-len.result) before in
    let read = c.read_at-len.ensures in
    seen_is i.slice at c.max-from.result c.min-to.result c.saturating_sub-2.result c.read_at-len.result s.content c.read_at-len.new.buf _ c.new.result from to c.saturating_sub-2.ensures refl c.new.ensures.bytes read.bytes read.count position
    ∙ ap seen_around c.self.view_is
