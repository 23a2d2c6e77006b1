use Rattle.std.proofs.Common.{ℕ, ◌∙◌, ◌-◌, ◌≤◌, ap, arith, take, drop, length}
use Rattle.std.proofs.lemmas.List.{take-take}
use Rattle.rx_input.proofs.PieceLemmas.{read_part, part_len, piece_len}
use Rattle.rx_input.proofs.places.read_at.Goals as goal

same : (n : ℕ) → n ≤ n
same n = omega arith

pub returns-clause-bytes : goal.returns-clause-bytes
returns-clause-bytes g c =
    let s = g.C.Cursor.state c.move_to-index.new.cursor in
    let n = length c.args.buf.now in
    let i = c.move_to-index.result in
    let lawful = c.chunk-chunk.ensures.lawful in
    let few : n ≤ s.end - s.start - i = omega (arith, c.if-chunk-index.false, ap length c.chunk-chunk.ensures.chunk, piece_len s lawful) in
    ap (take n) (c.copy_from_slice.ensures.after ∙ part_len i n c.chunk-chunk.result.now)
    ∙ take-take n n (drop i c.chunk-chunk.result.now) (same n)
    ∙ ap (λ xs. take n (drop i xs)) c.chunk-chunk.ensures.chunk
    ∙ read_part s c.args.from i n lawful c.move_to-index.ensures.index few
    ∙ ap (λ xs. take n (drop c.args.from xs)) c.move_to-index.ensures.same.content
