use Rattle.std.proofs.Common.{ℕ, List, ◌-◌, take, drop, ap, ◌∙◌}
use Rattle.rx_literals.proofs.PieceLaws.{left_is}
use Rattle.rx_literals.proofs.literal.left_in_piece.Goals as goal

pub returns-clause-part : goal.returns-clause-part
returns-clause-part g c =
    let i = c.args.input.now in
    let holds = c.chunk.ensures.holds in
    ap (λ (xs : List ℕ). take (c.get_chunk_end-end.result - c.min.result) (drop c.min.result xs)) c.chunk.ensures.chunk
    ∙ left_is i.cursor.content i.cursor.start i.cursor.end i.asked.span.end i.position c.chunk_pos.result c.get_chunk_end-end.result c.min.result holds.lawful.ordered holds.lawful.within c.chunk_pos.ensures holds.before_end c.get_chunk_end-end.ensures c.min.ensures
