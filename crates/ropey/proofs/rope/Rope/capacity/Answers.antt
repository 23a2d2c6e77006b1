use Rattle.std.proofs.Common.{◌≡◌, length, inl, ap, ◌∙◌, arith}
use Rattle.std.proofs.lemmas.Iterator.Consumers.{count_from_yields_List}
use Rattle.ropey.proofs.Pieces.{text_fits}
use Rattle.ropey.proofs.Making.{chunks_given, pieces-le-bytes}
use Rattle.ropey.proofs.rope.Rope.capacity.Goals as goal

pub count-requires-clause-fits : goal.count-requires-clause-fits
count-requires-clause-fits c =
    let pieces = c.args.self.now in
    inl (omega (arith, ap (λ chunks. length chunks.ahead) c.chunks.ensures.pieces, pieces-le-bytes pieces c.chunks.ensures.cut.cut, text_fits pieces c.chunks.ensures.cut))

pub returns : goal.returns
returns c =
    let count : c.count.result ≡ length c.args.self.now = count_from_yields_List c.chunks.result c.count.result c.count.ensures.ran (chunks_given c.chunks.result) ∙ ap (λ chunks. length chunks.ahead) c.chunks.ensures.pieces in
    omega (arith, c.saturating_mul.ensures, count)
