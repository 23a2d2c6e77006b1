use Rattle.std.proofs.Common.{◌≡◌, ◌++◌, take, ap, sym, ◌∙◌, arith}
use Rattle.std.specs.Prelude.{encode_utf8}
use Rattle.ropey_walk.proofs.CharWalks.{boundary_before}
use Rattle.ropey_walk.proofs.iter.chars.read_wide_back.Goals as goal

pub returns-clause-boundary : goal.returns-clause-boundary
returns-clause-boundary c =
    let bytes = encode_utf8 c.in-Some.character in
    let front : take c.args.at c.args.chunk.now ≡ c.range.result.now = ap (λ n. take n c.args.chunk.now) (omega arith) ∙ sym c.range.ensures.value in
    let reads = front ∙ sym c.chars-rest.ensures.rest ∙ c.in-Some.ensures.steps ∙ ap (λ bs. bs ++ bytes) (sym c.as_str.ensures) in
    boundary_before c.args.chunk.now c.as_str.result.now bytes c.args.at c.utf8.chunk c.as_str.utf8 reads
