use Rattle.std.proofs.Common.{ap, sym, ◌∙◌, ◌++◌}
use Rattle.std.specs.Prelude.{encode_utf8}
use Rattle.ropey_walk.proofs.CharWalks.{boundary_behind, read_behind}
use Rattle.ropey_walk.proofs.iter.chars.read_wide_on.Goals as goal

pub returns-clause-reads : goal.returns-clause-reads
returns-clause-reads c =
    let bytes = encode_utf8 c.in-Some.character in
    let reads = sym c.range_from.ensures.value ∙ sym c.chars-rest.ensures.rest ∙ c.in-Some.ensures.steps.0 ∙ ap (λ bs. bytes ++ bs) (sym c.as_str.ensures) in
    read_behind c.args.chunk.now c.as_str.result.now bytes c.args.at reads

pub returns-clause-boundary : goal.returns-clause-boundary
returns-clause-boundary c =
    let bytes = encode_utf8 c.in-Some.character in
    let reads = sym c.range_from.ensures.value ∙ sym c.chars-rest.ensures.rest ∙ c.in-Some.ensures.steps.0 ∙ ap (λ bs. bytes ++ bs) (sym c.as_str.ensures) in
    boundary_behind c.args.chunk.now c.as_str.result.now bytes c.args.at c.as_str.utf8 reads
