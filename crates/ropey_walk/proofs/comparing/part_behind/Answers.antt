use Rattle.std.proofs.Common.{◌++◌, arith, ap, sym, ◌∙◌}
use Rattle.std.specs.Prelude.{encode_utf8_all}
use Rattle.ropey_walk.specs.Chunks.{text_of}
use Rattle.ropey_walk.proofs.PartWalks.{behind_part, no_empty_chunk}
use Rattle.ropey_walk.proofs.comparing.part_behind.Goals as goal

pub returns-in-Some-clause-bytes : goal.returns-in-Some-clause-bytes
returns-in-Some-clause-bytes c =
    let steps = c.in-Some.ensures.steps in
    ap (λ bs. bs ++ encode_utf8_all (text_of c.next.new.self.ahead)) c.as_bytes.ensures.value
    ∙ behind_part c.args.part.now c.in-Some.chunk.now c.args.len c.args.chunks.now.ahead c.next.new.self.ahead c.requires.within (omega (arith, c.if-len-part.false)) steps.0.0 steps.1

pub returns-in-Some-clause-some : goal.returns-in-Some-clause-some
returns-in-Some-clause-some c =
    let steps = c.in-Some.ensures.steps in
    λ empty. no_empty_chunk c.in-Some.chunk.now c.args.chunks.now.ahead c.next.new.self.ahead c.requires.cut steps.0.0 (sym c.as_bytes.ensures.value ∙ empty)
