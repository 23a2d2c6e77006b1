use Rattle.std.proofs.Common.{◌∙◌, leb, get_or, bit_and}
use Rattle.str_indices.proofs.Vectors.{HasLanes-zip2, bit_and-tests}
use Rattle.str_indices.proofs.byte_chunk.wide.U8x64ByteChunk.bytes_between.Goals as goal

pub returns : goal.returns
returns c =
    let both = HasLanes-zip2 64 bit_and c.at_least.result c.at_most.result c.at_least.ensures.long c.at_most.ensures.long in
    record {
      long = both.long;
      each = λ k l.
          both.each k l
          ∙ (λ i. bit_and (c.at_least.ensures.each k l i) (c.at_most.ensures.each k l i))
          ∙ bit_and-tests (leb c.args.low (get_or c.args.self k 0)) (leb (get_or c.args.self k 0) c.args.high);
    }
