use Rattle.std.proofs.Common.{cond, sym, ◌∙◌, ◌+◌, arith}
use Rattle.std.specs.Prelude.{◌==◌}
use Rattle.str_indices.specs.Bytes.{ends_lf_line}
use Rattle.str_indices.proofs.Tested.{tested-inside}
use Rattle.str_indices.proofs.breaks.LfBreaksMeasure.chunk_weights.Goals as goal

pub returns : goal.returns
returns g c = record {
  long = c.cmp_eq_byte.ensures.long;
  each = λ k l.
      c.cmp_eq_byte.ensures.each k l
      ∙ (λ i. cond (c.load.ensures.each k l i == 10) 1 0)
      ∙ sym (tested-inside ends_lf_line c.args.bytes.now (c.args.at + k) (omega (arith, c.requires.before)) (omega (arith, c.requires.after)));
}
