use Rattle.std.proofs.Common.{get_or, slice_get, sym, ap, ◌∙◌, arith}
use Rattle.std.proofs.lemmas.Option.{slice_get-get_or}
use Rattle.rx_steps.proofs.IdleLaws.{one_more_passed, no_more_passed, none_behind}
use Rattle.rx_steps.proofs.idle.IdleBytes.len_of.Goals as goal

pub loop-byte-preserved : goal.loop-byte-preserved
loop-byte-preserved c = record {
  so_far = omega (arith, c.loop-byte.invariant.so_far);
  passed = one_more_passed c.args.self.now c.args.utf8_empty c.args.bytes.now c.loop-byte.len (get_or c.args.bytes.now c.loop-byte.byte-index 0) c.loop-byte.invariant.passed
      (ap (λ i. slice_get c.args.bytes.now i) c.loop-byte.invariant.so_far ∙ slice_get-get_or c.args.bytes.now c.loop-byte.byte-index 0 c.loop-byte-test.true)
      (c.passes.ensures.0 c.if-not-passes.false);
}

pub returns-then-not-passes-clause-no_more : goal.returns-then-not-passes-clause-no_more
returns-then-not-passes-clause-no_more c = λ here.
    no_more_passed c.args.self.now c.args.utf8_empty c.args.bytes.now c.loop-byte.len (get_or c.args.bytes.now c.loop-byte.byte-index 0)
    (ap (λ i. slice_get c.args.bytes.now i) c.loop-byte.invariant.so_far ∙ slice_get-get_or c.args.bytes.now c.loop-byte.byte-index 0 c.loop-byte-test.true)
    (λ one. cc (sym (c.passes.ensures.1 one) ∙ c.if-not-passes.true)) here

pub returns-clause-no_more : goal.returns-clause-no_more
returns-clause-no_more c = λ here.
    none_behind c.args.self.now c.args.utf8_empty c.args.bytes.now c.loop-byte.len (omega (arith, c.loop-byte.invariant.so_far, c.loop-byte-test.false)) here
