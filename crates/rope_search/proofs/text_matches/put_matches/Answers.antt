use Rattle.std.proofs.Common.{◌∙◌, arith}
use Rattle.rope_search.proofs.TextMatchLemmas.{put-all, put-full, put-in, put-out}
use Rattle.rope_search.proofs.text_matches.put_matches.Goals.{then-span-place, else-span-place}
use Rattle.rope_search.proofs.text_matches.put_matches.Goals as goal

pub returns-then-count-out : goal.returns-then-count-out
returns-then-count-out c = put-full _ _ _ _ _ _ _ (c.if-count-out.true ∙ c.loop-span.auto.out) c.loop-span.invariant

pub loop-span-preserved : goal.loop-span-preserved
loop-span-preserved c = elim c.if-span-place.branch [
  | then-span-place w ↦
      rw (w.out-is, w.count-is) (put-in _ _ _ _ _ _ _ _ c.loop-span-test.true w.if-span-place.true
      (omega (arith, c.if-count-out.false, c.loop-span.invariant.fits, c.loop-span.auto.out)) w.at.ensures c.loop-span.invariant)
  | else-span-place w ↦ rw (w.out-is, w.count-is) (put-out _ _ _ _ _ _ _ c.loop-span-test.true (omega (arith, w.if-span-place.false)) c.loop-span.invariant)
]

pub returns : goal.returns
returns c = put-all _ _ _ _ _ _ _ (omega (arith, c.loop-span-test.false)) c.loop-span.invariant
