use Rattle.std.proofs.Common.{inl, inr, arith}
use Rattle.ropey.specs.Chunks.{text_of}
use Rattle.rope_search.specs.Edits.{in_full}
use Rattle.rope_search.proofs.PartLaws.{cutting_scalars}
use Rattle.rope_search.proofs.EditAllLemmas.{lies_nowhere}
use Rattle.rope_search.proofs.edits.span_behind.Goals.{then-start-at-via-then-start-at, then-start-at-via-else-start-at+then-end-start}
use Rattle.rope_search.proofs.edits.span_behind.Goals as goal

pub returns-in_err-from-clause-none : goal.returns-in_err-from-clause-none
returns-in_err-from-clause-none c =
    rw (c.from_residual.ensures) (λ start end lies. elim c.in_err-from.ensures.none [
      | inl nowhere ↦ nowhere start lies.starts
      | inr nowhere ↦ nowhere end lies.ends
    ])

pub returns-then-start-at-clause-none : goal.returns-then-start-at-clause-none
returns-then-start-at-clause-none c =
    let text = text_of c.args.text.now in
    let is = cutting_scalars c.args.text.now c.len_bytes.ensures.cut.cut in
    lies_nowhere c.one_place.ensures text is c.args.at (in_full c.args.edit.now) _ _ c.in_ok-from.ensures.starts.at c.in_ok-from.ensures.ends.at
    (λ low ordered. elim c.then-start-at.branch [
      | then-start-at-via-then-start-at w ↦ omega (arith, low, w.if-start-at.true)
      | then-start-at-via-else-start-at+then-end-start w ↦ omega (arith, ordered, w.if-end-start.true)
    ])

pub returns-clause-span : goal.returns-clause-span
returns-clause-span c = record {
  behind = omega (arith, c.if-start-at.false);
  ordered = omega (arith, c.if-end-start.false);
  starts = c.in_ok-from.ensures.starts.at;
  ends = c.in_ok-from.ensures.ends.at;
}
