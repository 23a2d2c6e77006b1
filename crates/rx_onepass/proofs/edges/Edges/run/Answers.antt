use Rattle.std.proofs.Common.{◌≡◌, ◌+◌, ◌<◌, Some, length, get_or, slice_get, sym, ap, subst, ◌∙◌, arith}
use Rattle.std.proofs.lemmas.Option.{slice_get-get_or}
use Rattle.rx_onepass.specs.Alone.{IsAlone}
use Rattle.rx_onepass.specs.Edges.{note_if}
use Rattle.rx_onepass.proofs.AloneLaws.{alone_read}
use Rattle.rx_onepass.proofs.edges.Edges.run.Goals as goal

pub loop-byte-preserved : goal.loop-byte-preserved
loop-byte-preserved c = record {
  read = omega (arith, c.loop-byte.invariant.read);
  alone = λ p s q len are ahead begun.
      let edge = c.in-Some.edge.now in
      let read = c.loop-byte.read in
      let lt : read < length c.args.bytes.now = omega (arith, c.loop-byte-test.true, c.loop-byte.invariant.read) in
      let here : IsAlone p s q len (c.args.at + read) c.loop-byte.slots edge.from = subst (λ n. IsAlone p s q len (c.args.at + read) c.loop-byte.slots n) (sym c.in-Some.ensures.from) (c.loop-byte.invariant.alone p s q len are ahead begun) in
      let bytes = c.args.bytes.now in
      let b = get_or bytes c.loop-byte.byte-index 0 in
      let same : get_or bytes read 0 ≡ b = ap (λ k. get_or bytes k 0) c.loop-byte.invariant.read in
      let on = alone_read p s q len c.args.at read b bytes c.loop-byte.slots edge c.in-Some-node.next (c.in-Some.ensures.is p len are) c.in-Some.ensures.byte c.in-Some-node.is ahead (slice_get-get_or bytes read 0 lt ∙ ap (λ x. Some x) same) lt here in
      let more : c.args.at + read + 1 ≡ c.args.at + (read + 1) = omega arith in
      subst (λ xs. IsAlone p s q len (c.args.at + (read + 1)) xs c.in-Some-node.next) (sym c.note.ensures)
      (subst (λ j. IsAlone p s q len j (note_if edge.noted (c.args.at + read) c.loop-byte.slots) c.in-Some-node.next) more on);
}
