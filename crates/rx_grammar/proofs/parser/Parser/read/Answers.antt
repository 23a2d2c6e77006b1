use Rattle.std.proofs.Common.{arith}
use Rattle.std.proofs.lemmas.Result.{err_from_is_err_and}
use Rattle.rx_grammar.proofs.PlaceLaws.{refusal_map}
use Rattle.rx_grammar.proofs.PatternLaws.{NoEnds-before, ReadSoFar-more, ReadSoFar-end}
use Rattle.rx_grammar.proofs.parser.Parser.read.Goals as goal

pub read_part-requires-clause-stands : goal.read_part-requires-clause-stands
read_part-requires-clause-stands c = let so_far = c.loop-c.invariant.so_far c.requires.stands.0 c.requires.stands.1 in (so_far.next, so_far.stands)

pub returns-in_err-rest : goal.returns-in_err-rest
returns-in_err-rest c = record {
  reads = λ place stands.
      let so_far = c.loop-c.invariant.so_far place stands in
      let h = c.in_err-rest.ensures.reads so_far.next so_far.stands in
      let p = err_from_is_err_and c.from_residual.result c.from_residual.ensures.1 in
      rw (p.1, p.2) (refusal_map c.in_err-rest.field-0.0 (λ none. NoEnds-before so_far.same none) h);
}

pub loop-c-smaller : goal.loop-c-smaller
loop-c-smaller c = let so_far = c.loop-c.invariant.so_far c.requires.stands.0 c.requires.stands.1 in (c.in_ok-rest.ensures.reads so_far.next so_far.stands).shorter

pub loop-c-preserved : goal.loop-c-preserved
loop-c-preserved c =
    let so_far = c.loop-c.invariant.so_far c.requires.stands.0 c.requires.stands.1 in
    record {
      room = omega (arith, c.loop-c.invariant.room, (c.in_ok-rest.ensures.reads so_far.next so_far.stands).groups);
      so_far = λ place stands.
          let read = c.loop-c.invariant.so_far place stands in
          ReadSoFar-more read (c.in_ok-rest.ensures.reads read.next read.stands);
    }

pub returns : goal.returns
returns c = record { reads = λ place stands. ReadSoFar-end (c.loop-c.invariant.so_far place stands) c.in_default.ensures }
