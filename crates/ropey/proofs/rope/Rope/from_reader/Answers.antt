use Rattle.std.proofs.Common.{ap, arith, length, ◌<◌, ◌++◌}
use Rattle.std.specs.Prelude.{encode_utf8_all}
use Rattle.std.proofs.lemmas.Bool.{MatchBool-at_true, MatchBool-at_false}
use Rattle.std.proofs.lemmas.Bool.Decides.{nat_tests}
use Rattle.std.proofs.lemmas.Result.{err_from_is_err_and}
use Rattle.ropey.proofs.ReadLemmas.{fails, too_many, ends_inside, lacks_memory, more_given, reads_on}
use Rattle.ropey.proofs.rope.Rope.from_reader.Goals as goal

pub returns-in_err-read-clause-fault : goal.returns-in_err-read-clause-fault
returns-in_err-read-clause-fault g c =
    let p = err_from_is_err_and c.from_residual.result c.from_residual.ensures.1 in
    let e = c.in_err-read.ensures in
    rw (p.1, p.2) (fails _ _ _ _ _ c.loop.invariant c.in_err-read.field-0.0 _ e.refused e.kept)

pub returns-then-not-is_empty-clause-fault : goal.returns-then-not-is_empty-clause-fault
returns-then-not-is_empty-clause-fault g c =
    let ends = MatchBool-at_false _ _ c.if-not-branch.true c.in_ok-read.ensures.ok in
    let some : 0 < length c.read.new.self = grind (arith, nat_tests, c.is_empty.ensures, c.if-not-is_empty.true) in
    ends_inside _ _ _ _ _ c.loop.invariant _ ends.1 (omega (arith, some, ap length ends.0))

pub returns-in-Err-clause-fault : goal.returns-in-Err-clause-fault
returns-in-Err-clause-fault g c =
    let ends = MatchBool-at_false _ _ c.if-not-branch.true c.in_ok-read.ensures.ok in
    lacks_memory _ _ _ _ _ c.loop.invariant _ ends.1

pub returns-in_err-give_text-clause-fault : goal.returns-in_err-give_text-clause-fault
returns-in_err-give_text-clause-fault g c =
    let p = err_from_is_err_and c.from_residual-in_err-give_text.result c.from_residual-in_err-give_text.ensures.1 in
    let gives = MatchBool-at_true _ _ c.if-not-branch.false c.in_ok-read.ensures.ok in
    rw (p.1, p.2) (record { given = encode_utf8_all c.loop.builder ++ c.read.new.self; consumed = more_given _ _ _ _ _ c.loop.invariant _ _ gives; met = c.in_err-give_text.ensures.fault _ })

pub loop-preserved : goal.loop-preserved
loop-preserved g c =
    let gives = MatchBool-at_true _ _ c.if-not-branch.false c.in_ok-read.ensures.ok in
    let given = c.in_ok-give_text.ensures.text in
    reads_on _ _ _ _ _ c.loop.invariant _ _ gives given.0 _ _ _ given.1 given.2 (omega arith)

pub returns-clause-fault : goal.returns-clause-fault
returns-clause-fault g c = too_many _ _ _ _ _ c.loop.invariant (omega (arith, c.loop-test.false))
