use Rattle.std.proofs.Common.{◌≡◌, [], drop, refl, arith}
use Rattle.std.proofs.lemmas.List.{drop_all}
use Rattle.rope_search_io.proofs.Utf8Lemmas.{Continues-more}
use Rattle.rope_search_io.proofs.utf8_judge.Utf8Judge.push_all.Goals as goal

pub loop-byte-preserved : goal.loop-byte-preserved
loop-byte-preserved c = Continues-more _ _ _ _ _ _ c.loop-byte-test.true refl c.loop-byte.invariant c.push.ensures

pub returns : goal.returns
returns c = λ more.
    let none : drop c.loop-byte.byte-index c.args.bytes.now ≡ [] = drop_all c.loop-byte.byte-index c.args.bytes.now (omega arith) in
    rw none at (c.loop-byte.invariant more)
