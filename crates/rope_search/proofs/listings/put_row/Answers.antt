use Rattle.std.proofs.Common.{◌≡◌, ◌-◌, ◌∙◌, ℕ, List, arith, drop, length, take}
use Rattle.std.proofs.lemmas.List.{length-drop, take_all}
use Rattle.std.proofs.lemmas.Result.{err_from_is_err_and}
use Rattle.rope_search.proofs.ListingLemmas.{Puts-match, WritesUntil-match}
use Rattle.rope_search.proofs.listings.put_row.Goals as goal

-- a rest of bytes to their end
rest : (bytes shown : List ℕ) (start len : ℕ) → length bytes ≡ len → drop start bytes ≡ shown → take (len - start) (drop start bytes) ≡ shown
rest bytes shown start len long is = take_all (len - start) (drop start bytes) (omega (arith, length-drop start bytes, long)) ∙ is

pub returns-in_err-put : goal.returns-in_err-put
returns-in_err-put g c =
    let p = err_from_is_err_and c.from_residual.result c.from_residual.ensures.1 in
    let whole = rest _ _ c.format_match-start.result 65 (omega arith) c.format_match-start.ensures.written in
    rw (p.1, p.2) (record { written = WritesUntil-match _ _ _ _ _ _ _ _ _ _ c.loop-span-test.true c.loop-span.invariant (rw whole at c.in_err-put.ensures.written) })

pub loop-span-preserved : goal.loop-span-preserved
loop-span-preserved g c =
    let whole = rest _ _ c.format_match-start.result 65 (omega arith) c.format_match-start.ensures.written in
    Puts-match _ _ _ _ _ _ _ _ _ _ c.loop-span-test.true c.loop-span.invariant (rw whole at c.in_ok-put.ensures.written)
