use Rattle.std.proofs.Common.{◌≡◌, ◌+◌, ◌-◌, ◌≤◌, ◌++◌, length, take, arith, ap, sym, ◌∙◌, append_assoc, length-take-le, rules}
use Rattle.std.specs.Prelude.{encode_utf8_all}
use Rattle.std.proofs.lemmas.Slice.{take-put_mid}
use Rattle.ropey_walk.specs.Chunks.{text_of}
use Rattle.ropey_walk.specs.Comparing.{bytes_left}
use Rattle.ropey_walk.proofs.PartWalks.{fronts_left}
use Rattle.ropey_walk.proofs.comparing.copy_next.Goals as goal

pub loop-at-preserved : goal.loop-at-preserved
loop-at-preserved c =
    let inv = c.loop-at.invariant in
    let rest = c.loop-at.rest.now in
    let at = c.loop-at.at in
    let len = c.min-len.result in
    let behind = c.part_behind-rest in
    let in_rest : len ≤ length rest = omega (arith, c.min-len.ensures) in
    let left = bytes_left behind.result.now behind.new.chunks in
    let split = fronts_left rest len (encode_utf8_all (text_of c.loop-at.chunks.ahead)) left in_rest behind.ensures.bytes in
    let copied : c.copy_from_slice.new.self ≡ take len rest = c.copy_from_slice.ensures.after in
    let taken = take-put_mid at (at + len - at) c.loop-at.block c.copy_from_slice.new.self (at + len) (omega (arith, ap length copied, length-take-le len rest in_rest)) (omega (arith, inv.0, inv.1)) in (
      omega (arith, c.min-len.ensures, inv.0, inv.1),
      search rules,
      inv.2 ∙ ap (λ bs. take at c.loop-at.block ++ bs) split ∙ sym (append_assoc (take at c.loop-at.block) (take len rest) left)
          ∙ ap (λ bs. bs ++ left) (ap (λ bs. take at c.loop-at.block ++ bs) (sym copied) ∙ sym taken),
      behind.ensures.some,
      behind.ensures.cut,
    )
