use Rattle.std.proofs.Common.{◌≡◌, ◌≤◌, ◌⊎◌, inl, inr, [], length, arith, sym, ◌∙◌}
use Rattle.std.specs.Prelude.{encode_utf8_all}
use Rattle.ropey_walk.specs.Chunks.{text_of}
use Rattle.ropey_walk.specs.Comparing.{bytes_left}
use Rattle.ropey_walk.proofs.PartWalks.{same_parts, unequal_parts, ended, equal_is, unequal_is, none_in}
use Rattle.ropey_walk.proofs.comparing.compare.Goals as goal
use Rattle.ropey_walk.proofs.comparing.compare.Goals.{then-loop-left_chunks-test+else-not-is_empty, else-loop-left_chunks-test}

pub returns-then-is_ne : goal.returns-then-is_ne
returns-then-is_ne c =
    let left = c.loop-left_chunks.left_part.now in
    let right = c.loop-left_chunks.right_part.now in
    let len = c.min-len.result in
    let in_left : len ≤ length left = omega (arith, c.min-len.ensures) in
    let in_right : len ≤ length right = omega (arith, c.min-len.ensures) in
    let order = c.cmp-order.result in
    sym (c.loop-left_chunks.invariant.0
    ∙ unequal_parts left right len (encode_utf8_all (text_of c.loop-left_chunks.left_chunks.ahead)) (encode_utf8_all (text_of c.loop-left_chunks.right_chunks.ahead)) in_left in_right
    order (sym c.cmp-order.ensures) (unequal_is order (sym c.if-is_ne.ensures)))

pub loop-left_chunks-preserved : goal.loop-left_chunks-preserved
loop-left_chunks-preserved c =
    let left = c.loop-left_chunks.left_part.now in
    let right = c.loop-left_chunks.right_part.now in
    let len = c.min-len.result in
    let in_left : len ≤ length left = omega (arith, c.min-len.ensures) in
    let in_right : len ≤ length right = omega (arith, c.min-len.ensures) in
    let order = c.cmp-order.result in
    let l = c.part_behind-left_part-in-loop-left_chunks in
    let r = c.part_behind-right_part-in-loop-left_chunks in (
      c.loop-left_chunks.invariant.0
          ∙ same_parts left right len (encode_utf8_all (text_of c.loop-left_chunks.left_chunks.ahead)) (encode_utf8_all (text_of c.loop-left_chunks.right_chunks.ahead)) in_left in_right
          (bytes_left l.result.now l.new.chunks) (bytes_left r.result.now r.new.chunks) l.ensures.bytes r.ensures.bytes (sym c.cmp-order.ensures ∙ equal_is order (sym c.if-is_ne.ensures)),
      l.ensures.some,
      r.ensures.some,
      l.ensures.cut,
      r.ensures.cut,
    )

pub returns : goal.returns
returns c =
    let left = c.loop-left_chunks.left_part.now in
    let right = c.loop-left_chunks.right_part.now in
    let inv = c.loop-left_chunks.invariant in
    let one : (left ≡ []) ⊎ (right ≡ []) =
    elim c.loop-left_chunks-test.branch [ then-loop-left_chunks-test+else-not-is_empty w ↦ inr (none_in right w.if-not-is_empty.ensures) | else-loop-left_chunks-test w ↦ inl (none_in left w.loop-left_chunks-test.ensures) ] in
    c.cmp.ensures ∙ sym (inv.0 ∙ ended left right c.loop-left_chunks.left_chunks.ahead c.loop-left_chunks.right_chunks.ahead one inv.1 inv.2)
