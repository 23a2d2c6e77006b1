use Rattle.std.proofs.Common.{◌≡◌, ◌-◌, subst, ◌∙◌, arith}
use Rattle.rx_input.specs.Inputs.{HoldsPlace}
use Rattle.rx_steps.specs.Searching.{search_of}
use Rattle.rx_dfa.proofs.BackInputLaws.{IsTurned, ShowsBefore, stand_before}
use Rattle.rx_dfa.proofs.back.bytes_before.Goals as goal

pub returns-then-at-first-clause-some : goal.returns-then-at-first-clause-some
returns-then-at-first-clause-some g c = λ b inside lt. omega (arith, c.if-at-first.true, c.first_place-first.ensures b, c.position-at.ensures.position, lt)

pub returns-clause-stand : goal.returns-clause-stand
returns-clause-stand g c = λ b inside.
    let s = search_of b c.args.input.now in
    let i = c.args.input.now.position in
    let shown = c.move_to.new.self in
    let moved : shown.position ≡ i - 1 = omega (arith, c.move_to.ensures.position_is, c.position-at.ensures.position, inside.4) in
    let shows : ShowsBefore s i shown.cursor c.chunk-piece.result.now c.chunk_pos.result c.min-end.result c.min-few.result = record {
      content = c.move_to.ensures.same.content;
      piece_is = c.chunk-piece.ensures.chunk;
      at = c.chunk_pos.ensures ∙ moved;
      holds = subst (λ k. HoldsPlace shown.cursor k) moved c.chunk-piece.ensures.holds;
      inside = inside;
      behind = omega (arith, c.if-at-first.false, c.first_place-first.ensures b, c.position-at.ensures.position);
      small = omega (arith, c.position-at.type_inv, c.position-at.ensures.position);
      end_is = omega (arith, c.min-end.ensures, c.saturating_add.ensures);
      few_is = omega (arith, c.min-few.ensures, c.min-inside.ensures, c.first_place-first.ensures b, c.position-at.ensures.position);
    } in
    let turned : IsTurned c.chunk-piece.result.now c.turned.result.0 c.turned.result.1 c.min-end.result c.min-few.result = record { len = c.turned.ensures.len; each = c.turned.ensures.each } in
    stand_before s i shown.cursor c.chunk-piece.result.now c.chunk_pos.result c.min-end.result c.min-few.result shows c.turned.result.0 c.turned.result.1 turned
