use Rattle.std.proofs.Common.{◌≡◌, ◌+◌, ◌≤◌, Bool, true, length, refl, sym, ap, subst, ◌∙◌, arith}
use Rattle.rx_walks.specs.Finds.{IsInside}
use Rattle.rx_steps.specs.Searching.{search_of}
use Rattle.rx_steps.proofs.OverLaws.{same_search}
use Rattle.rx_lists.specs.LeadingSets.{HasLeadingSets, IsLeadingSet}
use Rattle.rx_lists.proofs.PassLaws.{count_more, kept_more, no_sets, known_more, inside_down}
use Rattle.rx_lists.proofs.pass_back.PassBack.pass_block.Goals as goal

pub loop-input-init : goal.loop-input-init
loop-input-init g c =
    let p = c.args.program.now in
    let at = c.args.input.now.position in
    let set = c.args.self.now.set.value in
    let none = c.clear.new.self in
    let sets = c.keep.new.sets in
    let empty : length none ≡ 0 = ap (λ xs. length xs) c.clear.ensures in
    record {
      ready = c.requires.ready;
      inside = c.requires.inside;
      above = c.requires.above;
      leading = c.requires.leading;
      known = c.requires.known;
      count = omega (arith, count_more none sets set c.in_ok-keep.ensures, empty);
      sets = λ b. kept_more p (search_of b c.args.input.now) at 1 at none sets set c.in_ok-keep.ensures (c.requires.leading b) (omega (arith, empty)) (no_sets p (search_of b c.args.input.now) at 1 none c.clear.ensures);
      top = c.position-block.ensures.position;
      counted = refl;
      same = record { content = refl; is_sized = refl };
      asked = refl;
    }

pub loop-input-preserved : goal.loop-input-preserved
loop-input-preserved g c =
    let p = c.args.program.now in
    let inv = c.loop-input.invariant in
    let at = c.loop-input.input.position in
    let last = c.args.input.now.position in
    let new = c.move_to.new.self in
    let pass = c.in_ok-pass.ensures in
    let set = c.pass.new.self.set.value in
    let old_sets = c.loop-input.block.sets in
    let sets = c.keep-in-loop-input.new.sets in
    let len : length c.loop-input.input.cursor.content ≡ length c.args.input.now.cursor.content = ap (λ xs. length xs) inv.same.content in
    let here_inside = inv.inside true in
    let down : new.position + 1 ≡ at = omega (arith, c.loop-input-test.true, c.position.ensures.position, c.position-in-loop-input.ensures.position, c.move_to.ensures.position_is, len, here_inside.4) in
    let above : c.args.bottom ≤ new.position = omega (arith, c.loop-input-test.true, c.position.ensures.position, down) in
    let stays : c.pass.new.input.position ≡ new.position = pass.same.position_is in
    let same : (b : Bool) → search_of b new ≡ search_of b c.args.input.now = λ b. same_search b new c.args.input.now (c.move_to.ensures.same.content ∙ inv.same.content) (c.move_to.ensures.asked_is ∙ inv.asked) in
    let inside : (b : Bool) → IsInside (search_of b c.args.input.now) new.position = λ b. inside_down (search_of b c.args.input.now) at new.position (inv.inside b) (omega (arith, down)) (omega (arith, c.requires.bottom b, above)) in
    let here : (b : Bool) → IsLeadingSet p (search_of b c.args.input.now) new.position set = λ b. subst (λ x. IsLeadingSet p x new.position set) (same b)
    (pass.leading b (subst (λ x. IsInside x new.position) (sym (same b)) (inside b)) (subst (λ x. IsLeadingSet p x (new.position + 1) c.loop-input.self.set.value) (sym (same b))
    (subst (λ j. IsLeadingSet p (search_of b c.args.input.now) j c.loop-input.self.set.value) (sym down) (inv.leading b)))) in
    record {
      ready = pass.ready;
      inside = λ b. subst (λ j. IsInside (search_of b c.args.input.now) j) (sym stays) (inside b);
      above = omega (arith, above, stays);
      leading = λ b. subst (λ j. IsLeadingSet p (search_of b c.args.input.now) j set) (sym stays) (here b);
      known = λ b. subst (λ j. HasLeadingSets p (search_of b c.args.input.now) j) (sym stays)
          (known_more p (search_of b c.args.input.now) new.position set (subst (λ j. HasLeadingSets p (search_of b c.args.input.now) j) (sym down) (inv.known b)) (here b));
      count = omega (arith, count_more old_sets sets set c.in_ok-keep-2.ensures, inv.count, down, stays);
      sets = λ b. kept_more p (search_of b c.args.input.now) last 1 new.position old_sets sets set c.in_ok-keep-2.ensures (here b) (omega (arith, inv.count, down)) (inv.sets b);
      top = inv.top;
      counted = omega (arith, inv.counted, pass.counted, down, stays);
      same = record { content = pass.same.same.content ∙ c.move_to.ensures.same.content ∙ inv.same.content; is_sized = pass.same.same.is_sized ∙ c.move_to.ensures.same.is_sized ∙ inv.same.is_sized };
      asked = pass.same.asked_is ∙ c.move_to.ensures.asked_is ∙ inv.asked;
    }

pub returns-clause-leading : goal.returns-clause-leading
returns-clause-leading g c = λ b.
    let inv = c.loop-input.invariant in
    let there : c.loop-input.input.position ≡ c.args.bottom = omega (arith, c.loop-input-test.false, c.position.ensures.position, inv.above) in
    subst (λ j. IsLeadingSet c.args.program.now (search_of b c.args.input.now) j c.loop-input.self.set.value) there (inv.leading b)
