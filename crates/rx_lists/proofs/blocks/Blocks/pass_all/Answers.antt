use Rattle.std.proofs.Common.{◌≡◌, ◌+◌, ◌*◌, ◌≤◌, Bool, true, length, sym, ap, subst, ◌∙◌, arith}
use Rattle.rx_walks.specs.Finds.{IsInside}
use Rattle.rx_walks.specs.ProgramFinds.{lowest, highest}
use Rattle.rx_steps.specs.Searching.{search_of}
use Rattle.rx_steps.proofs.OverLaws.{same_search}
use Rattle.rx_lists.specs.LeadingSets.{HasLeadingSets, AreLeadingSets, IsLeadingSet}
use Rattle.rx_lists.proofs.NumberLaws.{one_more_times}
use Rattle.rx_lists.proofs.PassLaws.{count_more, inside_down, kept_more}
use Rattle.rx_lists.proofs.WayLaws.{inside_is}
use Rattle.rx_lists.proofs.blocks.Blocks.pass_all.Goals as goal

pub returns-in_err-keep-clause-counted : goal.returns-in_err-keep-clause-counted
returns-in_err-keep-clause-counted g c =
    let p = c.args.program.now in
    let inv = c.loop-self.invariant in
    let self = c.loop-self.self in
    let input = c.loop-self.input in
    let at = input.position in
    let same : (b : Bool) → search_of b input ≡ search_of b c.args.input.now = λ b. same_search b input c.args.input.now inv.same.content inv.asked in
    let first : (b : Bool) → self.first ≡ lowest (search_of b c.args.input.now) = λ b. inv.first ∙ c.requires.first b in
    let bounds : (b : Bool) → (lowest (search_of b c.args.input.now) ≤ at) × (at ≤ highest (search_of b c.args.input.now)) = λ b. inside_is (search_of b c.args.input.now) at (inv.inside b) in
    omega (arith, inv.counted, c.requires.first true, (bounds true).0)

pub pass_block-requires-clause-inside : goal.pass_block-requires-clause-inside
pass_block-requires-clause-inside g c =
    let p = c.args.program.now in
    let inv = c.loop-self.invariant in
    let self = c.loop-self.self in
    let input = c.loop-self.input in
    let at = input.position in
    let same : (b : Bool) → search_of b input ≡ search_of b c.args.input.now = λ b. same_search b input c.args.input.now inv.same.content inv.asked in
    let first : (b : Bool) → self.first ≡ lowest (search_of b c.args.input.now) = λ b. inv.first ∙ c.requires.first b in
    let bounds : (b : Bool) → (lowest (search_of b c.args.input.now) ≤ at) × (at ≤ highest (search_of b c.args.input.now)) = λ b. inside_is (search_of b c.args.input.now) at (inv.inside b) in
    λ b. subst (λ x. IsInside x at) (sym (same b)) (inv.inside b)

pub pass_block-requires-clause-bottom : goal.pass_block-requires-clause-bottom
pass_block-requires-clause-bottom g c =
    let p = c.args.program.now in
    let inv = c.loop-self.invariant in
    let self = c.loop-self.self in
    let input = c.loop-self.input in
    let at = input.position in
    let same : (b : Bool) → search_of b input ≡ search_of b c.args.input.now = λ b. same_search b input c.args.input.now inv.same.content inv.asked in
    let first : (b : Bool) → self.first ≡ lowest (search_of b c.args.input.now) = λ b. inv.first ∙ c.requires.first b in
    let bounds : (b : Bool) → (lowest (search_of b c.args.input.now) ≤ at) × (at ≤ highest (search_of b c.args.input.now)) = λ b. inside_is (search_of b c.args.input.now) at (inv.inside b) in
    λ b. subst (λ x. lowest x ≤ c.bottom-bottom.result) (sym (same b)) (omega (arith, c.bottom-bottom.ensures, first b))

pub pass_block-requires-clause-above : goal.pass_block-requires-clause-above
pass_block-requires-clause-above g c =
    let p = c.args.program.now in
    let inv = c.loop-self.invariant in
    let self = c.loop-self.self in
    let input = c.loop-self.input in
    let at = input.position in
    let same : (b : Bool) → search_of b input ≡ search_of b c.args.input.now = λ b. same_search b input c.args.input.now inv.same.content inv.asked in
    let first : (b : Bool) → self.first ≡ lowest (search_of b c.args.input.now) = λ b. inv.first ∙ c.requires.first b in
    let bounds : (b : Bool) → (lowest (search_of b c.args.input.now) ≤ at) × (at ≤ highest (search_of b c.args.input.now)) = λ b. inside_is (search_of b c.args.input.now) at (inv.inside b) in
    omega (arith, c.bottom-bottom.ensures, c.position.ensures.position, first true, (bounds true).0)

pub pass_block-requires-clause-known : goal.pass_block-requires-clause-known
pass_block-requires-clause-known g c =
    let p = c.args.program.now in
    let inv = c.loop-self.invariant in
    let self = c.loop-self.self in
    let input = c.loop-self.input in
    let at = input.position in
    let same : (b : Bool) → search_of b input ≡ search_of b c.args.input.now = λ b. same_search b input c.args.input.now inv.same.content inv.asked in
    let first : (b : Bool) → self.first ≡ lowest (search_of b c.args.input.now) = λ b. inv.first ∙ c.requires.first b in
    let bounds : (b : Bool) → (lowest (search_of b c.args.input.now) ≤ at) × (at ≤ highest (search_of b c.args.input.now)) = λ b. inside_is (search_of b c.args.input.now) at (inv.inside b) in
    λ b. subst (λ x. HasLeadingSets p x at) (sym (same b)) (inv.known b)

pub returns-then-bottom-self-clause-blocks : goal.returns-then-bottom-self-clause-blocks
returns-then-bottom-self-clause-blocks g c =
    let p = c.args.program.now in
    let inv = c.loop-self.invariant in
    let self = c.loop-self.self in
    let input = c.loop-self.input in
    let at = input.position in
    let same : (b : Bool) → search_of b input ≡ search_of b c.args.input.now = λ b. same_search b input c.args.input.now inv.same.content inv.asked in
    let first : (b : Bool) → self.first ≡ lowest (search_of b c.args.input.now) = λ b. inv.first ∙ c.requires.first b in
    let bounds : (b : Bool) → (lowest (search_of b c.args.input.now) ≤ at) × (at ≤ highest (search_of b c.args.input.now)) = λ b. inside_is (search_of b c.args.input.now) at (inv.inside b) in
    let kept' = c.keep.new.sets in
    let pass = c.in_ok-pass_block.ensures in
    let kept : (b : Bool) → AreLeadingSets p (search_of b c.args.input.now) self.last self.every kept' = λ b. kept_more p (search_of b c.args.input.now) self.last self.every at self.kept kept' self.pass.set.value
    c.in_ok-keep.ensures (inv.leading b) (omega (arith, inv.numbered)) (inv.kept b) in
    let count : length kept' ≡ length self.kept + 1 = count_more self.kept kept' self.pass.set.value c.in_ok-keep.ensures in
    let sets = c.pass_block.new.block.sets in
    λ b. record {
      ready = pass.ready;
      first_is = first b;
      last_is = inv.last ∙ c.requires.last b;
      spaced = omega (arith, inv.every, c.requires.spaced);
      kept = kept b;
      sets = subst (λ j. AreLeadingSets p (search_of b c.args.input.now) j 1 sets) (sym pass.top) (subst (λ x. AreLeadingSets p x at 1 sets) (same b) (pass.sets b));
      numbered = (length self.kept, omega (arith, count), omega (arith, pass.top, inv.numbered));
      above = omega (arith, pass.top, (bounds b).0);
      known = subst (λ j. HasLeadingSets p (search_of b c.args.input.now) j) (omega (arith, c.if-bottom-self.true, c.bottom-bottom.ensures, first b)) (subst (λ x. HasLeadingSets p x c.bottom-bottom.result) (same b) (pass.known b));
    }

pub loop-self-preserved : goal.loop-self-preserved
loop-self-preserved g c =
    let p = c.args.program.now in
    let inv = c.loop-self.invariant in
    let self = c.loop-self.self in
    let input = c.loop-self.input in
    let at = input.position in
    let same : (b : Bool) → search_of b input ≡ search_of b c.args.input.now = λ b. same_search b input c.args.input.now inv.same.content inv.asked in
    let first : (b : Bool) → self.first ≡ lowest (search_of b c.args.input.now) = λ b. inv.first ∙ c.requires.first b in
    let bounds : (b : Bool) → (lowest (search_of b c.args.input.now) ≤ at) × (at ≤ highest (search_of b c.args.input.now)) = λ b. inside_is (search_of b c.args.input.now) at (inv.inside b) in
    let kept' = c.keep.new.sets in
    let pass = c.in_ok-pass_block.ensures in
    let kept : (b : Bool) → AreLeadingSets p (search_of b c.args.input.now) self.last self.every kept' = λ b. kept_more p (search_of b c.args.input.now) self.last self.every at self.kept kept' self.pass.set.value
    c.in_ok-keep.ensures (inv.leading b) (omega (arith, inv.numbered)) (inv.kept b) in
    let count : length kept' ≡ length self.kept + 1 = count_more self.kept kept' self.pass.set.value c.in_ok-keep.ensures in
    let there : c.pass_block.new.input.position ≡ c.bottom-bottom.result = pass.bottom in
    let below : c.bottom-bottom.result ≤ at = omega (arith, c.bottom-bottom.ensures, c.position.ensures.position, first true, (bounds true).0) in
    let times : length kept' * self.every ≡ length self.kept * self.every + self.every = ap (λ k. k * self.every) count ∙ one_more_times (length self.kept) self.every in
    record {
      ready = pass.ready;
      inside = λ b. subst (λ j. IsInside (search_of b c.args.input.now) j) (sym there) (inside_down (search_of b c.args.input.now) at c.bottom-bottom.result (inv.inside b) below (omega (arith, c.bottom-bottom.ensures, first b)));
      leading = λ b. subst (λ j. IsLeadingSet p (search_of b c.args.input.now) j c.pass_block.new.self.set.value) (sym there) (subst (λ x. IsLeadingSet p x c.bottom-bottom.result c.pass_block.new.self.set.value) (same b) (pass.leading b));
      known = λ b. subst (λ j. HasLeadingSets p (search_of b c.args.input.now) j) (sym there) (subst (λ x. HasLeadingSets p x c.bottom-bottom.result) (same b) (pass.known b));
      kept = kept;
      numbered = omega (arith, inv.numbered, c.if-bottom-self.false, c.bottom-bottom.ensures, c.position.ensures.position, there, times);
      first = inv.first;
      last = inv.last;
      every = inv.every;
      counted = omega (arith, inv.counted, pass.counted, there);
      same = record { content = pass.same.content ∙ inv.same.content; is_sized = pass.same.is_sized ∙ inv.same.is_sized };
      asked = pass.asked ∙ inv.asked;
    }
