use Rattle.std.proofs.Common.{◌≡◌, ◌-◌, ◌*◌, ◌/◌, ◌≤◌, Bool, true, refl, sym, subst, arith}
use Rattle.rx_walks.specs.Finds.{IsInside}
use Rattle.rx_walks.specs.ProgramFinds.{lowest}
use Rattle.rx_steps.specs.Searching.{search_of}
use Rattle.rx_steps.proofs.OverLaws.{same_search}
use Rattle.rx_lists.specs.LeadingSets.{HasLeadingSets, AreLeadingSets, IsLeadingSet}
use Rattle.rx_lists.proofs.NumberLaws.{further_top}
use Rattle.rx_lists.proofs.PassLaws.{inside_up}
use Rattle.rx_lists.proofs.WayLaws.{inside_is}
use Rattle.rx_lists.proofs.blocks.Blocks.come_to.Goals as goal

pub returns-then-at-self-clause-last : goal.returns-then-at-self-clause-last
returns-then-at-self-clause-last g c = omega (arith, (c.requires.blocks true).numbered.2)

pub returns-in_err-load-clause-last : goal.returns-in_err-load-clause-last
returns-in_err-load-clause-last g c = omega (arith, (c.requires.blocks true).numbered.2)

pub overflow_sub-number : goal.overflow_sub-number
overflow_sub-number g c = omega (arith, c.position-at.ensures.position, (c.requires.blocks true).last_is, (inside_is (search_of true c.args.input.now) c.args.input.now.position (c.requires.inside true)).1)

pub nonzero_div-number : goal.nonzero_div-number
nonzero_div-number g c = (c.requires.blocks true).spaced

pub at-requires : goal.at-requires
at-requires g c =
    let p = c.args.program.now in
    let self = c.args.self.now in
    let at = c.position-at.result in
    let i = c.args.input.now.position in
    let n = (self.last - at) / self.every in
    let top = self.last - n * self.every in
    let blocks = c.requires.blocks in
    let there : at ≡ i = c.position-at.ensures.position in
    let within : at ≤ self.last = omega (arith, there, (blocks true).last_is, (inside_is (search_of true c.args.input.now) i (c.requires.inside true)).1) in
    let far = further_top self.last at self.block.top self.every (blocks true).numbered.0 n (blocks true).spaced (blocks true).numbered.2 (omega (arith, c.if-at-self.false)) within refl in
    omega (arith, far.0, (blocks true).numbered.1)

pub pass_block-requires-clause-ready : goal.pass_block-requires-clause-ready
pass_block-requires-clause-ready g c = c.load.ensures.ready c.args.program.now (c.requires.blocks true).ready

pub pass_block-requires-clause-inside : goal.pass_block-requires-clause-inside
pass_block-requires-clause-inside g c =
    let p = c.args.program.now in
    let self = c.args.self.now in
    let at = c.position-at.result in
    let i = c.args.input.now.position in
    let n = (self.last - at) / self.every in
    let top = self.last - n * self.every in
    let blocks = c.requires.blocks in
    let there : at ≡ i = c.position-at.ensures.position in
    let within : at ≤ self.last = omega (arith, there, (blocks true).last_is, (inside_is (search_of true c.args.input.now) i (c.requires.inside true)).1) in
    let far = further_top self.last at self.block.top self.every (blocks true).numbered.0 n (blocks true).spaced (blocks true).numbered.2 (omega (arith, c.if-at-self.false)) within refl in
    let moved = c.move_to.new.self in
    let inside : (b : Bool) → IsInside (search_of b c.args.input.now) top = λ b. inside_up (search_of b c.args.input.now) i top (c.requires.inside b) (omega (arith, far.2, there)) (omega (arith, (blocks b).last_is)) in
    let to : moved.position ≡ top = let deep = inside true in omega (arith, c.move_to.ensures.position_is, deep.4) in
    let same : (b : Bool) → search_of b moved ≡ search_of b c.args.input.now = λ b. same_search b moved c.args.input.now c.move_to.ensures.same.content c.move_to.ensures.asked_is in
    λ b. subst (λ x. IsInside x moved.position) (sym (same b)) (subst (λ j. IsInside (search_of b c.args.input.now) j) (sym to) (inside b))

pub pass_block-requires-clause-bottom : goal.pass_block-requires-clause-bottom
pass_block-requires-clause-bottom g c =
    let p = c.args.program.now in
    let self = c.args.self.now in
    let at = c.position-at.result in
    let i = c.args.input.now.position in
    let n = (self.last - at) / self.every in
    let top = self.last - n * self.every in
    let blocks = c.requires.blocks in
    let there : at ≡ i = c.position-at.ensures.position in
    let within : at ≤ self.last = omega (arith, there, (blocks true).last_is, (inside_is (search_of true c.args.input.now) i (c.requires.inside true)).1) in
    let far = further_top self.last at self.block.top self.every (blocks true).numbered.0 n (blocks true).spaced (blocks true).numbered.2 (omega (arith, c.if-at-self.false)) within refl in
    let moved = c.move_to.new.self in
    let inside : (b : Bool) → IsInside (search_of b c.args.input.now) top = λ b. inside_up (search_of b c.args.input.now) i top (c.requires.inside b) (omega (arith, far.2, there)) (omega (arith, (blocks b).last_is)) in
    let to : moved.position ≡ top = let deep = inside true in omega (arith, c.move_to.ensures.position_is, deep.4) in
    let same : (b : Bool) → search_of b moved ≡ search_of b c.args.input.now = λ b. same_search b moved c.args.input.now c.move_to.ensures.same.content c.move_to.ensures.asked_is in
    λ b. subst (λ x. lowest x ≤ c.bottom-bottom.result) (sym (same b)) (omega (arith, c.bottom-bottom.ensures, (blocks b).first_is))

pub pass_block-requires-clause-above : goal.pass_block-requires-clause-above
pass_block-requires-clause-above g c =
    let p = c.args.program.now in
    let self = c.args.self.now in
    let at = c.position-at.result in
    let i = c.args.input.now.position in
    let n = (self.last - at) / self.every in
    let top = self.last - n * self.every in
    let blocks = c.requires.blocks in
    let there : at ≡ i = c.position-at.ensures.position in
    let within : at ≤ self.last = omega (arith, there, (blocks true).last_is, (inside_is (search_of true c.args.input.now) i (c.requires.inside true)).1) in
    let far = further_top self.last at self.block.top self.every (blocks true).numbered.0 n (blocks true).spaced (blocks true).numbered.2 (omega (arith, c.if-at-self.false)) within refl in
    let moved = c.move_to.new.self in
    let inside : (b : Bool) → IsInside (search_of b c.args.input.now) top = λ b. inside_up (search_of b c.args.input.now) i top (c.requires.inside b) (omega (arith, far.2, there)) (omega (arith, (blocks b).last_is)) in
    let to : moved.position ≡ top = let deep = inside true in omega (arith, c.move_to.ensures.position_is, deep.4) in
    let same : (b : Bool) → search_of b moved ≡ search_of b c.args.input.now = λ b. same_search b moved c.args.input.now c.move_to.ensures.same.content c.move_to.ensures.asked_is in
    omega (arith, c.bottom-bottom.ensures, to, (blocks true).first_is, (inside_is (search_of true c.args.input.now) top (inside true)).0)

pub pass_block-requires-clause-leading : goal.pass_block-requires-clause-leading
pass_block-requires-clause-leading g c =
    let p = c.args.program.now in
    let self = c.args.self.now in
    let at = c.position-at.result in
    let i = c.args.input.now.position in
    let n = (self.last - at) / self.every in
    let top = self.last - n * self.every in
    let blocks = c.requires.blocks in
    let there : at ≡ i = c.position-at.ensures.position in
    let within : at ≤ self.last = omega (arith, there, (blocks true).last_is, (inside_is (search_of true c.args.input.now) i (c.requires.inside true)).1) in
    let far = further_top self.last at self.block.top self.every (blocks true).numbered.0 n (blocks true).spaced (blocks true).numbered.2 (omega (arith, c.if-at-self.false)) within refl in
    let moved = c.move_to.new.self in
    let inside : (b : Bool) → IsInside (search_of b c.args.input.now) top = λ b. inside_up (search_of b c.args.input.now) i top (c.requires.inside b) (omega (arith, far.2, there)) (omega (arith, (blocks b).last_is)) in
    let to : moved.position ≡ top = let deep = inside true in omega (arith, c.move_to.ensures.position_is, deep.4) in
    let same : (b : Bool) → search_of b moved ≡ search_of b c.args.input.now = λ b. same_search b moved c.args.input.now c.move_to.ensures.same.content c.move_to.ensures.asked_is in
    let set = c.load.new.self.set.value in
    λ b. subst (λ x. IsLeadingSet p x moved.position set) (sym (same b)) (subst (λ j. IsLeadingSet p (search_of b c.args.input.now) j set) (sym to)
    (subst (λ x. IsLeadingSet p (search_of b c.args.input.now) top x) (sym c.in_ok-load.ensures.set) ((blocks b).kept n c.at.result.now.value c.at.ensures)))

pub pass_block-requires-clause-known : goal.pass_block-requires-clause-known
pass_block-requires-clause-known g c =
    let p = c.args.program.now in
    let self = c.args.self.now in
    let at = c.position-at.result in
    let i = c.args.input.now.position in
    let n = (self.last - at) / self.every in
    let top = self.last - n * self.every in
    let blocks = c.requires.blocks in
    let there : at ≡ i = c.position-at.ensures.position in
    let within : at ≤ self.last = omega (arith, there, (blocks true).last_is, (inside_is (search_of true c.args.input.now) i (c.requires.inside true)).1) in
    let far = further_top self.last at self.block.top self.every (blocks true).numbered.0 n (blocks true).spaced (blocks true).numbered.2 (omega (arith, c.if-at-self.false)) within refl in
    let moved = c.move_to.new.self in
    let inside : (b : Bool) → IsInside (search_of b c.args.input.now) top = λ b. inside_up (search_of b c.args.input.now) i top (c.requires.inside b) (omega (arith, far.2, there)) (omega (arith, (blocks b).last_is)) in
    let to : moved.position ≡ top = let deep = inside true in omega (arith, c.move_to.ensures.position_is, deep.4) in
    let same : (b : Bool) → search_of b moved ≡ search_of b c.args.input.now = λ b. same_search b moved c.args.input.now c.move_to.ensures.same.content c.move_to.ensures.asked_is in
    λ b. subst (λ x. HasLeadingSets p x moved.position) (sym (same b)) (λ j above below. (blocks b).known j (omega (arith, above, to, (inside_is (search_of b c.args.input.now) top (inside b)).0)) below)

pub returns-in_err-pass_block-clause-counted : goal.returns-in_err-pass_block-clause-counted
returns-in_err-pass_block-clause-counted g c =
    let p = c.args.program.now in
    let self = c.args.self.now in
    let at = c.position-at.result in
    let i = c.args.input.now.position in
    let n = (self.last - at) / self.every in
    let top = self.last - n * self.every in
    let blocks = c.requires.blocks in
    let there : at ≡ i = c.position-at.ensures.position in
    let within : at ≤ self.last = omega (arith, there, (blocks true).last_is, (inside_is (search_of true c.args.input.now) i (c.requires.inside true)).1) in
    let far = further_top self.last at self.block.top self.every (blocks true).numbered.0 n (blocks true).spaced (blocks true).numbered.2 (omega (arith, c.if-at-self.false)) within refl in
    let moved = c.move_to.new.self in
    let inside : (b : Bool) → IsInside (search_of b c.args.input.now) top = λ b. inside_up (search_of b c.args.input.now) i top (c.requires.inside b) (omega (arith, far.2, there)) (omega (arith, (blocks b).last_is)) in
    let to : moved.position ≡ top = let deep = inside true in omega (arith, c.move_to.ensures.position_is, deep.4) in
    let same : (b : Bool) → search_of b moved ≡ search_of b c.args.input.now = λ b. same_search b moved c.args.input.now c.move_to.ensures.same.content c.move_to.ensures.asked_is in
    omega (arith, c.pass_block.ensures.counted, c.pass_block.ensures.top, c.bottom-bottom.ensures, far.5, to)

pub returns-clause-blocks : goal.returns-clause-blocks
returns-clause-blocks g c =
    let p = c.args.program.now in
    let self = c.args.self.now in
    let at = c.position-at.result in
    let i = c.args.input.now.position in
    let n = (self.last - at) / self.every in
    let top = self.last - n * self.every in
    let blocks = c.requires.blocks in
    let there : at ≡ i = c.position-at.ensures.position in
    let within : at ≤ self.last = omega (arith, there, (blocks true).last_is, (inside_is (search_of true c.args.input.now) i (c.requires.inside true)).1) in
    let far = further_top self.last at self.block.top self.every (blocks true).numbered.0 n (blocks true).spaced (blocks true).numbered.2 (omega (arith, c.if-at-self.false)) within refl in
    let moved = c.move_to.new.self in
    let inside : (b : Bool) → IsInside (search_of b c.args.input.now) top = λ b. inside_up (search_of b c.args.input.now) i top (c.requires.inside b) (omega (arith, far.2, there)) (omega (arith, (blocks b).last_is)) in
    let to : moved.position ≡ top = let deep = inside true in omega (arith, c.move_to.ensures.position_is, deep.4) in
    let same : (b : Bool) → search_of b moved ≡ search_of b c.args.input.now = λ b. same_search b moved c.args.input.now c.move_to.ensures.same.content c.move_to.ensures.asked_is in
    let pass = c.in_ok-pass_block.ensures in
    let sets = c.pass_block.new.block.sets in
    λ b. record {
      ready = pass.ready;
      first_is = (blocks b).first_is;
      last_is = (blocks b).last_is;
      spaced = (blocks b).spaced;
      kept = (blocks b).kept;
      sets = subst (λ j. AreLeadingSets p (search_of b c.args.input.now) j 1 sets) (sym pass.top) (subst (λ x. AreLeadingSets p x moved.position 1 sets) (same b) (pass.sets b));
      numbered = (n, omega (arith, far.0, (blocks true).numbered.1), omega (arith, pass.top, to, far.3));
      above = omega (arith, pass.top, to, (inside_is (search_of b c.args.input.now) top (inside b)).0);
      known = (blocks b).known;
    }

pub returns-clause-there : goal.returns-clause-there
returns-clause-there g c =
    let p = c.args.program.now in
    let self = c.args.self.now in
    let at = c.position-at.result in
    let i = c.args.input.now.position in
    let n = (self.last - at) / self.every in
    let top = self.last - n * self.every in
    let blocks = c.requires.blocks in
    let there : at ≡ i = c.position-at.ensures.position in
    let within : at ≤ self.last = omega (arith, there, (blocks true).last_is, (inside_is (search_of true c.args.input.now) i (c.requires.inside true)).1) in
    let far = further_top self.last at self.block.top self.every (blocks true).numbered.0 n (blocks true).spaced (blocks true).numbered.2 (omega (arith, c.if-at-self.false)) within refl in
    let moved = c.move_to.new.self in
    let inside : (b : Bool) → IsInside (search_of b c.args.input.now) top = λ b. inside_up (search_of b c.args.input.now) i top (c.requires.inside b) (omega (arith, far.2, there)) (omega (arith, (blocks b).last_is)) in
    let to : moved.position ≡ top = let deep = inside true in omega (arith, c.move_to.ensures.position_is, deep.4) in
    let same : (b : Bool) → search_of b moved ≡ search_of b c.args.input.now = λ b. same_search b moved c.args.input.now c.move_to.ensures.same.content c.move_to.ensures.asked_is in
    omega (arith, far.2, there, c.in_ok-pass_block.ensures.top, to)

pub returns-clause-reaches : goal.returns-clause-reaches
returns-clause-reaches g c =
    let p = c.args.program.now in
    let self = c.args.self.now in
    let at = c.position-at.result in
    let i = c.args.input.now.position in
    let n = (self.last - at) / self.every in
    let top = self.last - n * self.every in
    let blocks = c.requires.blocks in
    let there : at ≡ i = c.position-at.ensures.position in
    let within : at ≤ self.last = omega (arith, there, (blocks true).last_is, (inside_is (search_of true c.args.input.now) i (c.requires.inside true)).1) in
    let far = further_top self.last at self.block.top self.every (blocks true).numbered.0 n (blocks true).spaced (blocks true).numbered.2 (omega (arith, c.if-at-self.false)) within refl in
    let moved = c.move_to.new.self in
    let inside : (b : Bool) → IsInside (search_of b c.args.input.now) top = λ b. inside_up (search_of b c.args.input.now) i top (c.requires.inside b) (omega (arith, far.2, there)) (omega (arith, (blocks b).last_is)) in
    let to : moved.position ≡ top = let deep = inside true in omega (arith, c.move_to.ensures.position_is, deep.4) in
    let same : (b : Bool) → search_of b moved ≡ search_of b c.args.input.now = λ b. same_search b moved c.args.input.now c.move_to.ensures.same.content c.move_to.ensures.asked_is in
    let pass = c.in_ok-pass_block.ensures in
    λ j above near reached. omega (arith, above, near, there, pass.count, pass.top, to, c.bottom-bottom.ensures, far.4)

pub returns-clause-counted : goal.returns-clause-counted
returns-clause-counted g c =
    let p = c.args.program.now in
    let self = c.args.self.now in
    let at = c.position-at.result in
    let i = c.args.input.now.position in
    let n = (self.last - at) / self.every in
    let top = self.last - n * self.every in
    let blocks = c.requires.blocks in
    let there : at ≡ i = c.position-at.ensures.position in
    let within : at ≤ self.last = omega (arith, there, (blocks true).last_is, (inside_is (search_of true c.args.input.now) i (c.requires.inside true)).1) in
    let far = further_top self.last at self.block.top self.every (blocks true).numbered.0 n (blocks true).spaced (blocks true).numbered.2 (omega (arith, c.if-at-self.false)) within refl in
    let moved = c.move_to.new.self in
    let inside : (b : Bool) → IsInside (search_of b c.args.input.now) top = λ b. inside_up (search_of b c.args.input.now) i top (c.requires.inside b) (omega (arith, far.2, there)) (omega (arith, (blocks b).last_is)) in
    let to : moved.position ≡ top = let deep = inside true in omega (arith, c.move_to.ensures.position_is, deep.4) in
    let same : (b : Bool) → search_of b moved ≡ search_of b c.args.input.now = λ b. same_search b moved c.args.input.now c.move_to.ensures.same.content c.move_to.ensures.asked_is in
    omega (arith, c.pass_block.ensures.counted, c.pass_block.ensures.top, c.bottom-bottom.ensures, far.5, to)
