use Rattle.std.proofs.Common.{◌≡◌, ◌+◌, ◌<◌, ◌≤◌, Bool, true, [], ◌∷◌, Some, None, slice_get, refl, sym, ap, subst, ◌∙◌, arith}
use Rattle.std.proofs.lemmas.Option.{slice_get_within}
use Rattle.rx_walks.specs.Finds.{IsInside}
use Rattle.rx_walks.specs.ProgramFinds.{highest}
use Rattle.rx_walks.specs.Steps.{Steps}
use Rattle.rx_walks.specs.Leading.{Follows}
use Rattle.rx_steps.specs.Lists.{met_at}
use Rattle.rx_steps.specs.Threads.{no_slots, first_node}
use Rattle.rx_steps.specs.Searching.{search_of}
use Rattle.rx_steps.specs.Coming.{machine_in}
use Rattle.rx_steps.proofs.OverLaws.{same_search}
use Rattle.rx_steps.specs.Nodes.{widths_of}
use Rattle.rx_lists.specs.Bits.{HasNode}
use Rattle.rx_lists.specs.Blocks.{AreBlocks, BlockReaches}
use Rattle.rx_lists.specs.LeadingSets.{IsLeadingSet}
use Rattle.rx_lists.specs.Passes.{IsFirstAmong}
use Rattle.rx_lists.proofs.NodeLaws.{first_may}
use Rattle.rx_lists.proofs.WayLaws.{inside_is, top_within, set_at, reached, some_and, walk_on, chosen_first, chosen_nobody, chosen_past, thread_at, ends_there}
use Rattle.rx_lists.proofs.walk.Walk.follow.Goals as goal

pub loop-met-init : goal.loop-met-init
loop-met-init g c = record {
  ready = record {
    widths_are = ap (λ x. x.widths) c.begin.ensures.stepper ∙ c.requires.ready.widths_are;
    looks = λ none. c.requires.ready.looks (sym c.begin.ensures.asks_looks ∙ none);
  };
  inside = c.requires.inside;
  blocks = c.requires.blocks;
  reaches = c.requires.reaches;
  live = (no_slots c.args.slot_len, first_node c.args.start, c.in_ok-begin.ensures.live, first_may (slice_get c.args.program.now.states c.args.start));
  come = λ b out follows. subst (λ xs. Follows (machine_in c.args.program.now (search_of b c.args.input.now)) c.args.input.now.position [] xs out) c.in_ok-begin.ensures.live follows;
  from = omega arith;
  counted = omega arith;
  same = record { content = refl; is_sized = refl };
  asked = refl;
}

pub loop-met-preserved : goal.loop-met-preserved
loop-met-preserved g c =
    let p = c.args.program.now in
    let inv = c.loop-met.invariant in
    let at = c.loop-met.input.position in
    let met = c.in_ok-met.ensures in
    let next = c.step.new.self.next.threads in
    let set = c.set-set.result.now in
    let come = c.in_ok-come_to.ensures in
    let after = c.advance.new.input in
    let k = c.in-Some.number in
    let same : (b : Bool) → search_of b c.loop-met.input ≡ search_of b c.args.input.now = λ b. same_search b c.loop-met.input c.args.input.now inv.same.content inv.asked in
    let same' : (b : Bool) → search_of b c.step.new.input ≡ search_of b c.args.input.now = λ b. same_search b c.step.new.input c.args.input.now (met.same.same.content ∙ inv.same.content) (met.same.asked_is ∙ inv.asked) in
    let same'' : (b : Bool) → search_of b after ≡ search_of b c.args.input.now = λ b. same_search b after c.args.input.now (c.advance.ensures.same.same.content ∙ met.same.same.content ∙ inv.same.content) (c.advance.ensures.same.asked_is ∙ met.same.asked_is ∙ inv.asked) in
    let pos : after.position ≡ at + 1 = c.advance.ensures.next c.if-not-advance.false ∙ ap (λ n. n + 1) met.same.position_is in
    let inside : (b : Bool) → IsInside (search_of b c.args.input.now) after.position = λ b. subst (λ x. IsInside x after.position) (same' b)
    (c.advance.ensures.inside c.if-not-advance.false b (subst (λ j. IsInside (search_of b c.step.new.input) j) (sym met.same.position_is) (subst (λ x. IsInside x at) (sym (same' b)) (inv.inside b)))) in
    let went = some_and (λ t. c.go_on.new.self.live.threads ≡ t ∷ []) (slice_get next k) c.in_ok-go_on.ensures.live in
    let stays : c.position.result ≡ at + 1 = c.position.ensures.position ∙ come.position ∙ pos in
    let blocks : (b : Bool) → AreBlocks p (search_of b c.args.input.now) c.come_to.new.self = λ b. subst (λ x. AreBlocks p x c.come_to.new.self) (same'' b) (come.blocks b) in
    let leading : (b : Bool) → IsLeadingSet p (search_of b c.args.input.now) (at + 1) set = λ b.
    set_at p (search_of b c.args.input.now) c.come_to.new.self.block.top c.position.result (at + 1) c.come_to.new.self.block.sets set (blocks b).sets c.set-set.ensures (omega (arith, stays, come.there, pos)) stays in
    let first : IsFirstAmong next (λ r. HasNode (widths_of p) set r) (Some k) = subst (λ w. IsFirstAmong next (λ r. HasNode w set r) (Some k)) (blocks true).ready.index_is
    (subst (λ o. IsFirstAmong next (λ r. HasNode c.come_to.new.self.pass.index set r) o) c.in-Some.is c.first_among.ensures) in
    record {
      ready = record {
        widths_are = ap (λ x. x.widths) c.go_on.ensures.stepper ∙ met.ready.widths_are;
        looks = λ none. met.ready.looks (sym c.go_on.ensures.asks_looks ∙ none);
      };
      inside = λ b. subst (λ j. IsInside (search_of b c.args.input.now) j) (sym come.position) (inside b);
      blocks = blocks;
      reaches = subst (λ j. BlockReaches c.come_to.new.self.block j) (sym come.position)
          (reached p (search_of true c.args.input.now) c.loop-met.blocks c.come_to.new.self.block at after.position (inv.blocks true) pos come.reaches (inside_is (search_of true c.args.input.now) at (inv.inside true)).0 inv.reaches).1;
      live = (went.0.0, went.0.1, went.2, thread_at p.states next k went.0 met.threads went.1);
      come = λ b out follows.
          let s = search_of b c.args.input.now in
          let m = machine_in p s in
          let on : Follows m (at + 1) [] (went.0 ∷ []) out = subst (λ j. Follows m j [] (went.0 ∷ []) out) (come.position ∙ pos) (subst (λ xs. Follows m c.come_to.new.input.position [] xs out) went.2 follows) in
          let end = met_at at c.in_ok-met.met c.step.new.self.stepper.slots in
          let steps : Steps m at [] ((inv.live.0, inv.live.1) ∷ []) next end = subst (λ xs. Steps m at [] xs next end) inv.live.2
          (subst (λ x. Steps (machine_in p x) at [] c.loop-met.self.live.threads next end) (same b) (met.steps b (subst (λ x. IsInside x at) (sym (same b)) (inv.inside b)))) in
          inv.come b out (subst (λ xs. Follows m at [] xs out) (sym inv.live.2)
          (walk_on p s at inv.live.0 inv.live.1 next end out (inv.blocks b).known (inv.inside b) inv.live.3 steps
          (chosen_first p s (at + 1) k next set end out went.0 (leading b) met.threads first went.1 on)));
      from = omega (arith, inv.from, pos, come.position);
      counted = omega (arith, inv.counted, met.counted, pos, come.position, come.counted);
      same = record { content = come.same.content ∙ c.advance.ensures.same.same.content ∙ met.same.same.content ∙ inv.same.content; is_sized = come.same.is_sized ∙ c.advance.ensures.same.same.is_sized ∙ met.same.same.is_sized ∙ inv.same.is_sized };
      asked = come.asked ∙ c.advance.ensures.same.asked_is ∙ met.same.asked_is ∙ inv.asked;
    }

pub returns-then-not-advance-clause-followed : goal.returns-then-not-advance-clause-followed
returns-then-not-advance-clause-followed g c =
    let p = c.args.program.now in
    let inv = c.loop-met.invariant in
    let at = c.loop-met.input.position in
    let met = c.in_ok-met.ensures in
    let next = c.step.new.self.next.threads in
    let same : (b : Bool) → search_of b c.loop-met.input ≡ search_of b c.args.input.now = λ b. same_search b c.loop-met.input c.args.input.now inv.same.content inv.asked in
    let same' : (b : Bool) → search_of b c.step.new.input ≡ search_of b c.args.input.now = λ b. same_search b c.step.new.input c.args.input.now (met.same.same.content ∙ inv.same.content) (met.same.asked_is ∙ inv.asked) in
    λ b.
    let s = search_of b c.args.input.now in
    let m = machine_in p s in
    let slots = c.step.new.self.stepper.slots in
    let end = met_at at c.in_ok-met.met slots in
    let steps : Steps m at [] ((inv.live.0, inv.live.1) ∷ []) next end = subst (λ xs. Steps m at [] xs next end) inv.live.2
    (subst (λ x. Steps (machine_in p x) at [] c.loop-met.self.live.threads next end) (same b) (met.steps b (subst (λ x. IsInside x at) (sym (same b)) (inv.inside b)))) in
    let past : highest s < at + 1 = subst (λ j. highest s < j + 1) met.same.position_is (subst (λ x. highest x < c.step.new.input.position + 1) (same' b) (c.advance.ensures.last c.if-not-advance.true b)) in
    let chosen = chosen_past p s (at + 1) next end past met.threads in
    let follows = inv.come b end (subst (λ xs. Follows m at [] xs end) (sym inv.live.2)
    (walk_on p s at inv.live.0 inv.live.1 next end end (inv.blocks b).known (inv.inside b) inv.live.3 steps chosen)) in
    let fresh = (no_slots c.args.slot_len, first_node c.args.start) ∷ [] in
    subst (λ o. Follows m c.args.input.now.position [] fresh o) (sym (c.ending_at.ensures slots))
    (subst (λ j. Follows m c.args.input.now.position [] fresh (met_at j c.in_ok-met.met slots)) (sym c.position-at.ensures.position) follows)

pub returns-in_default-clause-followed : goal.returns-in_default-clause-followed
returns-in_default-clause-followed g c =
    let p = c.args.program.now in
    let inv = c.loop-met.invariant in
    let at = c.loop-met.input.position in
    let met = c.in_ok-met.ensures in
    let next = c.step.new.self.next.threads in
    let same : (b : Bool) → search_of b c.loop-met.input ≡ search_of b c.args.input.now = λ b. same_search b c.loop-met.input c.args.input.now inv.same.content inv.asked in
    let same' : (b : Bool) → search_of b c.step.new.input ≡ search_of b c.args.input.now = λ b. same_search b c.step.new.input c.args.input.now (met.same.same.content ∙ inv.same.content) (met.same.asked_is ∙ inv.asked) in
    let after = c.advance.new.input in
    let same'' : (b : Bool) → search_of b after ≡ search_of b c.args.input.now = λ b. same_search b after c.args.input.now (c.advance.ensures.same.same.content ∙ met.same.same.content ∙ inv.same.content) (c.advance.ensures.same.asked_is ∙ met.same.asked_is ∙ inv.asked) in
    let pos : after.position ≡ at + 1 = c.advance.ensures.next c.if-not-advance.false ∙ ap (λ n. n + 1) met.same.position_is in
    let inside : (b : Bool) → IsInside (search_of b c.args.input.now) after.position = λ b. subst (λ x. IsInside x after.position) (same' b)
    (c.advance.ensures.inside c.if-not-advance.false b (subst (λ j. IsInside (search_of b c.step.new.input) j) (sym met.same.position_is) (subst (λ x. IsInside x at) (sym (same' b)) (inv.inside b)))) in
    let set = c.set-set.result.now in
    let come = c.in_ok-come_to.ensures in
    let stays : c.position.result ≡ at + 1 = c.position.ensures.position ∙ come.position ∙ pos in
    let blocks : (b : Bool) → AreBlocks p (search_of b c.args.input.now) c.come_to.new.self = λ b. subst (λ x. AreBlocks p x c.come_to.new.self) (same'' b) (come.blocks b) in
    let leading : (b : Bool) → IsLeadingSet p (search_of b c.args.input.now) (at + 1) set = λ b.
    set_at p (search_of b c.args.input.now) c.come_to.new.self.block.top c.position.result (at + 1) c.come_to.new.self.block.sets set (blocks b).sets c.set-set.ensures (omega (arith, stays, come.there, pos)) stays in
    λ b.
    let s = search_of b c.args.input.now in
    let m = machine_in p s in
    let slots = c.step.new.self.stepper.slots in
    let end = met_at at c.in_ok-met.met slots in
    let steps : Steps m at [] ((inv.live.0, inv.live.1) ∷ []) next end = subst (λ xs. Steps m at [] xs next end) inv.live.2
    (subst (λ x. Steps (machine_in p x) at [] c.loop-met.self.live.threads next end) (same b) (met.steps b (subst (λ x. IsInside x at) (sym (same b)) (inv.inside b)))) in
    let none : IsFirstAmong next (λ r. HasNode (widths_of p) set r) None = subst (λ w. IsFirstAmong next (λ r. HasNode w set r) None) (blocks true).ready.index_is
    (subst (λ o. IsFirstAmong next (λ r. HasNode c.come_to.new.self.pass.index set r) o) c.in_default.is c.first_among.ensures) in
    let chosen = chosen_nobody p s (at + 1) next set end (leading b) met.threads none in
    let follows = inv.come b end (subst (λ xs. Follows m at [] xs end) (sym inv.live.2)
    (walk_on p s at inv.live.0 inv.live.1 next end end (inv.blocks b).known (inv.inside b) inv.live.3 steps chosen)) in
    let fresh = (no_slots c.args.slot_len, first_node c.args.start) ∷ [] in
    subst (λ o. Follows m c.args.input.now.position [] fresh o) (sym (c.ending_at-in_default.ensures slots))
    (subst (λ j. Follows m c.args.input.now.position [] fresh (met_at j c.in_ok-met.met slots)) (sym c.position-at.ensures.position) follows)

pub returns-then-not-advance-clause-inside : goal.returns-then-not-advance-clause-inside
returns-then-not-advance-clause-inside g c =
    let inv = c.loop-met.invariant in
    ends_there c.ending_at.result c.in_ok-met.met c.position-at.result c.step.new.self.stepper.slots
    (λ j. (c.args.input.now.position ≤ j) × ((b : Bool) → IsInside (search_of b c.args.input.now) j)) (c.ending_at.ensures c.step.new.self.stepper.slots)
    (omega (arith, inv.from, c.position-at.ensures.position), λ b. subst (λ j. IsInside (search_of b c.args.input.now) j) (sym c.position-at.ensures.position) (inv.inside b))

pub returns-in_default-clause-inside : goal.returns-in_default-clause-inside
returns-in_default-clause-inside g c =
    let inv = c.loop-met.invariant in
    ends_there c.ending_at-in_default.result c.in_ok-met.met c.position-at.result c.step.new.self.stepper.slots
    (λ j. (c.args.input.now.position ≤ j) × ((b : Bool) → IsInside (search_of b c.args.input.now) j)) (c.ending_at-in_default.ensures c.step.new.self.stepper.slots)
    (omega (arith, inv.from, c.position-at.ensures.position), λ b. subst (λ j. IsInside (search_of b c.args.input.now) j) (sym c.position-at.ensures.position) (inv.inside b))

pub returns-then-not-advance-clause-counted : goal.returns-then-not-advance-clause-counted
returns-then-not-advance-clause-counted g c =
    let inv = c.loop-met.invariant in
    ends_there c.ending_at.result c.in_ok-met.met c.position-at.result c.step.new.self.stepper.slots
    (λ j. c.step.new.read + c.args.blocks.now.block.top + c.args.input.now.position ≤ c.args.read.now + c.loop-met.blocks.block.top + j + 1) (c.ending_at.ensures c.step.new.self.stepper.slots)
    (omega (arith, inv.counted, c.step.ensures.counted, c.position-at.ensures.position))

pub returns-in_default-clause-counted : goal.returns-in_default-clause-counted
returns-in_default-clause-counted g c =
    let inv = c.loop-met.invariant in
    ends_there c.ending_at-in_default.result c.in_ok-met.met c.position-at.result c.step.new.self.stepper.slots
    (λ j. c.come_to.new.read + c.args.blocks.now.block.top + c.args.input.now.position ≤ c.args.read.now + c.come_to.new.self.block.top + j + 1) (c.ending_at-in_default.ensures c.step.new.self.stepper.slots)
    (omega (arith, inv.counted, c.step.ensures.counted, c.come_to.ensures.counted, c.position-at.ensures.position))

pub come_to-requires-clause-blocks : goal.come_to-requires-clause-blocks
come_to-requires-clause-blocks g c =
    let inv = c.loop-met.invariant in
    let at = c.loop-met.input.position in
    let met = c.in_ok-met.ensures in
    let after = c.advance.new.input in
    let same' : (b : Bool) → search_of b c.step.new.input ≡ search_of b c.args.input.now = λ b. same_search b c.step.new.input c.args.input.now (met.same.same.content ∙ inv.same.content) (met.same.asked_is ∙ inv.asked) in
    let same'' : (b : Bool) → search_of b after ≡ search_of b c.args.input.now = λ b. same_search b after c.args.input.now (c.advance.ensures.same.same.content ∙ met.same.same.content ∙ inv.same.content) (c.advance.ensures.same.asked_is ∙ met.same.asked_is ∙ inv.asked) in
    let pos : after.position ≡ at + 1 = c.advance.ensures.next c.if-not-advance.false ∙ ap (λ n. n + 1) met.same.position_is in
    λ b. subst (λ x. AreBlocks c.args.program.now x c.loop-met.blocks) (sym (same'' b)) (inv.blocks b)

pub come_to-requires-clause-inside : goal.come_to-requires-clause-inside
come_to-requires-clause-inside g c =
    let inv = c.loop-met.invariant in
    let at = c.loop-met.input.position in
    let met = c.in_ok-met.ensures in
    let after = c.advance.new.input in
    let same' : (b : Bool) → search_of b c.step.new.input ≡ search_of b c.args.input.now = λ b. same_search b c.step.new.input c.args.input.now (met.same.same.content ∙ inv.same.content) (met.same.asked_is ∙ inv.asked) in
    let same'' : (b : Bool) → search_of b after ≡ search_of b c.args.input.now = λ b. same_search b after c.args.input.now (c.advance.ensures.same.same.content ∙ met.same.same.content ∙ inv.same.content) (c.advance.ensures.same.asked_is ∙ met.same.asked_is ∙ inv.asked) in
    let pos : after.position ≡ at + 1 = c.advance.ensures.next c.if-not-advance.false ∙ ap (λ n. n + 1) met.same.position_is in
    λ b. subst (λ x. IsInside x after.position) (sym (same'' b)) (subst (λ x. IsInside x after.position) (same' b)
    (c.advance.ensures.inside c.if-not-advance.false b (subst (λ j. IsInside (search_of b c.step.new.input) j) (sym met.same.position_is) (subst (λ x. IsInside x at) (sym (same' b)) (inv.inside b)))))

pub set-set-requires-clause-there : goal.set-set-requires-clause-there
set-set-requires-clause-there g c = omega (arith, c.position.ensures.position, c.in_ok-come_to.ensures.position, c.in_ok-come_to.ensures.there)

pub set-set-requires-clause-reaches : goal.set-set-requires-clause-reaches
set-set-requires-clause-reaches g c =
    let inv = c.loop-met.invariant in
    let at = c.loop-met.input.position in
    let met = c.in_ok-met.ensures in
    let after = c.advance.new.input in
    let same' : (b : Bool) → search_of b c.step.new.input ≡ search_of b c.args.input.now = λ b. same_search b c.step.new.input c.args.input.now (met.same.same.content ∙ inv.same.content) (met.same.asked_is ∙ inv.asked) in
    let same'' : (b : Bool) → search_of b after ≡ search_of b c.args.input.now = λ b. same_search b after c.args.input.now (c.advance.ensures.same.same.content ∙ met.same.same.content ∙ inv.same.content) (c.advance.ensures.same.asked_is ∙ met.same.asked_is ∙ inv.asked) in
    let pos : after.position ≡ at + 1 = c.advance.ensures.next c.if-not-advance.false ∙ ap (λ n. n + 1) met.same.position_is in
    let come = c.in_ok-come_to.ensures in
    subst (λ j. BlockReaches c.come_to.new.self.block j) (sym (c.position.ensures.position ∙ come.position))
    (reached c.args.program.now (search_of true c.args.input.now) c.loop-met.blocks c.come_to.new.self.block at after.position (inv.blocks true) pos come.reaches (inside_is (search_of true c.args.input.now) at (inv.inside true)).0 inv.reaches).1

pub returns-then-not-advance-clause-reaches : goal.returns-then-not-advance-clause-reaches
returns-then-not-advance-clause-reaches g c =
    ends_there c.ending_at.result c.in_ok-met.met c.position-at.result c.step.new.self.stepper.slots
    (λ j. BlockReaches c.loop-met.blocks.block j) (c.ending_at.ensures c.step.new.self.stepper.slots)
    (subst (λ j. BlockReaches c.loop-met.blocks.block j) (sym c.position-at.ensures.position) c.loop-met.invariant.reaches)

pub returns-in_default-clause-reaches : goal.returns-in_default-clause-reaches
returns-in_default-clause-reaches g c =
    let inv = c.loop-met.invariant in
    let at = c.loop-met.input.position in
    let met = c.in_ok-met.ensures in
    let after = c.advance.new.input in
    let same' : (b : Bool) → search_of b c.step.new.input ≡ search_of b c.args.input.now = λ b. same_search b c.step.new.input c.args.input.now (met.same.same.content ∙ inv.same.content) (met.same.asked_is ∙ inv.asked) in
    let same'' : (b : Bool) → search_of b after ≡ search_of b c.args.input.now = λ b. same_search b after c.args.input.now (c.advance.ensures.same.same.content ∙ met.same.same.content ∙ inv.same.content) (c.advance.ensures.same.asked_is ∙ met.same.asked_is ∙ inv.asked) in
    let pos : after.position ≡ at + 1 = c.advance.ensures.next c.if-not-advance.false ∙ ap (λ n. n + 1) met.same.position_is in
    let come = c.in_ok-come_to.ensures in
    ends_there c.ending_at-in_default.result c.in_ok-met.met c.position-at.result c.step.new.self.stepper.slots
    (λ j. BlockReaches c.come_to.new.self.block j) (c.ending_at-in_default.ensures c.step.new.self.stepper.slots)
    (subst (λ j. BlockReaches c.come_to.new.self.block j) (sym c.position-at.ensures.position)
    (reached c.args.program.now (search_of true c.args.input.now) c.loop-met.blocks c.come_to.new.self.block at after.position (inv.blocks true) pos come.reaches (inside_is (search_of true c.args.input.now) at (inv.inside true)).0 inv.reaches).0)

pub returns-in_default-clause-blocks : goal.returns-in_default-clause-blocks
returns-in_default-clause-blocks g c =
    let inv = c.loop-met.invariant in
    let at = c.loop-met.input.position in
    let met = c.in_ok-met.ensures in
    let after = c.advance.new.input in
    let same' : (b : Bool) → search_of b c.step.new.input ≡ search_of b c.args.input.now = λ b. same_search b c.step.new.input c.args.input.now (met.same.same.content ∙ inv.same.content) (met.same.asked_is ∙ inv.asked) in
    let same'' : (b : Bool) → search_of b after ≡ search_of b c.args.input.now = λ b. same_search b after c.args.input.now (c.advance.ensures.same.same.content ∙ met.same.same.content ∙ inv.same.content) (c.advance.ensures.same.asked_is ∙ met.same.asked_is ∙ inv.asked) in
    let pos : after.position ≡ at + 1 = c.advance.ensures.next c.if-not-advance.false ∙ ap (λ n. n + 1) met.same.position_is in
    λ b. subst (λ x. AreBlocks c.args.program.now x c.come_to.new.self) (same'' b) (c.in_ok-come_to.ensures.blocks b)

pub go_on-requires : goal.go_on-requires
go_on-requires g c =
    let next = c.step.new.self.next.threads in
    let set = c.set-set.result.now in
    let widths = c.come_to.new.self.pass.index in
    let first : IsFirstAmong next (λ r. HasNode widths set r) (Some c.in-Some.number) = subst (λ o. IsFirstAmong next (λ r. HasNode widths set r) o) c.in-Some.is c.first_among.ensures in
    slice_get_within next c.in-Some.number first.0 first.1

pub returns-in_err-begin-clause-bound : goal.returns-in_err-begin-clause-bound
returns-in_err-begin-clause-bound g c = λ b. omega (arith, (inside_is (search_of b c.args.input.now) c.args.input.now.position (c.requires.inside b)).1)

pub returns-in_err-begin-clause-last : goal.returns-in_err-begin-clause-last
returns-in_err-begin-clause-last g c = λ b. top_within c.args.program.now (search_of b c.args.input.now) c.args.blocks.now (c.requires.blocks b)

pub returns-in_err-met-clause-bound : goal.returns-in_err-met-clause-bound
returns-in_err-met-clause-bound g c = λ b.
    let inv = c.loop-met.invariant in
    omega (arith, inv.counted, c.step.ensures.counted, (inside_is (search_of b c.args.input.now) c.loop-met.input.position (inv.inside b)).1)

pub returns-in_err-met-clause-last : goal.returns-in_err-met-clause-last
returns-in_err-met-clause-last g c = λ b. top_within c.args.program.now (search_of b c.args.input.now) c.loop-met.blocks (c.loop-met.invariant.blocks b)

pub returns-then-not-advance-clause-bound : goal.returns-then-not-advance-clause-bound
returns-then-not-advance-clause-bound g c = λ b.
    let inv = c.loop-met.invariant in
    omega (arith, inv.counted, c.step.ensures.counted, (inside_is (search_of b c.args.input.now) c.loop-met.input.position (inv.inside b)).1)

pub returns-then-not-advance-clause-last : goal.returns-then-not-advance-clause-last
returns-then-not-advance-clause-last g c = λ b. top_within c.args.program.now (search_of b c.args.input.now) c.loop-met.blocks (c.loop-met.invariant.blocks b)

pub returns-in_err-come_to-clause-bound : goal.returns-in_err-come_to-clause-bound
returns-in_err-come_to-clause-bound g c = λ b.
    let inv = c.loop-met.invariant in
    omega (arith, inv.counted, c.step.ensures.counted, c.come_to.ensures.counted, (inside_is (search_of b c.args.input.now) c.loop-met.input.position (inv.inside b)).1)

pub returns-in_err-come_to-clause-last : goal.returns-in_err-come_to-clause-last
returns-in_err-come_to-clause-last g c = λ b. omega (arith, c.come_to.ensures.last, (c.loop-met.invariant.blocks b).last_is)

pub returns-in_default-clause-bound : goal.returns-in_default-clause-bound
returns-in_default-clause-bound g c = λ b.
    let inv = c.loop-met.invariant in
    omega (arith, inv.counted, c.step.ensures.counted, c.come_to.ensures.counted, (inside_is (search_of b c.args.input.now) c.loop-met.input.position (inv.inside b)).1)

pub returns-in_default-clause-last : goal.returns-in_default-clause-last
returns-in_default-clause-last g c = λ b. omega (arith, c.come_to.ensures.last, (c.loop-met.invariant.blocks b).last_is)

pub returns-in_err-go_on-clause-bound : goal.returns-in_err-go_on-clause-bound
returns-in_err-go_on-clause-bound g c = λ b.
    let inv = c.loop-met.invariant in
    omega (arith, inv.counted, c.step.ensures.counted, c.come_to.ensures.counted, (inside_is (search_of b c.args.input.now) c.loop-met.input.position (inv.inside b)).1)

pub returns-in_err-go_on-clause-last : goal.returns-in_err-go_on-clause-last
returns-in_err-go_on-clause-last g c = λ b. omega (arith, c.come_to.ensures.last, (c.loop-met.invariant.blocks b).last_is)
