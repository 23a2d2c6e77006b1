use Rattle.std.proofs.Common.{◌≡◌, ℕ, ◌∷◌, ◌++◌, List, [], length, sym, ap, ap₂, subst, ◌∙◌}
use Rattle.rx_walks.specs.Machines.{Machine}
use Rattle.rx_steps.specs.Nodes.{widths_of}
use Rattle.rx_steps.specs.Threads.{Slots, Thread, first_node}
use Rattle.rx_steps.specs.Lists.{AreUnderWay, AreFollowed}
use Rattle.rx_steps.proofs.stepper.Closure.follow.Goals as goal

-- a new thread: none waits
begin : (m : Machine (ℕ × ℕ) Slots) (i : ℕ) (threads : List Thread) (widths ids : List ℕ) (n slots : Slots) (q : ℕ × ℕ) (waits others out : List Thread) → slots ≡ n → waits ≡ []
    → AreUnderWay m i threads widths ids ((n, q) ∷ others) out → AreUnderWay m i threads widths ids ((slots, q) ∷ waits ++ others) out
begin m i threads widths ids n slots q waits others out e f way = subst (λ xs. AreUnderWay m i threads widths ids xs out) (sym (ap₂ (λ s ws. (s, q) ∷ ws ++ others) e f)) way

-- a thread that waited
resume : (m : Machine (ℕ × ℕ) Slots) (i : ℕ) (threads : List Thread) (widths ids : List ℕ) (slots : Slots) (s : ℕ) (q : ℕ × ℕ) (waits rest others out : List Thread) → waits ≡ (slots, first_node s) ∷ rest → q ≡ (s, 0)
    → AreUnderWay m i threads widths ids (waits ++ others) out → AreUnderWay m i threads widths ids ((slots, q) ∷ rest ++ others) out
resume m i threads widths ids slots s q waits rest others out e f way =
    subst (λ x. AreUnderWay m i threads widths ids ((slots, x) ∷ rest ++ others) out) (sym f)
    (subst (λ ws. AreUnderWay m i threads widths ids (ws ++ others) out) e way)

pub returns-in-Some-clause-followed : goal.returns-in-Some-clause-followed
returns-in-Some-clause-followed c = λ m i threads others moves way.
    let widths = widths_of c.args.program.now in
    subst (λ met. AreFollowed m i threads widths c.enter.new.self.visited.ids (c.enter.new.self.pending.threads ++ others) c.enter.new.next.threads c.enter.new.self.pending.slots met) c.in-Some.is
    (c.in_ok-pattern.ensures.followed m i threads others moves
    (begin m i threads widths c.args.self.now.visited.ids c.args.slots.now c.begin.new.self.slots c.args.node c.begin.new.self.threads others c.args.next.now.threads c.in_ok-begin.ensures.slots c.in_ok-begin.ensures.threads way))

pub loop-state-init : goal.loop-state-init
loop-state-init c = record {
  followed = λ m i threads others moves way.
      let widths = widths_of c.args.program.now in
      subst (λ met. AreFollowed m i threads widths c.enter.new.self.visited.ids (c.enter.new.self.pending.threads ++ others) c.enter.new.next.threads c.enter.new.self.pending.slots met) c.in_default.is
      (c.in_ok-pattern.ensures.followed m i threads others moves
      (begin m i threads widths c.args.self.now.visited.ids c.args.slots.now c.begin.new.self.slots c.args.node c.begin.new.self.threads others c.args.next.now.threads c.in_ok-begin.ensures.slots c.in_ok-begin.ensures.threads way));
  threads = λ all. c.in_ok-pattern.ensures.threads all;
  widths = c.in_ok-pattern.ensures.widths;
  slots = c.in_ok-pattern.ensures.slots ∙ ap (λ xs. length xs) c.in_ok-begin.ensures.slots ∙ c.requires.slots ∙ sym c.in_ok-pattern.ensures.slot_len;
  slot_len = c.in_ok-pattern.ensures.slot_len;
  counted = c.in_ok-pattern.ensures.counted;
  room = c.in_ok-pattern.ensures.room;
}

pub returns-in-Some-2-clause-followed : goal.returns-in-Some-2-clause-followed
returns-in-Some-2-clause-followed c = λ m i threads others moves way.
    let widths = widths_of c.args.program.now in
    subst (λ met. AreFollowed m i threads widths c.enter-in-Some-pop.new.self.visited.ids (c.enter-in-Some-pop.new.self.pending.threads ++ others) c.enter-in-Some-pop.new.next.threads c.enter-in-Some-pop.new.self.pending.slots met) c.in-Some-2.is
    (c.in_ok-pattern-2.ensures.followed m i threads others moves
    (resume m i threads widths c.loop-state.self.visited.ids c.pop.new.self.slots c.in-Some-pop.state c.first.result c.loop-state.self.pending.threads c.pop.new.self.threads others c.loop-state.next.threads c.in-Some-pop.ensures.next c.first.ensures
    (c.loop-state.invariant.followed m i threads others moves way)))
