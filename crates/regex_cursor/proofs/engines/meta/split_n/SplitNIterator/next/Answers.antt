use Rattle.std.proofs.Common.{◌≡◌, ◌+◌, ◌-◌, Some, None, Ok, refl, sym, subst, arith}
use Rattle.rx_chunk.specs.Engines.{EngineFinds}
use Rattle.regex_cursor.specs.Splitting.{regex_in, left_in}
use Rattle.regex_cursor.specs.SplittingFew.{SplitsFew, enough, some, over, last_one}
use Rattle.regex_cursor.proofs.engines.meta.split_n.SplitNIterator.next.Goals as goal

pub returns-then-self-eq0-clause-steps : goal.returns-then-self-eq0-clause-steps
returns-then-self-eq0-clause-steps g c =
    let m = c.args.self.now.splitter in
    let i = c.args.self.now.input in
    record { next = subst (λ k. SplitsFew (EngineFinds (regex_in m).engine) (left_in m i) (left_in m i) k k None) (sym c.if-self-eq0.true) (enough refl); same_regex = refl }

pub returns-then-self-gt0-clause-steps : goal.returns-then-self-gt0-clause-steps
returns-then-self-gt0-clause-steps g c =
    let m = c.args.self.now.splitter in
    let i = c.args.self.now.input in
    let limit = c.args.self.now.limit - 1 in
    let one_more : limit + 1 ≡ c.args.self.now.limit = omega (arith, c.if-self-gt0.true) in
    record {
      next = subst (λ k. SplitsFew (EngineFinds (regex_in m).engine) (left_in m i) (left_in c.next.new.self c.next.new.input) k limit c.next.result) one_more (some c.if-self-gt0.true c.next.ensures.next);
      same_regex = c.next.ensures.same_regex;
    }

pub returns-then-self-clause-steps : goal.returns-then-self-clause-steps
returns-then-self-clause-steps g c =
    let m = c.args.self.now.splitter in
    let i = c.args.self.now.input in
    let one : 1 ≡ c.args.self.now.limit = omega (arith, c.if-self-eq0.false, c.if-self-gt0.false) in
    record { next = subst (λ k. SplitsFew (EngineFinds (regex_in m).engine) (left_in m i) (left_in m i) k (k - 1) None) one (over c.if-self.true refl); same_regex = refl }

pub returns-in-Some-clause-steps : goal.returns-in-Some-clause-steps
returns-in-Some-clause-steps g c =
    let m = c.args.self.now.splitter in
    let i = c.args.self.now.input in
    let one : 1 ≡ c.args.self.now.limit = omega (arith, c.if-self-eq0.false, c.if-self-gt0.false) in
    record {
      next = subst (λ k. SplitsFew (EngineFinds (regex_in m).engine) (left_in m i) (left_in c.rest.new.self c.rest.new.input) k (k - 1) (Some (Ok c.in-Some.part))) one
          (last_one {part = Some c.in-Some.part} c.if-self.false c.in-Some.ensures.rest c.in-Some.ensures.left);
      same_regex = c.in-Some.ensures.same_regex;
    }

pub returns-in-None-clause-steps : goal.returns-in-None-clause-steps
returns-in-None-clause-steps g c =
    let m = c.args.self.now.splitter in
    let i = c.args.self.now.input in
    let one : 1 ≡ c.args.self.now.limit = omega (arith, c.if-self-eq0.false, c.if-self-gt0.false) in
    record {
      next = subst (λ k. SplitsFew (EngineFinds (regex_in m).engine) (left_in m i) (left_in c.rest.new.self c.rest.new.input) k (k - 1) None) one
          (last_one {part = None} c.if-self.false c.in-None.ensures.rest c.in-None.ensures.left);
      same_regex = c.in-None.ensures.same_regex;
    }
