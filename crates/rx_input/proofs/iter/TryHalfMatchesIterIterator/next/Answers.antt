use Rattle.std.proofs.Common.{◌<◌, true, inl, inr, refl, sym, subst}
use Rattle.std.specs.Iterator.{size}
use Rattle.rx_input.specs.Searchers.{finder_of, half_matches_left}
use Rattle.rx_input.proofs.SearcherLaws.{half_fewer, some_left}
use Rattle.rx_input.proofs.iter.TryHalfMatchesIterIterator.next.Goals as goal

-- ---- it has ended
pub returns-then-self-clause-steps : goal.returns-then-self-clause-steps
returns-then-self-clause-steps g c = (inl c.if-self.true, c.if-self.true)

-- ---- a half match
pub returns-in-Ok-Some-clause-steps : goal.returns-in-Ok-Some-clause-steps
returns-in-Ok-Some-clause-steps g c = (c.if-self.false, rw c.in-Ok-Some.field-0-is at c.in-Ok-Some.ensures.advances, c.if-self.false)

pub returns-in-Ok-Some-clause-goes : goal.returns-in-Ok-Some-clause-goes
returns-in-Ok-Some-clause-goes g c =
    let tells = finder_of g.F.FnMut g.I.Searched.state in
    let old = c.args.self.now.searcher in
    let new = c.advance_half_by.new.self in
    let p = c.args.self.now.finder in
    let q = c.advance_half_by.new.finder in
    let a = c.in-Ok-Some.found in
    let advances = rw c.in-Ok-Some.field-0-is at c.in-Ok-Some.ensures.advances in
    let fewer = half_fewer tells p q old new a c.requires.inside advances in
    record {
      on = λ _. (c.in-Ok-Some.ensures.finder, tt, subst (λ b. size (half_matches_left new b) < size (half_matches_left old b)) (sym c.if-self.false) fewer);
      keeps = c.in-Ok-Some.ensures.finder;
      rests = λ _. tt;
    }

-- ---- none is found
pub returns-in-Ok-None-clause-steps : goal.returns-in-Ok-None-clause-steps
returns-in-Ok-None-clause-steps g c = (inr (rw c.in-Ok-None.field-0-is at c.in-Ok-None.ensures.advances), refl)

-- ---- an error
pub returns-in-Err-clause-steps : goal.returns-in-Err-clause-steps
returns-in-Err-clause-steps g c = (c.if-self.false, c.in-Err.ensures.advances, refl)

pub returns-in-Err-clause-goes : goal.returns-in-Err-clause-goes
returns-in-Err-clause-goes g c =
    let old = c.args.self.now.searcher in
    let new = c.advance_half_by.new.self in
    record {
      on = λ _. (c.in-Err.ensures.finder, tt, subst (λ b. size (half_matches_left new true) < size (half_matches_left old b)) (sym c.if-self.false) (some_left old new));
      keeps = c.in-Err.ensures.finder;
      rests = λ _. tt;
    }
