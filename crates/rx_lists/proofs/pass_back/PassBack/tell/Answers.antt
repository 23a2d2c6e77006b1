use Rattle.std.proofs.Common.{◌≡◌, IfSome, Some, slice_get, sym, subst, ◌∙◌}
use Rattle.rx_lists.specs.Known.{IsAlwaysBefore}
use Rattle.rx_lists.proofs.KnownLaws.{always_before, numbered_is, some_same}
use Rattle.rx_lists.proofs.pass_back.PassBack.tell.Goals as goal

pub returns-then-not-self-clause-ready : goal.returns-then-not-self-clause-ready
returns-then-not-self-clause-ready c = λ p ready before.
    let self = c.args.self.now in
    let number = c.in-Some-Some.number in
    let byte = c.in-Some-Some.byte in
    let at = numbered_is self.number number self.known.sets self.set.value c.in-Some-Some.is-0 ready.numbered in
    record {
      order_is = ready.order_is;
      index_is = ready.index_is;
      arrivals = ready.arrivals;
      looks = ready.looks;
      told = λ none. c.tell.ensures.told p (ready.told none) (λ beyond here from to.
          subst (λ words. IsAlwaysBefore p byte words here) (some_same (sym at ∙ from))
          (always_before p c.args.place.now byte self.set.value here (ready.looks none) c.in-Some-Some.is-1 (before here to)));
      numbered = subst (λ sets. IfSome self.number (λ n. slice_get sets n ≡ Some self.set.value)) (sym c.tell.ensures.sets) ready.numbered;
      here_are = ready.here_are;
      beyond_are = ready.beyond_are;
    }
