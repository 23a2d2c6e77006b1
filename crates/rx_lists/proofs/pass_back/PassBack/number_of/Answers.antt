use Rattle.std.proofs.Common.{◌≡◌, Some, slice_get}
use Rattle.rx_lists.proofs.KnownLaws.{if_some}
use Rattle.rx_lists.proofs.pass_back.PassBack.number_of.Goals as goal

pub returns-clause-ready : goal.returns-clause-ready
returns-clause-ready c = λ p ready. record {
  order_is = ready.order_is;
  index_is = ready.index_is;
  arrivals = ready.arrivals;
  looks = ready.looks;
  told = λ none. c.number_of.ensures.told p (ready.told none);
  numbered = if_some c.args.self.now.number (λ n. slice_get c.args.self.now.known.sets n ≡ Some c.args.self.now.set.value) (λ n. slice_get c.number_of.new.self.sets n ≡ Some c.args.self.now.set.value)
      (λ n at. c.number_of.ensures.kept n c.args.self.now.set.value at) ready.numbered;
  here_are = ready.here_are;
  beyond_are = ready.beyond_are;
}
