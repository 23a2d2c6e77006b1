use Rattle.rx_lists.proofs.pass_back.PassBack.forget_if_full.Goals as goal

pub returns-clause-ready : goal.returns-clause-ready
returns-clause-ready c = λ p ready. record {
  order_is = ready.order_is;
  index_is = ready.index_is;
  arrivals = ready.arrivals;
  looks = ready.looks;
  told = λ none. c.clear.ensures.told p;
  numbered = tt;
  here_are = ready.here_are;
  beyond_are = ready.beyond_are;
}
