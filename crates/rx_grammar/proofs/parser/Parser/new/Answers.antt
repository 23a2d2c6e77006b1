use Rattle.std.proofs.Common.{[], reverse, refl, sym, ap, subst}
use Rattle.rx_grammar.specs.Places.{Surround, outermost}
use Rattle.rx_grammar.proofs.PlaceLaws.{level_none}
use Rattle.rx_grammar.proofs.parser.Parser.new.Goals as goal

pub returns-clause-stands : goal.returns-clause-stands
returns-clause-stands c = record {
  trees = [];
  below = [];
  trees_are = c.new-2.ensures;
  level = level_none [] 0 refl;
  settings = c.copied.ensures;
  groups = refl;
  around = subst (λ x. Surround x [] []) (sym (ap reverse c.new.ensures.items)) outermost;
}
