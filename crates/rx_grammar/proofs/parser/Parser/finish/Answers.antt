use Rattle.std.proofs.Common.{◌≡◌, ◌∷◌, length, vec_len, sym, ap, ◌∙◌, arith}
use Rattle.std.proofs.lemmas.Bool.{eqb-true, eqb-false}
use Rattle.rx_grammar.specs.Resuming.{tree_at}
use Rattle.rx_grammar.proofs.PlaceLaws.{no_arounds, some_arounds, nothing_below}
use Rattle.rx_grammar.proofs.PatternLaws.{group_open_at_end}
use Rattle.rx_grammar.proofs.parser.Parser.finish.Goals as goal

pub returns-then-not-is_empty : goal.returns-then-not-is_empty
returns-then-not-is_empty c = record {
  ends = λ place stands.
      let around = c.args.self.around in
      group_open_at_end place (some_arounds around.items (λ none. eqb-false (vec_len around) 0 (sym c.if-not-is_empty.ensures) (omega (arith, none, around.ok.0))) stands.around);
}

pub returns : goal.returns
returns c = record {
  ends = λ place stands.
      let around = c.args.self.around in
      let e = c.in_ok-end_level.ensures.ends place stands in
      let none : length around.items ≡ 0 = omega (arith, eqb-true (vec_len around) 0 (sym c.if-not-is_empty.ensures), around.ok.0) in
      let closed = no_arounds around.items none stands.around in
      record {
        nothing_open = closed;
        tree_is = e.trees_are ∙ ap (λ x. tree_at place.level ∷ x) (nothing_below e.around closed);
        depth_is = e.depth_is;
      };
}
