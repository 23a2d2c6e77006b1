use Rattle.std.proofs.Common.{◌≡◌, ◌∷◌, refl, ap, subst, ◌∙◌}
use Rattle.rx_grammar.specs.Repetitions.{Postfixes}
use Rattle.rx_grammar.proofs.PlaceLaws.{level_item}
use Rattle.rx_grammar.proofs.parser.Parser.finish_item.Goals as goal

pub returns : goal.returns
returns c = record {
  reads = λ place tree deep stands kept.
      let read = c.in_ok-deep.ensures.reads tree stands.trees deep stands.trees_are kept in
      let swap : c.get_swap_greed-swap_greed.result ≡ place.settings.swap_greed = c.get_swap_greed-swap_greed.ensures ∙ ap (λ s. s.swap_greed) stands.settings in
      record {
        made = read.made;
        deep = read.deep;
        postfixes = subst (λ b. Postfixes b tree deep c.args.text.now read.made read.deep c.in_ok-deep.rest.now) swap read.postfixes;
        stands = record {
          trees = read.made ∷ stands.trees;
          below = stands.below;
          trees_are = read.trees_are;
          level = level_item read.made read.deep stands.level refl refl c.max-self.ensures read.kept_is;
          settings = stands.settings;
          groups = stands.groups;
          around = stands.around;
        };
        groups = refl;
      };
}
