use Rattle.std.proofs.Common.{◌+◌, length, reverse, refl, sym, ap, ap₂, subst, ◌∙◌}
use Rattle.std.proofs.lemmas.List.{reverse-append}
use Rattle.rx_grammar.specs.Heads.{capture_of}
use Rattle.rx_grammar.specs.Resuming.{no_level}
use Rattle.rx_grammar.specs.Places.{IsLevel, Surround, further, opened_at}
use Rattle.rx_grammar.proofs.PlaceLaws.{level_none, opened_by}
use Rattle.rx_grammar.proofs.parser.Parser.open.Goals as goal

pub returns-clause-opens : goal.returns-clause-opens
returns-clause-opens c = λ place stands.
    let k = capture_of c.args.captures in
    let trees = stands.trees in
    let height = c.height-height.ensures ∙ ap length stands.trees_are in
    let groups = ap₂ (λ a b. a + b) stands.groups c.count.ensures ∙ sym (opened_by place.groups k) in
    let turned = ap reverse c.in_ok-push.ensures.items ∙ reverse-append c.args.self.now.around.items _ in
    record {
      trees = trees;
      below = trees;
      trees_are = stands.trees_are;
      level = subst (λ x. IsLevel x no_level trees trees) (sym c.replace.ensures.after) (level_none trees c.height-height.result height);
      settings = c.replace-2.ensures.after;
      groups = groups;
      around = subst (λ x. Surround x (opened_at place c.args.config k).around trees) (sym turned)
          (further (subst (λ x. IsLevel x place.level trees stands.below) (sym c.replace.ensures.value) stands.level) (c.replace-2.ensures.value ∙ stands.settings) groups refl stands.around);
    }
