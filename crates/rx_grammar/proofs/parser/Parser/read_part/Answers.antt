use Rattle.std.proofs.Common.{◌∷◌, ap, ◌∙◌}
use Rattle.rx_grammar.proofs.PlaceLaws.{branch_read}
use Rattle.rx_grammar.proofs.parser.Parser.read_part.Goals as goal

pub returns-in_ok-end_branch-in-124 : goal.returns-in_ok-end_branch-in-124
returns-in_ok-end_branch-in-124 c = record {
  reads = λ place stands.
      branch_read place (c.requires.text ∙ ap (λ x. x ∷ c.args.rest.now) c.in-124.is) (c.in_ok-end_branch-in-124.ensures.ends place stands)
      c.in_ok-end_branch-in-124.ensures.kept;
}
