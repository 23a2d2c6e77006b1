use Rattle.std.proofs.Common.{length, sym, ap, ◌∙◌, arith}
use Rattle.rx_grammar.specs.Resuming.{with_branch}
use Rattle.rx_grammar.proofs.PlaceLaws.{group_within}
use Rattle.rx_grammar.proofs.parser.Parser.end_level.Goals as goal

pub join_branches-requires : goal.join_branches-requires
join_branches-requires c =
    let s = c.in_ok-end_branch.ensures.ends c.requires.stands.0 c.requires.stands.1 in
    omega (arith, ap length s.trees_are, group_within s.level)

pub returns : goal.returns
returns c = record {
  ends = λ place stands.
      let s = c.in_ok-end_branch.ensures.ends place stands in
      record {
        below = s.below;
        trees_are = c.in_ok-join_branches.ensures (with_branch place.level).branches s.below (s.trees_are ∙ s.level.trees_are) (sym s.level.group_is);
        depth_is = s.level.depth_is;
        around = s.around;
        groups_are = s.groups;
        groups = c.in_ok-end_branch.ensures.kept;
      };
}
