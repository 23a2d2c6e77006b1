use Rattle.std.proofs.Common.{map}
use Rattle.rx_util.specs.Groups.{named_groups}
use Rattle.rx_grammar.specs.Postorder.{tree_of}
use Rattle.rx_engine.proofs.BuildLaws.{if_ok}
use Rattle.rx_engine.proofs.GroupLaws.{distinct_names}
use Rattle.rx_engine.proofs.groups.groups_of.Goals as goal

pub noted-requires : goal.noted-requires
noted-requires c =
    let trees = map (λ hir. tree_of hir.now) c.args.hirs.now in
    record { distinct = distinct_names trees (named_groups c.in_ok-all_names.field-0.items) c.in_ok-all_names.ensures.well_formed c.in_ok-all_names.ensures.groups }

pub returns-clause-groups : goal.returns-clause-groups
returns-clause-groups c =
    if_ok c.noted.result (λ groups is. record {
      all_groups = named_groups c.in_ok-all_names.field-0.items;
      are_groups = c.in_ok-all_names.ensures.groups;
      noted = is;
    }) c.noted.ensures
