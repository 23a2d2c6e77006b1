use Rattle.std.proofs.Common.{◌+◌, ◌-◌, ◌^◌, min, length, refl, ap, ◌∙◌, arith}
use Rattle.rx_grammar.specs.declared.hir.Node.TheVariants as node
use Rattle.rx_grammar.specs.Postorder.{trees_of}
use Rattle.rx_grammar.proofs.ShorterLaws.{postfix_shorter}
use Rattle.rx_grammar.proofs.PlaceLaws.{held-next}
use Rattle.rx_grammar.proofs.StackLaws.{PostfixesSoFar-none, PostfixesSoFar-more, PostfixesSoFar-end, PostfixesSoFar-none_here, over_one}
use Rattle.rx_grammar.proofs.trees.TreeStack.read_postfixes.Goals as goal

pub returns-in_default : goal.returns-in_default
returns-in_default c = record {
  reads = λ tree below deep e kept.
      let so_far = c.loop-rest.invariant.so_far tree below deep e kept in
      PostfixesSoFar-none_here so_far.1.1 (rw c.loop-rest-test.true at c.begins_postfix.ensures) c.in_default.ensures;
}

pub loop-rest-smaller : goal.loop-rest-smaller
loop-rest-smaller c = postfix_shorter c.in-Some.ensures

pub loop-rest-preserved : goal.loop-rest-preserved
loop-rest-preserved c =
    let inv = c.loop-rest.invariant in
    record {
      tree = omega (arith, ap length c.in_ok-push.ensures, over_one (trees_of c.loop-rest.self) (node.Repeat c.in-Some.repetition) tt inv.tree, inv.tree);
      so_far = λ tree below deep e kept.
          let so_far = inv.so_far tree below deep e kept in (
            so_far.0 + 1,
            (
              c.saturating_add-depth.ensures ∙ ap (λ n. min (n + 1) (2 ^ 64 - 1)) so_far.1.0 ∙ held-next so_far.0,
              PostfixesSoFar-more so_far.1.1 c.in-Some.ensures refl c.in_ok-push.ensures,
            ),
          );
    }

pub returns : goal.returns
returns c = record {
  reads = λ tree below deep e kept.
      let so_far = c.loop-rest.invariant.so_far tree below deep e kept in
      PostfixesSoFar-end so_far.1.1 (rw c.loop-rest-test.false at c.begins_postfix.ensures) so_far.1.0;
}

pub loop-rest-init : goal.loop-rest-init
loop-rest-init c = record {
  tree = c.requires.tree;
  so_far = λ tree below deep e kept. (deep, (kept, PostfixesSoFar-none _ tree _ _ _ below e));
}
