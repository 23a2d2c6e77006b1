use Rattle.std.proofs.Common.{map, sym, subst}
use Rattle.rx_grammar.specs.Postorder.{tree_of}
use Rattle.rx_engine.specs.Engines.{no_memory}
use Rattle.regex_cursor.specs.Regexes.{TreesAreRefused}
use Rattle.regex_cursor.proofs.BuildLaws.{if_err}
use Rattle.regex_cursor.proofs.engines.meta.builder.Builder.build_many_from_hir.Goals as goal

pub returns-clause-refused : goal.returns-clause-refused
returns-clause-refused c =
    let trees = map (λ hir. tree_of hir.now) c.args.hirs.now in
    if_err c.regex_of.result (λ error is. subst (λ e. TreesAreRefused trees c.args.self.now.settings e) (sym is) no_memory) c.regex_of.ensures.refused
