use Rattle.std.proofs.Common.{Err, map, ap, sym, subst, ◌∙◌}
use Rattle.std.proofs.lemmas.Result.{err_from_is_err_and}
use Rattle.rx_grammar.specs.Postorder.{tree_of}
use Rattle.rx_program.specs.declared.error.BuildError.TheVariants as build
use Rattle.rx_program.specs.Sizes.{IsTooLarge, told_limit, weight_of_all}
use Rattle.rx_program.specs.Programs.{character_program}
use Rattle.rx_engine.specs.Engines.{AreRefused, IsBuiltOfTrees, no_memory}
use Rattle.rx_engine.proofs.BuildLaws.{AreOfTrees, Beside, IsAsSet, built, engine_of, not_refused, of_trees, refused_trees}
use Rattle.rx_engine.proofs.builder.Builder.build_many_from_hir.Goals as goal

pub returns-in_err-groups-clause-refused : goal.returns-in_err-groups-clause-refused
returns-in_err-groups-clause-refused c =
    let p = err_from_is_err_and c.from_residual.result c.from_residual.ensures.1 in
    rw (p.1, p.2) no_memory

pub returns-in_err-program-clause-refused : goal.returns-in_err-program-clause-refused
returns-in_err-program-clause-refused c =
    let p = err_from_is_err_and c.from_residual-in_err-program.result c.from_residual-in_err-program.ensures.1 in
    let trees = map (λ hir. tree_of hir.now) c.args.hirs.now in
    let error = c.in_err-program.field-0.0 in
    let settings = c.self.inside.config in
    let refused : AreRefused trees settings error =
    refused_trees trees settings error c.get_nfa_size_limit-limit.result c.get_nfa_size_limit-limit.ensures (λ is. c.in_err-program.ensures.size.0 (ap (λ e. Err e) is)) c.in_err-program.ensures.errors in
    rw (p.1, p.2) (subst (λ w. AreRefused trees w.settings error) c.self.view_is refused)

pub returns-in_err-shared-clause-refused : goal.returns-in_err-shared-clause-refused
returns-in_err-shared-clause-refused c =
    let p = err_from_is_err_and c.from_residual-in_err-shared.result c.from_residual-in_err-shared.ensures.1 in
    rw (p.1, p.2) no_memory

pub invariant_of-result : goal.invariant_of-result
invariant_of-result c =
    let trees = map (λ hir. tree_of hir.now) c.args.hirs.now in
    let p = c.in_ok-shared.field-0.value in
    let is = ap character_program c.in_ok-shared.ensures ∙ c.in_ok-program.ensures.program in
    let beside : Beside = record {
      match_kind = c.get_match_kind.result;
      groups = c.in_ok-groups.groups;
      which_captures = c.get_which_captures-which_captures.result;
      captures_len = c.in-Some.captures_len;
      static_captures_len = c.static_captures_len.result;
      utf8_empty = c.get_utf8_empty.result;
    } in
    let are : AreOfTrees trees beside = record { well_formed = c.in_ok-groups.ensures.well_formed; groups = c.in_ok-groups.ensures.groups; captures_len = c.in-Some.ensures; static_captures_len = c.static_captures_len.ensures } in
    (trees, of_trees p beside trees c.get_line_terminator-terminator.result are is)

pub returns-clause-built : goal.returns-clause-built
returns-clause-built c =
    let trees = map (λ hir. tree_of hir.now) c.args.hirs.now in
    let p = c.in_ok-shared.field-0.value in
    let is = ap character_program c.in_ok-shared.ensures ∙ c.in_ok-program.ensures.program in
    let beside : Beside = record {
      match_kind = c.get_match_kind.result;
      groups = c.in_ok-groups.groups;
      which_captures = c.get_which_captures-which_captures.result;
      captures_len = c.in-Some.captures_len;
      static_captures_len = c.static_captures_len.result;
      utf8_empty = c.get_utf8_empty.result;
    } in
    let are : AreOfTrees trees beside = record { well_formed = c.in_ok-groups.ensures.well_formed; groups = c.in_ok-groups.ensures.groups; captures_len = c.in-Some.ensures; static_captures_len = c.static_captures_len.ensures } in
    let as_set : IsAsSet c.self.inside.config beside =
    record { match_kind = c.get_match_kind.ensures; utf8_empty = c.get_utf8_empty.ensures; which_captures = c.get_which_captures-which_captures.ensures } in
    subst (λ w. IsBuiltOfTrees trees w.settings (engine_of p beside)) c.self.view_is
    (built c.self.inside.config p beside trees c.get_line_terminator-terminator.result are as_set
    (λ large. let limit = c.get_nfa_size_limit-limit.result in
    not_refused c.in_ok-program.program (build.Size (told_limit limit)) (c.in_ok-program.ensures.size.1 (subst (λ l. IsTooLarge l (weight_of_all trees)) (sym c.get_nfa_size_limit-limit.ensures) large)))
    is c.get_line_terminator-terminator.ensures)

pub returns-in_default-clause-refused : goal.returns-in_default-clause-refused
returns-in_default-clause-refused c = no_memory
