use Rattle.std.proofs.Common.{[], arith, sym, subst, refl, ◌∙◌}
use Rattle.regex_cursor.specs.PatternLaws.{SaysOfText}
use Rattle.rope_search_reports.proofs.BareLemmas.{never-empty}
use Rattle.rope_search_reports.proofs.FinderLemmas.{short-none}
use Rattle.rope_search_reports.proofs.rows.engine.Finder.new.Goals as goal

pub returns-in-Err-Syntax-clause-no_pattern : goal.returns-in-Err-Syntax-clause-no_pattern
returns-in-Err-Syntax-clause-no_pattern c = λ told.
    short-none _ _ (omega (arith, c.if-pattern-gt-PATTERN_LEN.false)) (subst (SaysOfText c.args.pattern.now) c.in-Err-Syntax.field-0-is c.in-Err-Syntax.ensures.refused)

pub invariant_of-result : goal.invariant_of-result
invariant_of-result c = record {
  text = c.args.pattern.now;
  pattern_is = c.new-3.ensures;
  built = c.in-Ok.ensures.built;
  never_empty = λ yes.
      never-empty c.in-Ok.ensures.built.tree [] 0 0 c.no_match_before.result
      (sym c.is_some-is_never_empty.ensures ∙ yes) refl refl (c.no_match_before.ensures.no_match c.args.pattern.now c.in-Ok.ensures.built);
}
