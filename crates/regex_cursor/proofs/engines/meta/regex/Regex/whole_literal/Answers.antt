use Rattle.std.proofs.Common.{◌≡◌, Bor, List, ℕ, IfSome, ap, subst, ◌∙◌}
use Rattle.rx_program.specs.Programs.{character_program}
use Rattle.rx_util.specs.declared.search.MatchKind.TheVariants.{LeftmostFirst}
use Rattle.rx_literals.specs.Literals.{IsLiteralOf}
use Rattle.regex_cursor.specs.Regexes.{Engine, RegexView}
use Rattle.regex_cursor.specs.Strategies.{Engines}
use Rattle.regex_cursor.proofs.engines.meta.regex.Regex.whole_literal.Goals as goal

pub returns : goal.returns
returns c =
    let vm : c.deref.result.now.vm ≡ c.args.self.now.engine = ap (λ (e : Engines). e.vm) c.deref.ensures ∙ ap (λ (re : RegexView). re.engine) c.self.view_is in
    record {
      first = subst (λ (e : Engine). IfSome c.whole_literal.result (λ needle. e.match_kind ≡ LeftmostFirst)) vm c.whole_literal.ensures.first;
      is_literal = subst (λ (e : Engine). IfSome c.whole_literal.result (λ needle. IsLiteralOf needle.now (character_program e.program))) vm c.whole_literal.ensures.is_literal;
    }
