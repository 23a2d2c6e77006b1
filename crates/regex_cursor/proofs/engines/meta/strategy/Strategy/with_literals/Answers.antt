use Rattle.std.proofs.Common.{◌≡◌, None, IfSome, false, ap, subst, ◌∙◌}
use Rattle.rx_program.specs.Programs.{character_program}
use Rattle.rx_literals.specs.Endings.{EndsWithSlice}
use Rattle.rx_dfa.specs.DenseTables.{IsClosedOf}
use Rattle.rx_dfa.specs.Directions.{forward}
use Rattle.regex_cursor.specs.Configs.{dfa_of}
use Rattle.regex_cursor.specs.Cores.{CoreView, IsCore}
use Rattle.regex_cursor.proofs.engines.meta.strategy.Strategy.with_literals.Goals as goal

pub invariant_of-result : goal.invariant_of-result
invariant_of-result c =
    let core = c.args.core.value in
    let closed = c.in_ok-closed.closed in
    let program : c.program.result.now ≡ core.vm.program = c.program.ensures ∙ ap (λ (x : CoreView). x.vm.program) c.deref.ensures in
    let again : c.program-2.result.now ≡ core.vm.program = c.program-2.ensures ∙ ap (λ (x : CoreView). x.vm.program) c.deref-4.ensures in
    let dfa : c.dfa.result.now ≡ core.dfa = c.dfa.ensures.dfa ∙ ap (λ (x : CoreView). x.dfa) c.deref-2.ensures in
    let config : c.config.result.now ≡ core.settings = c.config.ensures ∙ ap (λ (x : CoreView). x.settings) c.deref-3.ensures in
    let is : IsCore core = subst IsCore c.deref-2.ensures c.dfa.ensures.core in
    record {
      dfa = is.dfa;
      utf8_empty = is.utf8_empty;
      closed = subst (λ p. IfSome closed (IsClosedOf (forward p) core.dfa)) program
          (subst (λ d. IfSome closed (IsClosedOf (forward c.program.result.now) d)) dfa c.in_ok-closed.ensures.closed);
      literals = c.requires.literals;
      ends_last = λ told. subst (λ p. EndsWithSlice (character_program p)) again (c.in_ok-ends_last.ensures told);
      no_dfa = subst (λ s. dfa_of s ≡ false → closed ≡ None) config c.in_ok-closed.ensures.unwanted;
      no_prefilter = c.requires.unwanted;
    }
