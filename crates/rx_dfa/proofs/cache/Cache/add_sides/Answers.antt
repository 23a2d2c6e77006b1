use Rattle.std.proofs.Common.{ap, subst, ◌∙◌, arith}
use Rattle.rx_dfa.specs.Automata.{directed}
use Rattle.rx_dfa.specs.Behind.{behind_of}
use Rattle.rx_dfa.specs.DenseTables.{HasStarts}
use Rattle.rx_dfa.proofs.TableLaws.{keep_all}
use Rattle.rx_dfa.proofs.DenseLaws.{starts_in_columns, starts_more}
use Rattle.rx_dfa.proofs.cache.Cache.add_sides.Goals as goal

pub loop-column-init : goal.loop-column-init
loop-column-init c = record { made = c.requires.made; kept = keep_all c.args.self.now.states; starts = λ k lt. absurd (omega (arith, lt)) }

pub loop-column-preserved : goal.loop-column-preserved
loop-column-preserved c =
    let p = directed c.args.automaton.now in
    let alphabet = c.args.automaton.now.alphabet.now in
    let side = c.side-side.ensures.side ∙ ap (λ o. behind_of alphabet.asked p.bytes.line_terminator o) c.byte.ensures in
    record {
      made = c.add_starts.ensures.made;
      kept = λ number x e. c.in_ok-add_starts.ensures.kept number x (c.loop-column.invariant.kept number x e);
      starts = starts_more p alphabet c.loop-column.self.states c.add_starts.new.self.states c.args.start c.loop-column.column c.in_ok-add_starts.ensures.kept c.loop-column.invariant.starts (subst (λ z. HasStarts p.is_back c.add_starts.new.self.states c.args.start z) side c.in_ok-add_starts.ensures.starts);
    }

pub returns-clause-starts : goal.returns-clause-starts
returns-clause-starts c = starts_in_columns (directed c.args.automaton.now) c.args.automaton.now.alphabet.now c.loop-column.self.states c.args.start c.requires.is (λ k lt. c.loop-column.invariant.starts k (omega (arith, lt, c.loop-column-test.false, c.column_count-column-end.ensures)))
