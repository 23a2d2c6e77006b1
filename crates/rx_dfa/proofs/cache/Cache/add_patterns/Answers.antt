use Rattle.std.proofs.Common.{inl, inr, ◌≡◌, Some, length, get_or, slice_get, ap, subst, ◌∙◌, arith}
use Rattle.std.proofs.lemmas.Option.{get_or_from_slice_get, slice_get_within}
use Rattle.rx_dfa.specs.Automata.{directed}
use Rattle.rx_dfa.specs.DenseTables.{HasStartsFrom}
use Rattle.rx_dfa.proofs.ClassLaws.{same_or_not}
use Rattle.rx_dfa.proofs.DenseLaws.{starts_from_still}
use Rattle.rx_dfa.proofs.cache.Cache.add_patterns.Goals as goal

pub loop-start-init : goal.loop-start-init
loop-start-init c = record { made = c.requires.made; starts = λ k q lt at. absurd (omega (arith, lt)) }

pub loop-start-preserved : goal.loop-start-preserved
loop-start-preserved c =
    let p = directed c.args.automaton.now in
    let alphabet = c.args.automaton.now.alphabet.now in
    let states = c.add_sides.new.self.states in
    let index = c.loop-start.start-index in
    record {
      made = c.add_sides.ensures.made;
      starts = λ k q lt at. elim (same_or_not k index) [
        | inl e ↦
            let item = c.start-item.result in
            let here : item ≡ q = c.start-item.is ∙ ap (λ xs. get_or xs index item) c.patterns-start-items.ensures ∙ get_or_from_slice_get p.bytes.patterns index q item (subst (λ j. slice_get p.bytes.patterns j ≡ Some q) e at) in
            subst (λ r. HasStartsFrom p alphabet states r) here c.in_ok-add_sides.ensures.starts
        | inr other ↦ starts_from_still p alphabet c.loop-start.self.states states q c.in_ok-add_sides.ensures.kept (c.loop-start.invariant.starts k q (omega (arith, lt, other)) at)
      ];
    }

pub returns-clause-starts : goal.returns-clause-starts
returns-clause-starts c = λ k q at. c.loop-start.invariant.starts k q (omega (arith, slice_get_within (directed c.args.automaton.now).bytes.patterns k q at, c.loop-start-test.false, ap (λ xs. length xs) c.patterns-start-items.ensures)) at
