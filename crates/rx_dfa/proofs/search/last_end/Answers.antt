use Rattle.std.proofs.Common.{◌≡◌, ◌<◌, true, length, Some, slice_get, sym, subst, ◌∙◌}
use Rattle.std.proofs.lemmas.Option.{slice_get_within}
use Rattle.rx_dfa.specs.Automata.{directed}
use Rattle.rx_dfa.specs.Behind.{quits}
use Rattle.rx_dfa.specs.Alphabets.{ahead_in}
use Rattle.rx_dfa.specs.Caches.{CacheView, LeadsTo}
use Rattle.rx_dfa.specs.Tables.{HasStepped}
use Rattle.rx_dfa.proofs.TableLaws.{there_is}
use Rattle.rx_dfa.proofs.search.last_end.Goals as goal

pub unreachable-requires : goal.unreachable-requires
unreachable-requires g c =
    let a = c.args.automaton.now in
    let here = there_is (g.T.Table.shown c.args.table.now).states c.args.number c.requires.number in
    let told : quits a.alphabet.now.asked (ahead_in a.alphabet.now c.args.column).seen ≡ true =
    subst (λ o. HasStepped a (g.T.Table.shown c.step.new.self).states here.0 c.args.column o) c.in-Ok-None.field-0-is (c.in-Ok-None.ensures.step here.0 here.1) in
    absurd (cc (sym told ∙ c.requires.goes_on))

pub end_before-requires : goal.end_before-requires
end_before-requires g c =
    let a = c.args.automaton.now in
    let states = (g.T.Table.shown c.step.new.self).states in
    let next = c.in-Ok-Some.next in
    let here = there_is (g.T.Table.shown c.args.table.now).states c.args.number c.requires.number in
    let to : LeadsTo (directed a) a.alphabet.now states here.0 (ahead_in a.alphabet.now c.args.column) next = subst (λ o. HasStepped a states here.0 c.args.column o) c.in-Ok-Some.field-0-is (c.in-Ok-Some.ensures.step here.0 here.1) in
    subst (λ (v : CacheView). next < length v.states) (sym c.known.ensures) (slice_get_within states next to.next to.stands)

pub returns-in-Ok-Some-clause-step : goal.returns-in-Ok-Some-clause-step
returns-in-Ok-Some-clause-step g c = λ x stands.
    let a = c.args.automaton.now in
    let states = (g.T.Table.shown c.step.new.self).states in
    let next = c.in-Ok-Some.next in
    let to : LeadsTo (directed a) a.alphabet.now states x (ahead_in a.alphabet.now c.args.column) next = subst (λ o. HasStepped a states x c.args.column o) c.in-Ok-Some.field-0-is (c.in-Ok-Some.ensures.step x stands) in
    record {
      next = to.next;
      step = to.step;
      ended_is = c.end_before.ensures to.next (subst (λ (v : CacheView). slice_get v.states next ≡ Some to.next) (sym c.known.ensures) to.stands);
    }
