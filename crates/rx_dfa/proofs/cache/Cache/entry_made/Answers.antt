use Rattle.std.proofs.Common.{◌≡◌, true, false, List, length, refl, sym, ap, subst, ◌∙◌, arith}
use Rattle.std.proofs.lemmas.Option.{slice_get_within}
use Rattle.rx_dfa.specs.Automata.{directed}
use Rattle.rx_dfa.specs.declared.states.Ahead.{Ahead}
use Rattle.rx_dfa.specs.Behind.{quits}
use Rattle.rx_dfa.specs.Caches.{quit}
use Rattle.rx_dfa.specs.States.{IsStep}
use Rattle.rx_dfa.specs.Alphabets.{ahead_in}
use Rattle.rx_dfa.proofs.TableLaws.{entry_right, leads_to_found}
use Rattle.rx_dfa.proofs.DenseLaws.{grows_both, grows_none, grows_same, reached_rows}
use Rattle.rx_dfa.specs.declared.states.AutomatonState.{AutomatonState}
use Rattle.rx_dfa.specs.DenseTables.{no_more}
use Rattle.rx_dfa.proofs.cache.Cache.entry_made.Goals as goal

pub returns-then-quits_at-clause-grows : goal.returns-then-quits_at-clause-grows
returns-then-quits_at-clause-grows c = grows_none c.args.self.now

pub returns-then-quits_at-clause-entry : goal.returns-then-quits_at-clause-entry
returns-then-quits_at-clause-entry c = λ x stands.
    let alphabet = c.args.automaton.now.alphabet.now in
    let told : quits alphabet.asked (ahead_in alphabet c.args.column).seen ≡ true =
    sym (ap (λ (y : Ahead). quits alphabet.asked y.seen) c.ahead-ahead.ensures) ∙ sym c.quits_at.ensures ∙ c.if-quits_at.true in
    quit refl told

pub entry_to-requires-clause-next : goal.entry_to-requires-clause-next
entry_to-requires-clause-next c =
    let found = c.in_ok-next.ensures.number in
    slice_get_within c.found_or_added.new.self.states c.in_ok-next.next found.0 found.1

pub returns-clause-grows : goal.returns-clause-grows
returns-clause-grows c = grows_both c.args.self.now c.next_state.new.self c.found_or_added.new.self (grows_same c.args.self.now c.next_state.new.self c.next_state.ensures.states c.next_state.ensures.table) c.in_ok-next.ensures.grows

pub returns-clause-entry : goal.returns-clause-entry
returns-clause-entry c = λ x stands.
    let p = directed c.args.automaton.now in
    let alphabet = c.args.automaton.now.alphabet.now in
    let cache = c.found_or_added.new.self in
    let ahead = ahead_in alphabet c.args.column in
    let told : quits alphabet.asked ahead.seen ≡ false =
    sym (ap (λ (y : Ahead). quits alphabet.asked y.seen) c.ahead-ahead.ensures) ∙ sym c.quits_at.ensures ∙ c.if-quits_at.false in
    let step = subst (λ y. IsStep p alphabet.asked x y c.in-Ok.state) c.ahead-ahead.ensures (c.in-Ok.ensures.step x stands) in
    let to = leads_to_found p alphabet cache.states x c.in-Ok.state ahead c.in_ok-next.next step told c.in_ok-next.ensures.number in
    entry_right p alphabet cache.width cache.states x ahead c.in_ok-next.next c.entry_to.result to (c.entry_to.ensures to.next to.stands)

pub returns-then-quits_at-clause-rows : goal.returns-then-quits_at-clause-rows
returns-then-quits_at-clause-rows c = λ known. no_more (omega arith)

pub returns-clause-rows : goal.returns-clause-rows
returns-clause-rows c = λ known.
    let found = c.in_ok-next.ensures.number in
    reached_rows c.args.self.now c.found_or_added.new.self c.in_ok-next.next c.entry_to.result found.0 known (c.entry_to.ensures found.0 found.1)
    (omega (arith, c.in_ok-next.ensures.few, ap (λ (xs : List AutomatonState). length xs) c.next_state.ensures.states))
