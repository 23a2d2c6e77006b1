use Rattle.std.proofs.Common.{◌≡◌, true, false, slice_get, sym, ap, subst, ◌∙◌, arith}
use Rattle.std.proofs.lemmas.Option.{slice_get_within}
use Rattle.rx_dfa.specs.Automata.{directed}
use Rattle.rx_dfa.specs.declared.states.Ahead.{Ahead}
use Rattle.rx_dfa.specs.Behind.{quits}
use Rattle.rx_dfa.specs.States.{IsStep}
use Rattle.rx_dfa.specs.Alphabets.{ahead_in}
use Rattle.rx_dfa.specs.Caches.{CacheView, IsCacheOf, LeadsTo}
use Rattle.rx_dfa.proofs.TableLaws.{there_is, quit_set, same_bounded, step_set, leads_to_found}
use Rattle.rx_dfa.proofs.cache.Cache.make_step.Goals as goal
use Rattle.rx_dfa.proofs.cache.Cache.make_step.Goals.{then-not-was_cleared, else-not-was_cleared}

pub returns-then-quits_at-clause-made : goal.returns-then-quits_at-clause-made
returns-then-quits_at-clause-made c =
    let alphabet = c.args.automaton.now.alphabet.now in
    let told : quits alphabet.asked (ahead_in alphabet c.args.column).seen ≡ true =
    sym (ap (λ (y : Ahead). quits alphabet.asked y.seen) c.ahead-ahead.ensures) ∙ sym c.quits_at.ensures ∙ c.if-quits_at.true in
    record {
      steps = quit_set (directed c.args.automaton.now) alphabet c.args.self.now c.set_entry.new.self c.args.number c.args.column c.requires.made.steps c.requires.number c.requires.column told
          c.set_entry.ensures.table c.set_entry.ensures.states c.set_entry.ensures.widths c.set_entry.ensures.width c.set_entry.ensures.used;
      bounded = same_bounded alphabet.capacity c.args.self.now c.set_entry.new.self c.set_entry.ensures.states c.set_entry.ensures.used c.requires.made.bounded;
    }

pub entry_to-entry-requires-clause-next : goal.entry_to-entry-requires-clause-next
entry_to-entry-requires-clause-next c =
    let found = c.in_ok-next.ensures.number in
    slice_get_within c.number_of.new.self.states c.in_ok-next.next found.0 found.1

pub set_entry-requires-then-not-was_cleared-clause-number : goal.set_entry-requires-then-not-was_cleared-clause-number
set_entry-requires-then-not-was_cleared-clause-number c =
    let here = there_is c.args.self.now.states c.args.number c.requires.number in
    let still = c.in_ok-next.ensures.kept c.if-not-was_cleared.true c.args.number here.0 (ap (λ xs. slice_get xs c.args.number) c.next_state.ensures.states ∙ here.1) in
    slice_get_within c.number_of.new.self.states c.args.number here.0 still

pub returns-clause-made : goal.returns-clause-made
returns-clause-made c =
    let p = directed c.args.automaton.now in
    let alphabet = c.args.automaton.now.alphabet.now in
    let cache = c.number_of.new.self in
    let made = c.number_of.ensures.made in
    elim c.if-not-was_cleared.branch [
      | then-not-was_cleared w ↦
          let here = there_is c.args.self.now.states c.args.number c.requires.number in
          let still = c.in_ok-next.ensures.kept w.if-not-was_cleared.true c.args.number here.0 (ap (λ xs. slice_get xs c.args.number) c.next_state.ensures.states ∙ here.1) in
          let told : quits alphabet.asked (ahead_in alphabet c.args.column).seen ≡ false =
          sym (ap (λ (y : Ahead). quits alphabet.asked y.seen) c.ahead-ahead.ensures) ∙ sym c.quits_at.ensures ∙ c.if-quits_at.false in
          let step = subst (λ y. IsStep p alphabet.asked here.0 y c.in_ok-state.state) c.ahead-ahead.ensures (c.in_ok-state.ensures.step here.0 here.1) in
          let to = leads_to_found p alphabet cache.states here.0 c.in_ok-state.state (ahead_in alphabet c.args.column) c.in_ok-next.next step told c.in_ok-next.ensures.number in
          let entered = w.set_entry-then-not-was_cleared in
          subst (λ v. IsCacheOf p alphabet v) (sym w.self-is)
          (record {
            steps = step_set p alphabet cache entered.new.self c.args.number c.args.column c.in_ok-next.next w.entry_to-entry.result here.0 made.steps still (omega (arith, c.requires.column, c.requires.made.steps.width, made.steps.width)) to
                w.entry_to-entry.ensures entered.ensures.table entered.ensures.states entered.ensures.widths entered.ensures.width entered.ensures.used;
            bounded = same_bounded alphabet.capacity cache entered.new.self entered.ensures.states entered.ensures.used made.bounded;
          })
      | else-not-was_cleared w ↦ subst (λ v. IsCacheOf p alphabet v) (sym w.self-is) made
    ]

pub returns-clause-step : goal.returns-clause-step
returns-clause-step c = λ x stands.
    let p = directed c.args.automaton.now in
    let alphabet = c.args.automaton.now.alphabet.now in
    let cache = c.number_of.new.self in
    let told : quits alphabet.asked (ahead_in alphabet c.args.column).seen ≡ false =
    sym (ap (λ (y : Ahead). quits alphabet.asked y.seen) c.ahead-ahead.ensures) ∙ sym c.quits_at.ensures ∙ c.if-quits_at.false in
    let step = subst (λ y. IsStep p alphabet.asked x y c.in_ok-state.state) c.ahead-ahead.ensures (c.in_ok-state.ensures.step x stands) in
    let to : LeadsTo p alphabet cache.states x (ahead_in alphabet c.args.column) c.in_ok-next.next =
    leads_to_found p alphabet cache.states x c.in_ok-state.state (ahead_in alphabet c.args.column) c.in_ok-next.next step told c.in_ok-next.ensures.number in
    let same : c.if-not-was_cleared.self.states ≡ cache.states = elim c.if-not-was_cleared.branch [
      | then-not-was_cleared w ↦ ap (λ (v : CacheView). v.states) w.self-is ∙ w.set_entry-then-not-was_cleared.ensures.states
      | else-not-was_cleared w ↦ ap (λ (v : CacheView). v.states) w.self-is
    ] in
    subst (λ xs. LeadsTo p alphabet xs x (ahead_in alphabet c.args.column) c.in_ok-next.next) (sym same) to
