use Rattle.std.proofs.Common.{◌≡◌, Some, slice_get, sym, subst}
use Rattle.rx_dfa.specs.Automata.{directed}
use Rattle.rx_dfa.specs.Caches.{LeadsTo}
use Rattle.rx_dfa.specs.DenseTables.{IsClosedOf}
use Rattle.rx_dfa.specs.Alphabets.{ahead_in}
use Rattle.rx_dfa.proofs.DenseLaws.{known_leads}
use Rattle.rx_dfa.proofs.dense_table.DenseTable.step.Goals as goal

pub returns : goal.returns
returns c = λ x stands.
    let p = directed c.args.automaton.now in
    let alphabet = c.args.automaton.now.alphabet.now in
    let cache = c.self.inside.cache in
    let view : cache ≡ c.args.self.now = c.self.view_is in
    subst (λ v. LeadsTo p alphabet v.states x (ahead_in alphabet c.args.column) c.number_at.result) view
    (known_leads p alphabet cache c.args.number c.args.column c.entry-entry.result c.number_at.result x (subst (λ v. IsClosedOf p alphabet v) (sym view) c.requires.closed) (subst (λ v. slice_get v.states c.args.number ≡ Some x) (sym view) stands) c.requires.column
    c.entry-entry.ensures c.if-entry.false c.number_at.ensures.plain c.number_at.ensures.ends c.number_at.ensures.over)
