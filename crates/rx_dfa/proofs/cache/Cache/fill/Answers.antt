use Rattle.std.proofs.Common.{◌+◌, ◌*◌, arith}
use Rattle.std.proofs.lemmas.Option.{slice_get_within}
use Rattle.rx_dfa.specs.Automata.{directed}
use Rattle.rx_dfa.proofs.TableLaws.{there_is}
use Rattle.rx_dfa.proofs.DenseLaws.{entered, entered_known, grows_both, grows_entered, rows_as}
use Rattle.rx_dfa.proofs.cache.Cache.fill.Goals as goal

pub set_entry-requires-clause-number : goal.set_entry-requires-clause-number
set_entry-requires-clause-number c =
    let here = there_is c.args.self.now.states c.args.number c.requires.number in
    slice_get_within c.entry_made.new.self.states c.args.number here.0 (c.in_ok-entry.ensures.grows.numbers c.args.number here.0 here.1)

pub set_entry-requires-clause-column : goal.set_entry-requires-clause-column
set_entry-requires-clause-column c = omega (arith, c.requires.column, c.entry_made.ensures.made.width)

pub returns-clause-made : goal.returns-clause-made
returns-clause-made c =
    entered (directed c.args.automaton.now) c.args.automaton.now.alphabet.now c.args.self.now c.entry_made.new.self c.set_entry.new.self c.args.number c.args.column c.in_ok-entry.entry c.requires.made c.entry_made.ensures.made c.in_ok-entry.ensures.grows c.requires.number
    (omega (arith, c.requires.column, c.requires.made.width)) c.in_ok-entry.ensures.entry c.set_entry.ensures.table c.set_entry.ensures.states c.set_entry.ensures.widths c.set_entry.ensures.width c.set_entry.ensures.used

pub returns-clause-grows : goal.returns-clause-grows
returns-clause-grows c =
    let middle = c.entry_made.new.self in
    grows_both c.args.self.now middle c.set_entry.new.self c.in_ok-entry.ensures.grows
    (grows_entered middle c.set_entry.new.self (c.args.number * middle.width + c.args.column) c.in_ok-entry.entry c.if-entry.false c.set_entry.ensures.states c.set_entry.ensures.table)

pub returns-clause-known : goal.returns-clause-known
returns-clause-known c = λ e.
    entered_known (directed c.args.automaton.now) c.args.automaton.now.alphabet.now c.args.self.now c.entry_made.new.self c.set_entry.new.self c.args.number c.args.column c.in_ok-entry.entry c.requires.made c.entry_made.ensures.made c.in_ok-entry.ensures.grows c.requires.number
    (omega (arith, c.requires.column, c.requires.made.width)) c.if-entry.false c.set_entry.ensures.table c.set_entry.ensures.width

pub returns-clause-rows : goal.returns-clause-rows
returns-clause-rows c = λ e. rows_as c.args.self.now c.entry_made.new.self c.set_entry.new.self c.set_entry.ensures.states c.set_entry.ensures.width (c.in_ok-entry.ensures.rows c.if-entry.false)
