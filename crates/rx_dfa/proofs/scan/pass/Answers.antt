use Rattle.std.proofs.Common.{◌≡◌, ◌-◌, ◌<◌, ◌∷◌, [], true, length, Some, slice_get, sym, ap, subst, arith}
use Rattle.std.proofs.lemmas.Option.{slice_get_within}
use Rattle.rx_dfa.specs.Automata.{directed}
use Rattle.rx_dfa.specs.Behind.{quits}
use Rattle.rx_dfa.specs.Alphabets.{ahead_in}
use Rattle.rx_dfa.specs.Caches.{CacheView, LeadsTo}
use Rattle.rx_dfa.specs.Tables.{HasStepped}
use Rattle.rx_dfa.proofs.TableLaws.{there_is}
use Rattle.rx_dfa.proofs.PassLaws.{quits_by, one_passed}
use Rattle.rx_dfa.proofs.ScanLaws.{cache_in, lacks_among, state_at}
use Rattle.rx_dfa.proofs.LowerLaws.{alike_laws}
use Rattle.rx_dfa.proofs.scan.pass.Goals as goal

pub returns-in-Ok-None-clause-refused : goal.returns-in-Ok-None-clause-refused
returns-in-Ok-None-clause-refused g c =
    let a = c.args.automaton.now in
    let alphabet = a.alphabet.now in
    let byte = c.args.byte in
    let here = there_is (g.T.Table.shown c.args.table.now).states c.args.number c.requires.number in
    let told : quits alphabet.asked (ahead_in alphabet c.class-column.result).seen ≡ true =
    subst (λ o. HasStepped a (g.T.Table.shown c.step.new.self).states here.0 c.class-column.result o) c.in-Ok-None.field-0-is (c.in-Ok-None.ensures.step here.0 here.1) in
    let none : c.args.at - c.args.at ≡ 0 = omega arith in
    (omega arith, ap (λ k. slice_get (byte ∷ []) k) none, quits_by (directed a).bytes alphabet byte c.requires.is (omega (arith, c.ranges.byte.fits)) (subst (λ k. quits alphabet.asked (ahead_in alphabet k).seen ≡ true) c.class-column.ensures told))

pub returns-in-Err-clause-refused : goal.returns-in-Err-clause-refused
returns-in-Err-clause-refused g c = lacks_among g.T.Table.is_whole c.args.automaton.now c.args.at c.args.byte c.in-Err.error c.in-Err.ensures.refused

pub met_behind-requires : goal.met_behind-requires
met_behind-requires g c =
    let a = c.args.automaton.now in
    let states = (g.T.Table.shown c.step.new.self).states in
    let here = there_is (g.T.Table.shown c.args.table.now).states c.args.number c.requires.number in
    let to : LeadsTo (directed a) a.alphabet.now states here.0 (ahead_in a.alphabet.now c.class-column.result) c.in-Ok-Some.next =
    subst (λ o. HasStepped a states here.0 c.class-column.result o) c.in-Ok-Some.field-0-is (c.in-Ok-Some.ensures.step here.0 here.1) in
    subst (λ (v : CacheView). c.in-Ok-Some.next < length v.states) (sym c.known.ensures) (slice_get_within states c.in-Ok-Some.next to.next to.stands)

pub returns-in-Ok-Some-clause-passed : goal.returns-in-Ok-Some-clause-passed
returns-in-Ok-Some-clause-passed g c = λ x stands.
    let a = c.args.automaton.now in
    let old = g.T.Table.shown c.args.table.now in
    let states = (g.T.Table.shown c.step.new.self).states in
    let next = c.in-Ok-Some.next in
    let to : LeadsTo (directed a) a.alphabet.now states x (ahead_in a.alphabet.now c.class-column.result) next =
    subst (λ o. HasStepped a states x c.class-column.result o) c.in-Ok-Some.field-0-is (c.in-Ok-Some.ensures.step x stands) in
    one_passed alike_laws a states x c.args.byte c.args.at next c.args.met.now c.met_behind.result c.requires.is
    (state_at (directed a) a.alphabet.now old c.args.number x (cache_in g.T.Table.is_whole a old c.requires.table) stands).bare
    (omega (arith, c.ranges.byte.fits)) (subst (λ k. LeadsTo (directed a) a.alphabet.now states x (ahead_in a.alphabet.now k) next) c.class-column.ensures to)
    (λ y at. c.met_behind.ensures y (subst (λ (v : CacheView). slice_get v.states next ≡ Some y) (sym c.known.ensures) at))

pub returns-in-Ok-Some-clause-number : goal.returns-in-Ok-Some-clause-number
returns-in-Ok-Some-clause-number g c =
    let a = c.args.automaton.now in
    let states = (g.T.Table.shown c.step.new.self).states in
    let here = there_is (g.T.Table.shown c.args.table.now).states c.args.number c.requires.number in
    let to : LeadsTo (directed a) a.alphabet.now states here.0 (ahead_in a.alphabet.now c.class-column.result) c.in-Ok-Some.next =
    subst (λ o. HasStepped a states here.0 c.class-column.result o) c.in-Ok-Some.field-0-is (c.in-Ok-Some.ensures.step here.0 here.1) in
    slice_get_within states c.in-Ok-Some.next to.next to.stands
