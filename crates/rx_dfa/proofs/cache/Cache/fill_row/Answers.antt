use Rattle.std.proofs.Common.{sym, arith}
use Rattle.std.proofs.lemmas.Option.{slice_get_within}
use Rattle.rx_dfa.specs.Automata.{directed}
use Rattle.rx_dfa.specs.Alphabets.{column_count}
use Rattle.rx_dfa.proofs.TableLaws.{keep_all, there_is}
use Rattle.rx_dfa.proofs.DenseLaws.{known_grown, known_more, row_more, rows_both}
use Rattle.rx_dfa.specs.DenseTables.{no_more}
use Rattle.rx_dfa.proofs.cache.Cache.fill_row.Goals as goal

pub loop-column-init : goal.loop-column-init
loop-column-init c = record { made = c.requires.made; number = c.requires.number; kept = keep_all c.args.self.now.states; before = c.requires.known; row = λ column lt. absurd (omega (arith, lt)); rows = no_more (omega arith) }

pub loop-column-preserved : goal.loop-column-preserved
loop-column-preserved c =
    let p = directed c.args.automaton.now in
    let alphabet = c.args.automaton.now.alphabet.now in
    let old = c.loop-column.self in
    let new = c.fill.new.self in
    let was = c.loop-column.invariant in
    let grows = c.in_ok-is_known.ensures.grows in
    let here = there_is old.states c.args.number was.number in
    record {
      made = c.fill.ensures.made;
      number = slice_get_within new.states c.args.number here.0 (grows.numbers c.args.number here.0 here.1);
      kept = λ number x e. grows.numbers number x (was.kept number x e);
      before = known_grown p alphabet old new c.args.number was.made c.fill.ensures.made grows was.before;
      row = row_more p alphabet old new c.args.number c.loop-column.column was.made c.fill.ensures.made grows was.row (c.in_ok-is_known.ensures.known c.if-not-is_known.false);
      rows = rows_both c.args.self.now old new (sym was.made.width) (sym c.fill.ensures.made.width) was.rows (c.in_ok-is_known.ensures.rows c.if-not-is_known.false);
    }

pub returns-then-not-is_known-clause-kept : goal.returns-then-not-is_known-clause-kept
returns-then-not-is_known-clause-kept c = λ number x e. c.in_ok-is_known.ensures.grows.numbers number x (c.loop-column.invariant.kept number x e)

pub returns-clause-known : goal.returns-clause-known
returns-clause-known c = λ e.
    let is = c.loop-column.invariant in
    known_more c.loop-column.self c.args.number (column_count c.args.automaton.now.alphabet.now) (sym is.made.width) is.before (λ column lt. is.row column (omega (arith, lt, c.loop-column-test.false, c.column_count-column-end.ensures)))
