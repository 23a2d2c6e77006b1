use Rattle.std.proofs.Common.{◌≡◌, ◌+◌, ◌-◌, ◌*◌, ◌/◌, ◌<◌, None, Some, length, take, get_or, slice_get, refl, sym, ap, subst, ◌∙◌, arith, vec_len}
use Rattle.std.proofs.lemmas.Grind.{common_steps}
use Rattle.std.proofs.lemmas.Option.{slice_get-get_or, slice_get_read}
use Rattle.rx_dfa.specs.Classes.{class_of}
use Rattle.rx_dfa.specs.Caches.{CacheView}
use Rattle.rx_dfa.specs.Passing.{IsRunning}
use Rattle.rx_dfa.proofs.TableLaws.{there_is}
use Rattle.rx_dfa.proofs.PassLaws.{run_of, run_begun, entry_inside, run_on, run_notes, run_ends, noted_inside}
use Rattle.rx_dfa.proofs.LowerLaws.{alike_laws}
use Rattle.rx_dfa.proofs.cache.Cache.run.Goals as goal

pub loop-byte-init : goal.loop-byte-init
loop-byte-init c =
    let cache = c.args.self.now in
    record {
      running = λ x stands. subst (λ row. IsRunning c.args.automaton.now cache (run_of x (take 0 c.args.bytes.now) c.args.at c.args.met.now row None)) (ap (λ (v : CacheView). c.args.first * v.width) (sym c.self.view_is))
          (run_begun c.args.automaton.now cache x c.args.first c.args.bytes.now c.args.at c.args.met.now stands);
      len = refl;
    }

pub overflow_add-row : goal.overflow_add-row
overflow_add-row c =
    let cache = c.args.self.now in
    let byte = get_or c.args.bytes.now c.loop-byte.byte-index 0 in
    let low : byte < 256 = omega (arith, (c.type_inv.bytes c.loop-byte.byte-index).fits) in
    let column : c.class.result ≡ class_of c.args.automaton.now.alphabet.now.classes byte = c.class.ensures in
    let len : length c.self.inside.table.items ≡ length cache.table = ap (λ (v : CacheView). length v.table) c.self.view_is in
    let here = there_is cache.states c.args.first c.requires.first in
    let inside = entry_inside c.args.automaton.now cache here.0 (take c.loop-byte.len c.args.bytes.now) c.args.at c.loop-byte.row byte c.args.met.now c.loop-byte.end c.requires.is c.requires.made low (c.loop-byte.invariant.running here.0 here.1) in
    omega (arith, inside, column, len, c.self.inside.table.ok.0, c.self.inside.table.small)

pub index-next-requires : goal.index-next-requires
index-next-requires c =
    let cache = c.args.self.now in
    let byte = get_or c.args.bytes.now c.loop-byte.byte-index 0 in
    let low : byte < 256 = omega (arith, (c.type_inv.bytes c.loop-byte.byte-index).fits) in
    let column : c.class.result ≡ class_of c.args.automaton.now.alphabet.now.classes byte = c.class.ensures in
    let len : length c.self.inside.table.items ≡ length cache.table = ap (λ (v : CacheView). length v.table) c.self.view_is in
    let table = c.self.inside.table in
    let long : vec_len table ≡ length table.items = grind (arith, common_steps) in
    let here = there_is cache.states c.args.first c.requires.first in
    let inside = entry_inside c.args.automaton.now cache here.0 (take c.loop-byte.len c.args.bytes.now) c.args.at c.loop-byte.row byte c.args.met.now c.loop-byte.end c.requires.is c.requires.made low (c.loop-byte.invariant.running here.0 here.1) in
    omega (arith, inside, column, len, long)

pub loop-byte-preserved-then-next-lt-ENDS : goal.loop-byte-preserved-then-next-lt-ENDS
loop-byte-preserved-then-next-lt-ENDS c =
    let cache = c.args.self.now in
    let bytes = c.args.bytes.now in
    let row = c.loop-byte.row in
    let byte = get_or bytes c.loop-byte.byte-index 0 in
    let low : byte < 256 = omega (arith, (c.type_inv.bytes c.loop-byte.byte-index).fits) in
    let column : c.class.result ≡ class_of c.args.automaton.now.alphabet.now.classes byte = c.class.ensures in
    let len : length c.self.inside.table.items ≡ length cache.table = ap (λ (v : CacheView). length v.table) c.self.view_is in
    let table = c.self.inside.table in
    let here = there_is cache.states c.args.first c.requires.first in
    let inside = entry_inside c.args.automaton.now cache here.0 (take c.loop-byte.len bytes) c.args.at row byte c.args.met.now c.loop-byte.end c.requires.is c.requires.made low (c.loop-byte.invariant.running here.0 here.1) in
    let read : slice_get table.items (row + c.class.result) ≡ Some c.index-next.result.now =
    slice_get_read table.items (length table.items) (row + c.class.result) c.index-next.result.now refl (omega (arith, inside, column, len)) c.index-next.ensures in
    let entry : slice_get cache.table (row + class_of c.args.automaton.now.alphabet.now.classes byte) ≡ Some c.index-next.result.now =
    sym (ap (λ (v : CacheView). slice_get v.table (row + class_of c.args.automaton.now.alphabet.now.classes byte)) c.self.view_is) ∙ sym (ap (λ k. slice_get table.items (row + k)) column) ∙ read in
    let at : slice_get bytes c.loop-byte.len ≡ Some byte = ap (λ k. slice_get bytes k) c.loop-byte.invariant.len ∙ slice_get-get_or bytes c.loop-byte.byte-index 0 c.loop-byte-test.true in
    record {
      running = λ x stands. run_on alike_laws c.args.automaton.now cache x bytes c.loop-byte.len c.args.at row byte c.index-next.result.now c.args.met.now c.loop-byte.end c.requires.is c.requires.made low at entry (omega (arith, c.if-next-lt-ENDS.true)) (c.loop-byte.invariant.running x stands);
      len = omega (arith, c.loop-byte.invariant.len);
    }

pub loop-byte-preserved : goal.loop-byte-preserved
loop-byte-preserved c =
    let cache = c.args.self.now in
    let bytes = c.args.bytes.now in
    let row = c.loop-byte.row in
    let byte = get_or bytes c.loop-byte.byte-index 0 in
    let low : byte < 256 = omega (arith, (c.type_inv.bytes c.loop-byte.byte-index).fits) in
    let column : c.class.result ≡ class_of c.args.automaton.now.alphabet.now.classes byte = c.class.ensures in
    let len : length c.self.inside.table.items ≡ length cache.table = ap (λ (v : CacheView). length v.table) c.self.view_is in
    let table = c.self.inside.table in
    let here = there_is cache.states c.args.first c.requires.first in
    let inside = entry_inside c.args.automaton.now cache here.0 (take c.loop-byte.len bytes) c.args.at row byte c.args.met.now c.loop-byte.end c.requires.is c.requires.made low (c.loop-byte.invariant.running here.0 here.1) in
    let read : slice_get table.items (row + c.class.result) ≡ Some c.index-next.result.now =
    slice_get_read table.items (length table.items) (row + c.class.result) c.index-next.result.now refl (omega (arith, inside, column, len)) c.index-next.ensures in
    let entry : slice_get cache.table (row + class_of c.args.automaton.now.alphabet.now.classes byte) ≡ Some c.index-next.result.now =
    sym (ap (λ (v : CacheView). slice_get v.table (row + class_of c.args.automaton.now.alphabet.now.classes byte)) c.self.view_is) ∙ sym (ap (λ k. slice_get table.items (row + k)) column) ∙ read in
    let at : slice_get bytes c.loop-byte.len ≡ Some byte = ap (λ k. slice_get bytes k) c.loop-byte.invariant.len ∙ slice_get-get_or bytes c.loop-byte.byte-index 0 c.loop-byte-test.true in
    record {
      running = λ x stands. run_notes alike_laws c.args.automaton.now cache x bytes c.loop-byte.len c.args.at row byte c.index-next.result.now (c.index-next.result.now - 2147483648) c.args.met.now c.loop-byte.end c.requires.is c.requires.made low at entry
          (omega (arith, c.if-next-lt-ENDS.false)) (omega (arith, c.if-next-ge-STOPS.false)) (omega (arith, c.if-next-lt-ENDS.false)) (c.loop-byte.invariant.running x stands);
      len = omega (arith, c.loop-byte.invariant.len);
    }

pub returns-clause-passed : goal.returns-clause-passed
returns-clause-passed c = λ x stands.
    let cache = c.args.self.now in
    run_ends c.args.automaton.now cache x (take c.loop-byte.len c.args.bytes.now) c.args.at c.loop-byte.row (c.loop-byte.row / c.self.inside.width) c.args.met.now c.met_last.result c.loop-byte.end (omega (arith, c.requires.made.width))
    (ap (λ (v : CacheView). c.loop-byte.row / v.width) c.self.view_is) c.met_last.ensures (c.loop-byte.invariant.running x stands)

pub met_last-requires-clause-inside : goal.met_last-requires-clause-inside
met_last-requires-clause-inside c =
    let cache = c.args.self.now in
    let here = there_is cache.states c.args.first c.requires.first in
    let run = c.loop-byte.invariant.running here.0 here.1 in
    noted_inside cache.width cache.states c.args.met.now run.last c.loop-byte.end (omega (arith, c.requires.made.width)) run.noted
