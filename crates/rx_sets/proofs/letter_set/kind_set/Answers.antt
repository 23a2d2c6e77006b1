use Rattle.std.proofs.Common.{IsTrue, sym, subst, List}
use Rattle.unicode.specs.Rows.{in_ranges, HasExactly}
use Rattle.rx_sets.specs.Sets.{Range, in_kind}
use Rattle.rx_sets.proofs.LetterLemmas.{IfOk-same, rows_name}
use Rattle.rx_sets.proofs.letter_set.kind_set.Goals as goal

pub returns : goal.returns
returns c =
    let codes = c.deref.result.now in
    let table : HasExactly codes (in_kind c.args.kind) = subst (λ (l : List Range). HasExactly l (in_kind c.args.kind)) (sym c.deref.ensures.value) c.in_ok-codes.ensures in
    IfOk-same c.set_of_codes.result (λ d. IsTrue (in_ranges codes d)) (λ d. IsTrue (in_kind c.args.kind d)) (rows_name c.args.kind codes table) c.set_of_codes.ensures
