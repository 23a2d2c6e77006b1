use Rattle.std.proofs.Common.{ℕ, List, Bor, sym, ◌∙◌, true≢false}
use Rattle.std.proofs.lemmas.Bool.Decides.{Decides-eqb}
use Rattle.std.proofs.lemmas.Slice.Eq.{slice_eq-Decides}
use Rattle.rx_grammar.proofs.NameLaws.{found_at, none_more, none_all}
use Rattle.rx_grammar.proofs.patterns.stands_in.Goals as goal

abbrev read : Bor (List ℕ) → List ℕ
read name = name.now

pub returns-then-eq : goal.returns-then-eq
returns-then-eq c =
    let same = slice_eq-Decides Decides-eqb _ _ _ c.eq.ensures in
    found_at read c.args.names.now c.loop-other.other-index _ c.args.name.now c.loop-other-test.true (same.0 c.if-eq.true)

pub loop-other-preserved : goal.loop-other-preserved
loop-other-preserved c =
    let same = slice_eq-Decides Decides-eqb _ _ _ c.eq.ensures in
    none_more read c.args.names.now c.loop-other.other-index _ c.args.name.now c.loop-other-test.true c.loop-other.invariant (λ e. true≢false (sym (same.1 e) ∙ c.if-eq.false))

pub returns : goal.returns
returns c = none_all read c.args.names.now c.loop-other.other-index c.args.name.now c.loop-other-test.false c.loop-other.invariant
