use Rattle.std.proofs.lemmas.List.{drop_more}
use Rattle.rx_sets.specs.Unions.{InLetters}
use Rattle.rx_sets.proofs.UnionLemmas.{Completes-step, Completes-end}
use Rattle.rx_sets.proofs.atom_sets.AtomSets.push_all_letters.Goals as goal

pub loop-letters-preserved : goal.loop-letters-preserved
loop-letters-preserved c =
    Completes-step (InLetters c.args.fold c.args.items.now) _ _ _ _ _ _ _ (drop_more _ c.loop-letters.letters-index _ c.loop-letters-test.true) c.in_ok-push_letters.ensures c.loop-letters.invariant

pub returns : goal.returns
returns c = Completes-end (InLetters c.args.fold c.args.items.now) _ _ c.loop-letters.letters-index _ c.loop-letters-test.false c.loop-letters.invariant
