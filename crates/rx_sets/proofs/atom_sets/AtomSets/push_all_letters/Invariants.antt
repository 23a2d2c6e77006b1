use Rattle.std.proofs.Common.{drop}
use Rattle.rx_sets.specs.Unions.{InLetters}
use Rattle.rx_sets.proofs.UnionLemmas.{Completes}
use Rattle.rx_sets.proofs.atom_sets.AtomSets.push_all_letters.Given as goal

-- the letter classes that are still to come complete what is appended
abbrev pub invariant-loop-letters : goal.invariant-loop-letters
invariant-loop-letters l = Completes (InLetters l.fold l.items) l.initial.ranges.items l.ranges.items (drop l.letters-index l.letters-items) l.letters-items
