use Rattle.std.proofs.Common.{◌≡◌, ℕ, ◌<◌, get_or}
use Rattle.rx_sets.specs.declared.items.ClassItem.{ClassItem}
use Rattle.rx_sets.specs.declared.items.ClassItem.TheVariants.{Perl}
use Rattle.rx_sets.proofs.atom_sets.has_letters.Given as goal

-- no item so far is this letter class
abbrev pub invariant-loop-item : goal.invariant-loop-item
invariant-loop-item l = (k : ℕ) (d : ClassItem) → k < l.item-index → get_or l.items k d ≡ Perl l.kind l.negated → ⊥
