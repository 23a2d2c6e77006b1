-- The chunks of a text that isn't empty, and that of an empty one.
use Rattle.std.proofs.Common.{◌≡◌, ℕ, ◌≤◌, inr, List, [], ◌∷◌, refl, arith}
use Rattle.str_indices.specs.Text.{byte_len}
use Rattle.ropey_tree.specs.declared.counts.By.{By}
use Rattle.ropey_tree.specs.declared.counts.By.TheVariants.{Bytes, Chars, Units, Breaks}
use Rattle.ropey_tree.specs.Counts.{counts_of, zero_counts, amount}
use Rattle.ropey_walk.specs.Chunks.{lone_piece}
use Rattle.ropey_walk.specs.Standing.{StandsAt}

pub piece_by_itself : (leaf : List ℕ) → 1 ≤ byte_len leaf → lone_piece leaf ≡ leaf ∷ []
piece_by_itself [] some = absurd (omega arith)
piece_by_itself (c ∷ cs) some = refl

-- an empty text has an empty chunk
pub amount-nothing : (by : By) → amount by (counts_of []) ≡ 0
amount-nothing Bytes = refl
amount-nothing Chars = refl
amount-nothing Units = refl
amount-nothing Breaks = refl

pub nothing_stands : (by : By) (i : ℕ) → StandsAt [] by i [] zero_counts
nothing_stands by i = record { before = []; after = []; parts = refl; some = λ _. refl; start_is = refl; not_past = omega (arith, amount-nothing by); passed = inr refl }
