-- How a prefilter searches for its needles.
use Rattle.std.specs.Prelude.{◌≡◌, ℕ, ◌≤◌, List, [], ◌∷◌, length, All}
use Rattle.rx_literals.specs.declared.prefilter.Searcher.{Searcher}
use Rattle.rx_literals.specs.declared.prefilter.Searcher.TheVariants as searcher
use Rattle.rx_literals.specs.Needles.{AreNeedles}
use Rattle.rx_literals.specs.FirstBytes.{BeginAmong}
use Rattle.rx_literals.specs.NeedleTables.{BeginInTable}

-- a searcher finds these needles
abbrev pub SearchesNeedles : Searcher → List (List ℕ) → Type 0
SearchesNeedles (searcher.Byte byte) needles = needles ≡ (byte ∷ []) ∷ []
SearchesNeedles (searcher.One finder) needles = needles ≡ finder ∷ []
SearchesNeedles (searcher.First first) needles = BeginAmong first needles
SearchesNeedles (searcher.Table table) needles = BeginInTable table needles
SearchesNeedles searcher.Several needles = Unit {0}

-- the needles are allowed, none is longer than `longest`, and this searcher finds them
pub record AreParts (needles : List (List ℕ)) (longest : ℕ) (searcher : Searcher) : Type 0 where
  pub are : AreNeedles needles
  pub some : 1 ≤ longest
  pub below : All (λ needle. length needle ≤ longest) needles
  pub searches : SearchesNeedles searcher needles
