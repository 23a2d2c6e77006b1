-- A law of the definitions.
use Rattle.std.specs.Prelude.{◌≡◌, ◌↔◌, ℕ, List}
use Rattle.rx_sets.specs.Sets.{Range, IsScalar, IsCanonical, Holds}

-- canonical ranges with the same members are the same ranges
abbrev pub HaveOneSet : List Range → List Range → Type 0
HaveOneSet ranges others = IsCanonical ranges → IsCanonical others → ((c : ℕ) → IsScalar c → Holds ranges c ↔ Holds others c) → ranges ≡ others
