-- Programs whose walks stay in the pattern in which they start.
use Rattle.std.specs.Prelude.{◌≡◌, ℕ, Bool, Option, Some, slice_get}
use Rattle.rx_walks.specs.Paths.{Path}
use Rattle.rx_walks.specs.Looks.{Look}
use Rattle.rx_walks.specs.Finds.{Search}
use Rattle.rx_walks.specs.Programs.{Node, match, pass, note, look, set, Program}
use Rattle.rx_walks.specs.ProgramFinds.{machine_of}

-- from a pattern's own start, all matches are its own
abbrev pub KeepsPatterns : {S : Type 0} → (S → ℕ → Bool) → (ℕ → Bool) → Program Look S → Search
    → Type 0
KeepsPatterns member is_word p s = (k q i t e : ℕ) → slice_get p.patterns k ≡ Some q
    → Path (machine_of member is_word p s) q i t e → t ≡ k

-- the edges of a node of pattern k lead to nodes of that pattern, and its matches are that
-- pattern's
abbrev pub StaysWith : {L S : Type 0} → (ℕ → Option ℕ) → ℕ → Node L S → Type 0
StaysWith owner k (match p) = p ≡ k
StaysWith owner k (pass rs) = (d r : ℕ) → slice_get rs d ≡ Some r → owner r ≡ Some k
StaysWith owner k (note slot r) = owner r ≡ Some k
StaysWith owner k (look l r) = owner r ≡ Some k
StaysWith owner k (set x r) = owner r ≡ Some k

-- the pattern of each node; the node above the patterns has none
pub record HasOwners {L S : Type 0} (p : Program L S) (owner : ℕ → Option ℕ) : Type 0 where
  pub starts : (k q : ℕ) → slice_get p.patterns k ≡ Some q → owner q ≡ Some k
  pub stays : (q k : ℕ) (a_node : Node L S) → slice_get p.nodes q ≡ Some a_node
      → owner q ≡ Some k → StaysWith owner k a_node
