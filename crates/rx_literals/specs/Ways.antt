-- Where nodes lead, and what is read on the way there.
use Rattle.std.specs.Prelude.{◌≡◌, ℕ, ◌+◌, Bool, true, List, ◌∷◌, ◌++◌, length, take, map, Option, slice_get, Contains}
use Rattle.std.specs.Char.{IsScalar, encode_utf8}
use Rattle.memchr.specs.Find.{OccursAt}
use Rattle.rx_sets.specs.Sets.{Range}
use Rattle.rx_utf8.specs.Automata.{is_in}
use Rattle.rx_walks.specs.Looks.{Look}
use Rattle.rx_walks.specs.Paths.{Path}
use Rattle.rx_walks.specs.Finds.{Search, IsInside}
use Rattle.rx_walks.specs.Programs.{Node, Program}
use Rattle.rx_walks.specs.ProgramFinds.{highest, machine_of}
use Rattle.rx_literals.specs.Needles.{OneOccursAt}

-- a literal, and the node from which a match continues after it
pub record Stem : Type 0 where
  pub literal : List ℕ
  pub node : ℕ

-- P holds of one of these
pub data OneOf {X : Type 0} (P : X → Type 0) : List X → Type 0 where
  this_one : {x : X} {xs : List X} → P x → OneOf P (x ∷ xs)
  other_one : {x : X} {xs : List X} → OneOf P xs → OneOf P (x ∷ xs)

-- in a search a path from an offset to a match end reads the literal of a stem, and continues from
-- its node
abbrev pub TakesStem : Program Look (List Range) → (ℕ → Bool) → Search → ℕ → ℕ → ℕ → Stem → Type 0
TakesStem p is_word s i pattern e stem =
    OccursAt (take (highest s) s.content) stem.literal i
    × Path (machine_of is_in is_word p s) stem.node (i + length stem.literal) pattern e

-- each path with one of these stems has one of those
abbrev pub StemsLeadTo : Program Look (List Range) → List Stem → List Stem → Type 0
StemsLeadTo p stems others = (is_word : ℕ → Bool) (s : Search) (i pattern e : ℕ) → IsInside s i
    → OneOf (TakesStem p is_word s i pattern e) stems
    → OneOf (TakesStem p is_word s i pattern e) others

-- if this is the node of a stem, which was among others, all of them lead to these
abbrev pub StemsGoOn : Option (Node Look (List Range)) → Stem → List Stem → List Stem → Type 0
StemsGoOn here stem others stems = (p : Program Look (List Range))
    → slice_get p.nodes stem.node ≡ here
    → StemsLeadTo p (stem ∷ others) stems

-- these characters are all members of a set, and maybe more
abbrev pub HasMembers : List Range → List ℕ → Type 0
HasMembers ranges characters =
    (c : ℕ) → IsScalar c → is_in ranges c ≡ true → Contains characters c

-- a stem for each of several nodes
abbrev pub branches : List ℕ → List ℕ → List Stem
branches literal nodes = map (λ node. record { literal = literal; node = node }) nodes

-- a stem for each character that is read before a node
abbrev pub readings : List ℕ → List ℕ → ℕ → List Stem
readings literal characters node =
    map (λ c. record { literal = literal ++ encode_utf8 c; node = node }) characters

-- if one of these needles occurs, one of those does
abbrev pub StandFor : List (List ℕ) → List (List ℕ) → Type 0
StandFor needles others = (bytes : List ℕ) (i : ℕ) → OneOccursAt bytes i others
    → OneOccursAt bytes i needles
