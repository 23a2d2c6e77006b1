-- What a tree matches in a haystack, from which offset to which, whatever is preferred.
use Rattle.std.specs.Prelude.{◌≡◌, ℕ, zero, suc, ◌+◌, ◌≤◌, ◌⊎◌, ◌↔◌, Bool, true, IsTrue, List, [], All, Option, Some, None, slice_get}
use Rattle.rx_sets.specs.Sets.{Range}
use Rattle.rx_utf8.specs.Automata.{is_in}
use Rattle.rx_grammar.specs.Trees.{Tree, Trees, empty, one_of, look_at, group, concat, alternation, repeated, two, more}
use Rattle.rx_grammar.specs.Subtrees.{IsBounded, IsWellFormed, nodes_of}
use Rattle.rx_grammar.specs.Weights.{may_be_empty}
use Rattle.rx_walks.specs.Looks as walks
use Rattle.rx_walks.specs.Paths.{Path}
use Rattle.rx_walks.specs.Programs.{Program, Haystack, Notes, is_within, left_from, over_characters, put_note}
use Rattle.rx_walks.specs.Machines.{Machine}
use Rattle.rx_walks.specs.Finds.{Search, IsInside}
use Rattle.rx_walks.specs.ProgramFinds.{first_by, haystack_of, holds_in, machine_of}
use Rattle.rx_program.specs.Code.{place_of, program_of}

-- `n` times, one after the other
abbrev pub Times : (ℕ → ℕ → Type 0) → ℕ → ℕ → ℕ → Type 0
Times takes zero i j = i ≡ j
Times takes (suc n) i k = (j : ℕ) × takes i j × Times takes n j k

-- at most the greatest number, if there is one
abbrev pub IsUpTo : ℕ → Option ℕ → Type 0
IsUpTo n None = Unit {0}
IsUpTo n (Some most) = n ≤ most

-- An empty tree matches nothing, and so does an assertion that holds; a set matches one of its
-- characters, a group what its tree does, a repetition its tree as often as allowed. `first` is the
-- number of bytes of the first character, if it is in a set.
module _ (first : List Range → List ℕ → Option ℕ) (h : Haystack walks.Look) where
  abbrev mutual
    pub Takes : Tree → ℕ → ℕ → Type 0
    Takes empty i j = i ≡ j
    Takes (one_of ranges) i j = (k : ℕ) × (first ranges (left_from h i) ≡ Some k) × (j ≡ i + k)
    Takes (look_at asked) i j = IsTrue (h.holds (place_of asked) i) × (i ≡ j)
    Takes (group number name tree) i j = Takes tree i j
    Takes (concat trees) i j = TakesInTurn trees i j
    Takes (alternation trees) i j = TakesOneOf trees i j
    Takes (repeated repetition tree) i j =
        (n : ℕ) × (repetition.min ≤ n) × IsUpTo n repetition.max × Times (Takes tree) n i j

    -- trees in sequence
    pub TakesInTurn : Trees → ℕ → ℕ → Type 0
    TakesInTurn (two one other) i k = (j : ℕ) × Takes one i j × Takes other j k
    TakesInTurn (more one others) i k = (j : ℕ) × Takes one i j × TakesInTurn others j k

    -- one of the trees
    pub TakesOneOf : Trees → ℕ → ℕ → Type 0
    TakesOneOf (two one other) i j = Takes one i j ⊎ Takes other i j
    TakesOneOf (more one others) i j = Takes one i j ⊎ TakesOneOf others i j

-- the machine of a program's nodes; `first` is the number of bytes of the first character, if it is
-- in a set
abbrev pub machine_by : (List Range → List ℕ → Option ℕ) → Program walks.Look (List Range)
    → Haystack walks.Look → Machine ℕ Notes
machine_by first p h = over_characters put_note first p.nodes h

-- The paths from the start node of a pattern, at an offset that isn't below the lowest one, end at
-- an offset that walks can reach and up to which the pattern's tree matches, and match that
-- pattern: in any haystack, whatever characters its sets have there, and whichever assertions hold.
abbrev pub PathsAreTaken : Type 0
PathsAreTaken = (trees : List Tree) (terminator : ℕ) → All IsWellFormed trees
    → (first : List Range → List ℕ → Option ℕ) (h : Haystack walks.Look)
    (p : Program walks.Look (List Range)) → p ≡ program_of trees terminator
    → (k q : ℕ) (tree : Tree) → slice_get trees k ≡ Some tree → slice_get p.patterns k ≡ Some q
    → (i pattern e : ℕ) → h.low ≤ i
    → Path (machine_by first p h) q i pattern e
    ↔ ((pattern ≡ k) × IsTrue (is_within h.low h.high e) × Takes first h tree i e)

-- what a tree matches in a search
abbrev pub TakesIn : (ℕ → Bool) → ℕ → Search → Tree → ℕ → ℕ → Type 0
TakesIn is_word terminator s tree i j =
    Takes (first_by is_in) (haystack_of (holds_in is_word terminator s) s) tree i j

-- the same for the paths of a search from an offset inside: they end inside
abbrev pub SearchesTakePaths : Type 0
SearchesTakePaths = (trees : List Tree) (terminator : ℕ) → All IsWellFormed trees
    → (is_word : ℕ → Bool) (p : Program walks.Look (List Range)) (s : Search)
    → p ≡ program_of trees terminator
    → (k q : ℕ) (tree : Tree) → slice_get trees k ≡ Some tree → slice_get p.patterns k ≡ Some q
    → (i pattern e : ℕ) → IsInside s i
    → Path (machine_of is_in is_word p s) q i pattern e
    ↔ ((pattern ≡ k) × IsInside s e × TakesIn is_word p.line_terminator s tree i e)

-- there is no character of any set anywhere, and all assertions hold
abbrev pub no_character : List Range → List ℕ → Option ℕ
no_character ranges bytes = None

abbrev pub looks_hold : Haystack walks.Look
looks_hold = record { content = []; low = 0; high = 0; holds = λ asked i. true }

-- `may_be_empty`, which is computed from a tree's parts and decides how programs are laid out, is
-- whether the tree matches then: a whole pattern, or a part of one, whatever the numbers of its
-- groups
abbrev pub MayBeEmptyIsTold : Type 0
MayBeEmptyIsTold = (tree : Tree) → All IsBounded (nodes_of tree)
    → IsTrue (may_be_empty tree) ↔ Takes no_character looks_hold tree 0 0

-- that is whether a path from its start node to its match reads no character, whatever assertions
-- are on it
abbrev pub EmptyPathsAreTold : Type 0
EmptyPathsAreTold = (trees : List Tree) (terminator : ℕ) → All IsWellFormed trees
    → (p : Program walks.Look (List Range)) → p ≡ program_of trees terminator
    → (k q : ℕ) (tree : Tree) → slice_get trees k ≡ Some tree → slice_get p.patterns k ≡ Some q
    → IsTrue (may_be_empty tree) ↔ Path (machine_by no_character p looks_hold) q 0 k 0
