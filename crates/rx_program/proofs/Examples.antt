-- The programs of small patterns, each by computation: which edge is preferred, and which slots are
-- filled.
use Rattle.std.specs.Prelude.{◌≡◌, ℕ, Bool, true, false, List, [], ◌∷◌, Some, None, refl}
use Rattle.rx_sets.specs.Sets.{Range}
use Rattle.rx_grammar.specs.Repetitions.{repetition}
use Rattle.rx_grammar.specs.Trees.{Tree, one_of, group, alternation, repeated, two}
use Rattle.rx_walks.specs.Looks as walks
use Rattle.rx_walks.specs.Programs.{Node, match, pass, note, set}
use Rattle.rx_program.specs.Code.{program_of}

-- the characters of a set with one letter
abbrev just : ℕ → List Range
just c = (c, c) ∷ []

-- the nodes of a pattern's program
abbrev nodes_of_one : Tree → List (Node walks.Look (List Range))
nodes_of_one tree = (program_of (tree ∷ []) 10).nodes

abbrev a_repeated : Bool → Tree
a_repeated greedy = repeated (repetition 0 None greedy) (one_of (just 97))

-- `a*` prefers the edge into the loop, `a*?` the edge past it
greedy_star : nodes_of_one (a_repeated true) ≡
    note 0 1 ∷ pass (2 ∷ 3 ∷ []) ∷ set (just 97) 1 ∷ note 1 4 ∷ match 0 ∷ []
greedy_star = refl

lazy_star : nodes_of_one (a_repeated false) ≡
    note 0 1 ∷ pass (3 ∷ 2 ∷ []) ∷ set (just 97) 1 ∷ note 1 4 ∷ match 0 ∷ []
lazy_star = refl

-- the same for `a{1,2}` and `a{1,2}?`, before the second letter
abbrev a_once_or_twice : Bool → Tree
a_once_or_twice greedy = repeated (repetition 1 (Some 2) greedy) (one_of (just 97))

greedy_count : nodes_of_one (a_once_or_twice true) ≡
    note 0 1 ∷ set (just 97) 2 ∷ pass (3 ∷ 4 ∷ []) ∷ set (just 97) 4 ∷ note 1 5 ∷ match 0 ∷ []
greedy_count = refl

lazy_count : nodes_of_one (a_once_or_twice false) ≡
    note 0 1 ∷ set (just 97) 2 ∷ pass (4 ∷ 3 ∷ []) ∷ set (just 97) 4 ∷ note 1 5 ∷ match 0 ∷ []
lazy_count = refl

-- `a|b` prefers `a`
first_branch : nodes_of_one (alternation (two (one_of (just 97)) (one_of (just 98)))) ≡
    note 0 1 ∷ pass (2 ∷ 3 ∷ []) ∷ set (just 97) 4 ∷ set (just 98) 4 ∷ note 1 5 ∷ match 0 ∷ []
first_branch = refl

-- `(a){0}` reads nothing and never fills the slots of its group
no_times : nodes_of_one (repeated (repetition 0 (Some 0) true) (group 1 None (one_of (just 97)))) ≡
    note 0 1 ∷ pass (2 ∷ []) ∷ note 1 3 ∷ match 0 ∷ []
no_times = refl

-- `(a)` and `(b)` as two patterns: the first is preferred. Slots 0 to 3 are for the whole matches,
-- 4 and 5 for the first pattern's group, 6 and 7 for the second's.
two_patterns : (program_of (group 1 None (one_of (just 97)) ∷ group 1 None (one_of (just 98)) ∷ []) 10).nodes ≡
    pass (1 ∷ 7 ∷ [])
    ∷ note 0 2 ∷ note 4 3 ∷ set (just 97) 4 ∷ note 5 5 ∷ note 1 6 ∷ match 0
    ∷ note 2 8 ∷ note 6 9 ∷ set (just 98) 10 ∷ note 7 11 ∷ note 3 12 ∷ match 1 ∷ []
two_patterns = refl
