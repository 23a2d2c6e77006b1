-- The edges of a pattern's program lead to its nodes, and stay in the pattern.
use Rattle.std.proofs.Common.{◌≡◌, ℕ, zero, suc, ◌+◌, ◌-◌, ◌*◌, ◌<◌, ◌≤◌, Bool, true, false, List, [], ◌∷◌, ◌++◌, length, Option, Some, None, refl, sym, ap, ap₂, subst, ◌∙◌, arith, length-append}
use Rattle.std.specs.List.{All}
use Rattle.std.proofs.lemmas.List.Elements.{All-cons, All-nil, All-append, All-weaker}
use Rattle.rx_sets.specs.Sets.{Range}
use Rattle.rx_grammar.specs.Trees.{Tree, Trees, empty, one_of, look_at, group, concat, alternation, repeated, two, more, numbers_of}
use Rattle.rx_grammar.specs.Weights.{may_be_empty, size_of, all_sizes_of, repeated_weight}
use Rattle.rx_walks.specs.Looks as walks
use Rattle.rx_walks.specs.Programs.{Node, match, pass, note, look, set, Program}
use Rattle.rx_program.specs.Code.{Code, place_of, fork, entry_of, copies, optional, repetition_code, branch_starts, code_of, row_code, branches_code, pattern_code, patterns_code, pattern_starts}
use Rattle.rx_program.specs.Closed.{LeadsBelow, IsClosed, PatternIsClosed, ProgramsAreClosed}

-- a part has a node
some_times : (n : ℕ) (most : Option ℕ) (s : ℕ) (may : Bool) → 1 ≤ s → 1 ≤ repeated_weight n most s may
some_times n (Some zero) s may some = omega arith
some_times zero (Some (suc m)) s may some = let e : suc m - 0 ≡ suc m = omega arith in omega (arith, ap (λ k. k * (1 + s)) e)
some_times (suc n) (Some (suc m)) s may some = omega (arith, some)
some_times zero None s false some = omega arith
some_times zero None s true some = omega arith
some_times (suc n) None s may some = omega arith

mutual
  pub some_nodes : (tree : Tree) → 1 ≤ size_of tree
  some_nodes empty = omega arith
  some_nodes (one_of ranges) = omega arith
  some_nodes (look_at asked) = omega arith
  some_nodes (group number name tree) = omega arith
  some_nodes (concat trees) = some_row trees
  some_nodes (alternation trees) = omega arith
  some_nodes (repeated rep tree) = some_times rep.min rep.max (size_of tree) (may_be_empty tree) (some_nodes tree)

  some_row : (trees : Trees) → 1 ≤ all_sizes_of trees
  some_row (two first second) = omega (arith, some_nodes first)
  some_row (more first others) = omega (arith, some_nodes first)

-- and as many as its size
pub copies_length : (s : ℕ) (h : ℕ → ℕ → Code) → ((at next : ℕ) → length (h at next) ≡ s) → (n at next : ℕ) → length (copies s h n at next) ≡ n * s
copies_length s h is zero at next = omega arith
copies_length s h is (suc n) at next =
    omega (arith, length-append (h at (entry_of n (at + s) next)) (copies s h n (at + s) next), is at (entry_of n (at + s) next), copies_length s h is n (at + s) next)

optional_length : (g : Bool) (s : ℕ) (h : ℕ → ℕ → Code) → ((at next : ℕ) → length (h at next) ≡ s) → (n at next : ℕ) → length (optional g s h n at next) ≡ n * (1 + s)
optional_length g s h is zero at next = omega arith
optional_length g s h is (suc n) at next =
    omega (arith, length-append (h (at + 1) (entry_of n (at + 1 + s) next)) (optional g s h n (at + 1 + s) next), is (at + 1) (entry_of n (at + 1 + s) next), optional_length g s h is n (at + 1 + s) next)

pub repetition_length : (g : Bool) (n : ℕ) (most : Option ℕ) (s : ℕ) (may : Bool) (h : ℕ → ℕ → Code) → ((at next : ℕ) → length (h at next) ≡ s) → (at next : ℕ)
    → length (repetition_code g n most s may h at next) ≡ repeated_weight n most s may
repetition_length g n (Some zero) s may h is at next = refl
repetition_length g n (Some (suc m)) s may h is at next =
    let on = entry_of (suc m - n) (at + n * s) next in
    length-append (copies s h n at on) (optional g s h (suc m - n) (at + n * s) next) ∙ ap₂ (λ a b. a + b) (copies_length s h is n at on) (optional_length g s h is (suc m - n) (at + n * s) next)
repetition_length g zero None s false h is at next = omega (arith, is (at + 1) at)
repetition_length g zero None s true h is at next = omega (arith, length-append (h (at + 1) (at + 1 + s)) (fork g (at + 1) next ∷ []), is (at + 1) (at + 1 + s))
repetition_length g (suc n) None s may h is at next =
    omega (arith, length-append (copies s h (suc n) at (at + suc n * s)) (fork g (at + n * s) next ∷ []), copies_length s h is (suc n) at (at + suc n * s))

mutual
  pub code_length : (slots : ℕ) (tree : Tree) (at next : ℕ) → length (code_of slots tree at next) ≡ size_of tree
  code_length slots empty at next = refl
  code_length slots (one_of ranges) at next = refl
  code_length slots (look_at asked) at next = refl
  code_length slots (group number name tree) at next =
      omega (arith, length-append (code_of slots tree (at + 1) (at + 1 + size_of tree)) (note (slots + 2 * number + 1) next ∷ []), code_length slots tree (at + 1) (at + 1 + size_of tree))
  code_length slots (concat trees) at next = row_length slots trees at next
  code_length slots (alternation trees) at next = omega (arith, branches_length slots trees (at + 1) next)
  code_length slots (repeated rep tree) at next =
      repetition_length rep.greedy rep.min rep.max (size_of tree) (may_be_empty tree) (code_of slots tree) (λ a b. code_length slots tree a b) at next

  row_length : (slots : ℕ) (trees : Trees) (at next : ℕ) → length (row_code slots trees at next) ≡ all_sizes_of trees
  row_length slots (two first second) at next =
      omega (arith, length-append (code_of slots first at (at + size_of first)) (code_of slots second (at + size_of first) next), code_length slots first at (at + size_of first), code_length slots second (at + size_of first) next)
  row_length slots (more first others) at next =
      omega (arith, length-append (code_of slots first at (at + size_of first)) (row_code slots others (at + size_of first) next), code_length slots first at (at + size_of first), row_length slots others (at + size_of first) next)

  branches_length : (slots : ℕ) (trees : Trees) (at next : ℕ) → length (branches_code slots trees at next) ≡ all_sizes_of trees
  branches_length slots (two first second) at next =
      omega (arith, length-append (code_of slots first at next) (code_of slots second (at + size_of first) next), code_length slots first at next, code_length slots second (at + size_of first) next)
  branches_length slots (more first others) at next =
      omega (arith, length-append (code_of slots first at next) (branches_code slots others (at + size_of first) next), code_length slots first at next, branches_length slots others (at + size_of first) next)

-- an edge leads to a node from one number on and below another
pub record In (low n r : ℕ) : Type 0 where
  pub above : low ≤ r
  pub below : r < n

-- the edges of a node lead there, and its matches are pattern k's
abbrev pub StaysIn : ℕ → ℕ → ℕ → Node walks.Look (List Range) → Type 0
StaysIn low n k (match pattern) = pattern ≡ k
StaysIn low n k (pass nodes) = All (In low n) nodes
StaysIn low n k (note slot r) = In low n r
StaysIn low n k (look asked r) = In low n r
StaysIn low n k (set ranges r) = In low n r

-- edges
module _ (low n p : ℕ) where
  -- `k` nodes from one on are there
  pub record Room (at k : ℕ) : Type 0 where
    pub from : low ≤ at
    pub room : at + k ≤ n

  abbrev Below : List (Node walks.Look (List Range)) → Type 0
  Below nodes = All (StaysIn low n p) nodes

  one_node : (node : Node walks.Look (List Range)) → StaysIn low n p node → Below (node ∷ [])
  one_node node h = All-cons (StaysIn low n p) node [] h (All-nil (StaysIn low n p))

  one_edge : (r : ℕ) → In low n r → All (In low n) (r ∷ [])
  one_edge r h = All-cons (In low n) r [] h (All-nil (In low n))

  two_edges : (r q : ℕ) → In low n r → In low n q → All (In low n) (r ∷ q ∷ [])
  two_edges r q h i = All-cons (In low n) r (q ∷ []) h (one_edge q i)

  fork_below : (g : Bool) (into on : ℕ) → In low n into → In low n on → StaysIn low n p (fork g into on)
  fork_below true into on h i = two_edges into on h i
  fork_below false into on h i = two_edges on into i h

  before : (node : Node walks.Look (List Range)) (nodes : List (Node walks.Look (List Range))) → StaysIn low n p node → Below nodes → Below (node ∷ nodes)
  before node nodes h all = All-cons (StaysIn low n p) node nodes h all

  beside : (xs ys : List (Node walks.Look (List Range))) → Below xs → Below ys → Below (xs ++ ys)
  beside xs ys a b = All-append (StaysIn low n p) xs ys a b

  entry_below : (k at next : ℕ) (s : ℕ) → 1 ≤ s → Room at (k * s) → In low n next → In low n (entry_of k at next)
  entry_below zero at next s some fits below = below
  entry_below (suc k) at next s some fits below = (record { above = omega (arith, some); below = omega (arith, some) })

  abbrev Fitting : ℕ → (ℕ → ℕ → Code) → Type 0
  Fitting s h = (at next : ℕ) → Room at s → In low n next → Below (h at next)

  copies_below : (s : ℕ) (h : ℕ → ℕ → Code) → 1 ≤ s → Fitting s h → (k at next : ℕ) → Room at (k * s) → In low n next → Below (copies s h k at next)
  copies_below s h some fit zero at next fits below = All-nil (StaysIn low n p)
  copies_below s h some fit (suc k) at next fits below = beside (h at (entry_of k (at + s) next)) (copies s h k (at + s) next)
      (fit at (entry_of k (at + s) next) (record { from = omega arith; room = omega arith }) (entry_below k (at + s) next s some (record { from = omega arith; room = omega arith }) below))
      (copies_below s h some fit k (at + s) next (record { from = omega arith; room = omega arith }) below)

  optional_below : (g : Bool) (s : ℕ) (h : ℕ → ℕ → Code) → 1 ≤ s → Fitting s h → (k at next : ℕ) → Room at (k * (1 + s)) → In low n next → Below (optional g s h k at next)
  optional_below g s h some fit zero at next fits below = All-nil (StaysIn low n p)
  optional_below g s h some fit (suc k) at next fits below = before (fork g (at + 1) next) _ (fork_below g (at + 1) next (record { above = omega (arith, some); below = omega (arith, some) }) below)
      (beside (h (at + 1) (entry_of k (at + 1 + s) next)) (optional g s h k (at + 1 + s) next)
      (fit (at + 1) (entry_of k (at + 1 + s) next) (record { from = omega arith; room = omega arith }) (entry_below k (at + 1 + s) next (1 + s) (omega (arith, some)) (record { from = omega arith; room = omega arith }) below))
      (optional_below g s h some fit k (at + 1 + s) next (record { from = omega arith; room = omega arith }) below))

  repetition_below : (g : Bool) (k : ℕ) (most : Option ℕ) (s : ℕ) (may : Bool) (h : ℕ → ℕ → Code) → 1 ≤ s → Fitting s h → (at next : ℕ) → Room at (repeated_weight k most s may) → In low n next
      → Below (repetition_code g k most s may h at next)
  repetition_below g k (Some zero) s may h some fit at next fits below = one_node (pass (next ∷ [])) (one_edge next below)
  repetition_below g k (Some (suc m)) s may h some fit at next fits below =
      let on = entry_of (suc m - k) (at + k * s) next in
      beside (copies s h k at on) (optional g s h (suc m - k) (at + k * s) next)
      (copies_below s h some fit k at on (record { from = omega arith; room = omega arith }) (entry_below (suc m - k) (at + k * s) next (1 + s) (omega (arith, some)) (record { from = omega arith; room = omega arith }) below))
      (optional_below g s h some fit (suc m - k) (at + k * s) next (record { from = omega arith; room = omega arith }) below)
  repetition_below g zero None s false h some fit at next fits below =
      before (fork g (at + 1) next) (h (at + 1) at) (fork_below g (at + 1) next (record { above = omega (arith, some); below = omega (arith, some) }) below) (fit (at + 1) at (record { from = omega arith; room = omega arith }) (record { above = omega arith; below = omega arith }))
  repetition_below g zero None s true h some fit at next fits below =
      before (fork g (at + 1) next) _ (fork_below g (at + 1) next (record { above = omega arith; below = omega arith }) below)
      (beside (h (at + 1) (at + 1 + s)) (fork g (at + 1) next ∷ []) (fit (at + 1) (at + 1 + s) (record { from = omega arith; room = omega arith }) (record { above = omega arith; below = omega arith }))
      (one_node (fork g (at + 1) next) (fork_below g (at + 1) next (record { above = omega arith; below = omega arith }) below)))
  repetition_below g (suc k) None s may h some fit at next fits below =
      beside (copies s h (suc k) at (at + suc k * s)) (fork g (at + k * s) next ∷ [])
      (copies_below s h some fit (suc k) at (at + suc k * s) (record { from = omega arith; room = omega arith }) (record { above = omega arith; below = omega arith }))
      (one_node (fork g (at + k * s) next) (fork_below g (at + k * s) next (record { above = omega (arith, some); below = omega (arith, some) }) below))

  starts_below : (trees : Trees) (at : ℕ) → Room at (all_sizes_of trees) → All (In low n) (branch_starts trees at)
  starts_below (two first second) at fits = two_edges at (at + size_of first) (record { above = omega (arith, some_nodes first); below = omega (arith, some_nodes first) }) (record { above = omega (arith, some_nodes second); below = omega (arith, some_nodes second) })
  starts_below (more first others) at fits =
      All-cons (In low n) at (branch_starts others (at + size_of first)) (record { above = omega (arith, some_nodes first); below = omega (arith, some_nodes first) }) (starts_below others (at + size_of first) (record { from = omega arith; room = omega arith }))

  mutual
    pub code_below : (slots : ℕ) (tree : Tree) (at next : ℕ) → Room at (size_of tree) → In low n next → Below (code_of slots tree at next)
    code_below slots empty at next fits below = one_node (pass (next ∷ [])) (one_edge next below)
    code_below slots (one_of ranges) at next fits below = one_node (set ranges next) below
    code_below slots (look_at asked) at next fits below = one_node (look (place_of asked) next) below
    code_below slots (group number name tree) at next fits below = before (note (slots + 2 * number) (at + 1)) _ (record { above = omega arith; below = omega arith })
        (beside (code_of slots tree (at + 1) (at + 1 + size_of tree)) (note (slots + 2 * number + 1) next ∷ []) (code_below slots tree (at + 1) (at + 1 + size_of tree) (record { from = omega arith; room = omega arith }) (record { above = omega arith; below = omega arith }))
        (one_node (note (slots + 2 * number + 1) next) below))
    code_below slots (concat trees) at next fits below = row_below slots trees at next fits below
    code_below slots (alternation trees) at next fits below =
        before (pass (branch_starts trees (at + 1))) _ (starts_below trees (at + 1) (record { from = omega arith; room = omega arith })) (branches_below slots trees (at + 1) next (record { from = omega arith; room = omega arith }) below)
    code_below slots (repeated rep tree) at next fits below =
        repetition_below rep.greedy rep.min rep.max (size_of tree) (may_be_empty tree) (code_of slots tree) (some_nodes tree) (λ a b. code_below slots tree a b) at next fits below

    row_below : (slots : ℕ) (trees : Trees) (at next : ℕ) → Room at (all_sizes_of trees) → In low n next → Below (row_code slots trees at next)
    row_below slots (two first second) at next fits below =
        beside (code_of slots first at (at + size_of first)) (code_of slots second (at + size_of first) next)
        (code_below slots first at (at + size_of first) (record { from = omega arith; room = omega arith }) (record { above = omega (arith, some_nodes second); below = omega (arith, some_nodes second) })) (code_below slots second (at + size_of first) next (record { from = omega arith; room = omega arith }) below)
    row_below slots (more first others) at next fits below =
        beside (code_of slots first at (at + size_of first)) (row_code slots others (at + size_of first) next)
        (code_below slots first at (at + size_of first) (record { from = omega arith; room = omega arith }) (record { above = omega (arith, some_row others); below = omega (arith, some_row others) })) (row_below slots others (at + size_of first) next (record { from = omega arith; room = omega arith }) below)

    branches_below : (slots : ℕ) (trees : Trees) (at next : ℕ) → Room at (all_sizes_of trees) → In low n next → Below (branches_code slots trees at next)
    branches_below slots (two first second) at next fits below =
        beside (code_of slots first at next) (code_of slots second (at + size_of first) next) (code_below slots first at next (record { from = omega arith; room = omega arith }) below) (code_below slots second (at + size_of first) next (record { from = omega arith; room = omega arith }) below)
    branches_below slots (more first others) at next fits below =
        beside (code_of slots first at next) (branches_code slots others (at + size_of first) next) (code_below slots first at next (record { from = omega arith; room = omega arith }) below) (branches_below slots others (at + size_of first) next (record { from = omega arith; room = omega arith }) below)

-- whole patterns
abbrev patterns_size : List Tree → ℕ
patterns_size [] = 0
patterns_size (tree ∷ trees) = 3 + size_of tree + patterns_size trees

pub pattern_length : (slots p : ℕ) (tree : Tree) (at : ℕ) → length (pattern_code slots p tree at) ≡ 3 + size_of tree
pattern_length slots p tree at =
    omega (arith, length-append (code_of slots tree (at + 1) (at + 1 + size_of tree)) (note (2 * p + 1) (at + 2 + size_of tree) ∷ match p ∷ []), code_length slots tree (at + 1) (at + 1 + size_of tree))

patterns_length : (slots p : ℕ) (trees : List Tree) (at : ℕ) → length (patterns_code slots p trees at) ≡ patterns_size trees
patterns_length slots p [] at = refl
patterns_length slots p (tree ∷ trees) at =
    let others = patterns_code (slots + 2 * length (numbers_of tree)) (p + 1) trees (at + 3 + size_of tree) in
    omega (arith, length-append (pattern_code slots p tree at) others, pattern_length slots p tree at, patterns_length (slots + 2 * length (numbers_of tree)) (p + 1) trees (at + 3 + size_of tree))

pub pattern_stays : (slots p : ℕ) (tree : Tree) (at : ℕ) → All (StaysIn at (at + 3 + size_of tree) p) (pattern_code slots p tree at)
pattern_stays slots p tree at =
    let n = at + 3 + size_of tree in
    let code = code_of slots tree (at + 1) (at + 1 + size_of tree) in
    let inner = code_below at n p slots tree (at + 1) (at + 1 + size_of tree) (record { from = omega arith; room = omega arith }) (record { above = omega arith; below = omega arith }) in
    let last = before at n p (note (2 * p + 1) (at + 2 + size_of tree)) (match p ∷ []) (record { above = omega arith; below = omega arith }) (one_node at n p (match p) refl) in
    before at n p (note (2 * p) (at + 1)) _ (record { above = omega arith; below = omega arith }) (beside at n p code _ inner last)

leads_below : (low n m p : ℕ) → n ≤ m → (node : Node walks.Look (List Range)) → StaysIn low n p node → LeadsBelow m node
leads_below low n m p fits (match pattern) stays = tt
leads_below low n m p fits (pass nodes) stays = All-weaker (In low n) (λ r. r < m) (λ r inside. omega (arith, inside.below, fits)) nodes stays
leads_below low n m p fits (note slot r) stays = omega (arith, stays.below, fits)
leads_below low n m p fits (look asked r) stays = omega (arith, stays.below, fits)
leads_below low n m p fits (set ranges r) stays = omega (arith, stays.below, fits)

pattern_below : (n slots p : ℕ) (tree : Tree) (at : ℕ) → at + 3 + size_of tree ≤ n → All (LeadsBelow n) (pattern_code slots p tree at)
pattern_below n slots p tree at fits =
    All-weaker (StaysIn at (at + 3 + size_of tree) p) (LeadsBelow n) (λ node stays. leads_below at (at + 3 + size_of tree) n p fits node stays) (pattern_code slots p tree at) (pattern_stays slots p tree at)

patterns_below : (n slots p : ℕ) (trees : List Tree) (at : ℕ) → at + patterns_size trees ≤ n → All (LeadsBelow n) (patterns_code slots p trees at)
patterns_below n slots p [] at fits = All-nil (LeadsBelow n)
patterns_below n slots p (tree ∷ trees) at fits =
    let more = slots + 2 * length (numbers_of tree) in
    let on = at + 3 + size_of tree in
    All-append (LeadsBelow n) (pattern_code slots p tree at) (patterns_code more (p + 1) trees on) (pattern_below n slots p tree at (omega (arith, fits))) (patterns_below n more (p + 1) trees on (omega (arith, fits)))

all_starts_below : (n : ℕ) (trees : List Tree) (at : ℕ) → at + patterns_size trees ≤ n → All (λ r. r < n) (pattern_starts trees at)
all_starts_below n [] at fits = All-nil (λ r. r < n)
all_starts_below n (tree ∷ trees) at fits = All-cons (λ r. r < n) at (pattern_starts trees (at + 3 + size_of tree)) (omega (arith, fits)) (all_starts_below n trees (at + 3 + size_of tree) (omega (arith, fits)))

pub pattern_is_closed : PatternIsClosed
pattern_is_closed tree terminator =
    let n = 3 + size_of tree in
    let count : length (pattern_code 0 0 tree 0) ≡ n = pattern_length 0 0 tree 0 in
    record {
      edges = subst (λ n. All (LeadsBelow n) (pattern_code 0 0 tree 0)) (sym count) (pattern_below n 0 0 tree 0 (omega arith));
      start = omega (arith, count);
      patterns = All-cons (λ r. r < length (pattern_code 0 0 tree 0)) 0 [] (omega (arith, count)) (All-nil (λ r. r < length (pattern_code 0 0 tree 0)));
    }

-- the program of several patterns, or none
abbrev pub several : List Tree → ℕ → Program walks.Look (List Range)
several trees terminator = record {
  nodes = pass (pattern_starts trees 1) ∷ patterns_code (2 * length trees - 2) 0 trees 1;
  start = 0;
  patterns = pattern_starts trees 1;
  line_terminator = terminator;
}

several_closed : (trees : List Tree) (terminator : ℕ) → IsClosed (several trees terminator)
several_closed trees terminator =
    let slots = 2 * length trees - 2 in
    let starts = pattern_starts trees 1 in
    let code = patterns_code slots 0 trees 1 in
    let n = 1 + patterns_size trees in
    let nodes : Code = pass starts ∷ code in
    let count : length nodes ≡ n = omega (arith, patterns_length slots 0 trees 1) in
    let all : All (λ r. r < n) starts = all_starts_below n trees 1 (omega arith) in
    record {
      edges = subst (λ n. All (LeadsBelow n) nodes) (sym count) (All-cons (LeadsBelow n) (pass starts) code all (patterns_below n slots 0 trees 1 (omega arith)));
      start = omega (arith, count);
      patterns = subst (λ n. All (λ r. r < n) starts) (sym count) all;
    }

pub programs_are_closed : ProgramsAreClosed
programs_are_closed [] terminator = several_closed [] terminator
programs_are_closed (tree ∷ []) terminator = pattern_is_closed tree terminator
programs_are_closed (tree ∷ other ∷ trees) terminator = several_closed (tree ∷ other ∷ trees) terminator
