-- The matches of a pattern's program have noted their start and end.
use Rattle.std.proofs.Common.{◌≡◌, ℕ, zero, suc, ◌+◌, ◌-◌, ◌*◌, ◌<◌, ◌≤◌, Bool, true, false, cond, List, [], ◌∷◌, ◌++◌, length, get_or, Option, Some, None, slice_get, refl, sym, ap, subst, ◌∙◌, arith, inl, inr}
use Rattle.std.specs.List.{All}
use Rattle.std.proofs.lemmas.Bool.{cases_order, eq-eqb, ne_eqb}
use Rattle.std.proofs.lemmas.Option.{slice_get-get_or, slice_get_within, get_or_from_slice_get}
use Rattle.std.proofs.lemmas.List.Elements.{All-cons, All-nil, All-head, All-tail, All-append, All-get_or, All-from_get_or}
use Rattle.rx_sets.specs.Sets.{Range}
use Rattle.rx_utf8.specs.Automata.{is_in}
use Rattle.rx_grammar.specs.Trees.{Tree, Trees, empty, one_of, look_at, group, concat, alternation, repeated, two, more, numbers_of, all_numbers_of}
use Rattle.rx_grammar.specs.Subtrees.{IsWellFormed}
use Rattle.rx_grammar.specs.Weights.{may_be_empty, size_of, all_sizes_of, repeated_weight}
use Rattle.rx_walks.specs.Looks as walks
use Rattle.rx_walks.specs.Machines.{Move, ends, goes, reads, Outcome}
use Rattle.rx_walks.specs.Walks.{Walk, ended, went, took}
use Rattle.rx_walks.specs.Finds.{Anchoring, unanchored, anchored, anchored_pattern, Search, IsFind, is_found}
use Rattle.rx_walks.specs.Programs.{Node, match, pass, note, look, set, Haystack, only_if, is_within, left_from, read_up_to, by_character, note_at, over_characters, Notes, fresh_notes, put_note, last_noted, slot_of}
use Rattle.rx_walks.specs.ProgramFinds.{first_by, holds_in, haystack_of, machine_of, start_node, IfStarts, ProgramFinds, start_of}
use Rattle.rx_program.specs.Code.{Code, place_of, fork, entry_of, copies, optional, repetition_code, branch_starts, code_of, row_code, branches_code, pattern_code, program_of}
use Rattle.rx_program.specs.Laws.{HasNoted, NotesPlaces, MatchesNoteTheirPlaces}
use Rattle.rx_program.proofs.ClosedLaws.{some_nodes, code_length}

-- ---- lists

pub all_left : {X : Type 0} (P : X → Type 0) (xs ys : List X) → All P (xs ++ ys) → All P xs
all_left P [] ys all = All-nil P
all_left P (x ∷ xs) ys all = All-cons P x xs (All-head P x (xs ++ ys) all) (all_left P xs ys (All-tail P x (xs ++ ys) all))

pub all_right : {X : Type 0} (P : X → Type 0) (xs ys : List X) → All P (xs ++ ys) → All P ys
all_right P [] ys all = all
all_right P (x ∷ xs) ys all = all_right P xs ys (All-tail P x (xs ++ ys) all)

pub in_front : {X : Type 0} (xs ys : List X) (c : ℕ) → c < length xs → slice_get (xs ++ ys) c ≡ slice_get xs c
in_front [] ys c below = absurd (omega (arith, below))
in_front (x ∷ xs) ys zero below = refl
in_front (x ∷ xs) ys (suc c) below = in_front xs ys c (omega (arith, below))

pub behind : {X : Type 0} (xs ys : List X) (c : ℕ) → slice_get (xs ++ ys) (length xs + c) ≡ slice_get ys c
behind [] ys c = let same : 0 + c ≡ c = omega arith in ap (slice_get ys) same
behind (x ∷ xs) ys c =
    let same : length (x ∷ xs) + c ≡ suc (length xs + c) = omega arith in
    ap (slice_get (x ∷ (xs ++ ys))) same ∙ behind xs ys c

-- ---- the nodes of a tree

-- the number of a node after `low`, up to `high`
abbrev Among : ℕ → ℕ → ℕ → Type 0
Among low high r = (low < r) × (r ≤ high)

-- notes go to slots from `least` on, and the edge leads to such a node
record NotesFurther (least low high slot r : ℕ) : Type 0 where
  above : least ≤ slot
  among : Among low high r

further : (least low high slot r : ℕ) → least ≤ slot → Among low high r → NotesFurther least low high slot r
further least low high slot r above among = record { above = above; among = among }

-- a node that ends no match, notes only slots from `least` on, and leads to such nodes
abbrev Stays : ℕ → ℕ → ℕ → Node walks.Look (List Range) → Type 0
Stays least low high (match pattern) = ⊥
Stays least low high (pass nodes) = All (Among low high) nodes
Stays least low high (note slot r) = NotesFurther least low high slot r
Stays least low high (look asked r) = Among low high r
Stays least low high (set ranges r) = Among low high r

abbrev pub FromOne : List ℕ → Type 0
FromOne numbers = All (λ number. 1 ≤ number) numbers

one_edge : (low high r : ℕ) → Among low high r → All (Among low high) (r ∷ [])
one_edge low high r h = All-cons (Among low high) r [] h (All-nil (Among low high))

two_edges : (low high r q : ℕ) → Among low high r → Among low high q → All (Among low high) (r ∷ q ∷ [])
two_edges low high r q h i = All-cons (Among low high) r (q ∷ []) h (one_edge low high q i)

module _ (slots low high : ℕ) where
  abbrev Inside : Code → Type 0
  Inside nodes = All (Stays (slots + 2) low high) nodes

  one_node : (node : Node walks.Look (List Range)) → Stays (slots + 2) low high node → Inside (node ∷ [])
  one_node node h = All-cons (Stays (slots + 2) low high) node [] h (All-nil (Stays (slots + 2) low high))

  before : (node : Node walks.Look (List Range)) (nodes : Code) → Stays (slots + 2) low high node → Inside nodes → Inside (node ∷ nodes)
  before node nodes h all = All-cons (Stays (slots + 2) low high) node nodes h all

  beside : (xs ys : Code) → Inside xs → Inside ys → Inside (xs ++ ys)
  beside xs ys a b = All-append (Stays (slots + 2) low high) xs ys a b

  fork_inside : (g : Bool) (into on : ℕ) → Among low high into → Among low high on → Stays (slots + 2) low high (fork g into on)
  fork_inside true into on h i = two_edges low high into on h i
  fork_inside false into on h i = two_edges low high on into i h

  entry_inside : (k at next s : ℕ) → 1 ≤ s → low < at → at + k * s ≤ high → Among low high next → Among low high (entry_of k at next)
  entry_inside zero at next s some from fits to = to
  entry_inside (suc k) at next s some from fits to = (from, omega (arith, some, fits))

  abbrev Fitting : ℕ → (ℕ → ℕ → Code) → Type 0
  Fitting s h = (at next : ℕ) → low < at → at + s ≤ high → Among low high next → Inside (h at next)

  copies_inside : (s : ℕ) (h : ℕ → ℕ → Code) → 1 ≤ s → Fitting s h → (k at next : ℕ) → low < at → at + k * s ≤ high → Among low high next → Inside (copies s h k at next)
  copies_inside s h some fit zero at next from fits to = All-nil (Stays (slots + 2) low high)
  copies_inside s h some fit (suc k) at next from fits to = beside (h at (entry_of k (at + s) next)) (copies s h k (at + s) next)
      (fit at (entry_of k (at + s) next) from (omega (arith, fits)) (entry_inside k (at + s) next s some (omega (arith, from)) (omega (arith, fits)) to))
      (copies_inside s h some fit k (at + s) next (omega (arith, from)) (omega (arith, fits)) to)

  optional_inside : (g : Bool) (s : ℕ) (h : ℕ → ℕ → Code) → 1 ≤ s → Fitting s h → (k at next : ℕ) → low < at → at + k * (1 + s) ≤ high → Among low high next → Inside (optional g s h k at next)
  optional_inside g s h some fit zero at next from fits to = All-nil (Stays (slots + 2) low high)
  optional_inside g s h some fit (suc k) at next from fits to = before (fork g (at + 1) next) _ (fork_inside g (at + 1) next (omega (arith, from), omega (arith, fits, some)) to)
      (beside (h (at + 1) (entry_of k (at + 1 + s) next)) (optional g s h k (at + 1 + s) next)
      (fit (at + 1) (entry_of k (at + 1 + s) next) (omega (arith, from)) (omega (arith, fits)) (entry_inside k (at + 1 + s) next (1 + s) (omega (arith, some)) (omega (arith, from)) (omega (arith, fits)) to))
      (optional_inside g s h some fit k (at + 1 + s) next (omega (arith, from)) (omega (arith, fits)) to))

  repetition_inside : (g : Bool) (k : ℕ) (most : Option ℕ) (s : ℕ) (may : Bool) (h : ℕ → ℕ → Code) → 1 ≤ s → Fitting s h → (at next : ℕ) → low < at → at + repeated_weight k most s may ≤ high → Among low high next
      → Inside (repetition_code g k most s may h at next)
  repetition_inside g k (Some zero) s may h some fit at next from fits to = one_node (pass (next ∷ [])) (one_edge low high next to)
  repetition_inside g k (Some (suc m)) s may h some fit at next from fits to =
      let on = entry_of (suc m - k) (at + k * s) next in
      beside (copies s h k at on) (optional g s h (suc m - k) (at + k * s) next)
      (copies_inside s h some fit k at on from (omega (arith, fits)) (entry_inside (suc m - k) (at + k * s) next (1 + s) (omega (arith, some)) (omega (arith, from)) (omega (arith, fits)) to))
      (optional_inside g s h some fit (suc m - k) (at + k * s) next (omega (arith, from)) (omega (arith, fits)) to)
  repetition_inside g zero None s false h some fit at next from fits to =
      before (fork g (at + 1) next) (h (at + 1) at) (fork_inside g (at + 1) next (omega (arith, from), omega (arith, fits, some)) to) (fit (at + 1) at (omega (arith, from)) (omega (arith, fits)) (from, omega (arith, fits)))
  repetition_inside g zero None s true h some fit at next from fits to =
      before (fork g (at + 1) next) _ (fork_inside g (at + 1) next (omega (arith, from), omega (arith, fits)) to)
      (beside (h (at + 1) (at + 1 + s)) (fork g (at + 1) next ∷ []) (fit (at + 1) (at + 1 + s) (omega (arith, from)) (omega (arith, fits)) (omega (arith, from), omega (arith, fits)))
      (one_node (fork g (at + 1) next) (fork_inside g (at + 1) next (omega (arith, from), omega (arith, fits)) to)))
  repetition_inside g (suc k) None s may h some fit at next from fits to =
      beside (copies s h (suc k) at (at + suc k * s)) (fork g (at + k * s) next ∷ [])
      (copies_inside s h some fit (suc k) at (at + suc k * s) from (omega (arith, fits)) (omega (arith, from), omega (arith, fits)))
      (one_node (fork g (at + k * s) next) (fork_inside g (at + k * s) next (omega (arith, from), omega (arith, fits, some)) to))

  starts_inside : (trees : Trees) (at : ℕ) → low < at → at + all_sizes_of trees ≤ high → All (Among low high) (branch_starts trees at)
  starts_inside (two first second) at from fits = two_edges low high at (at + size_of first) (from, omega (arith, fits)) (omega (arith, from), omega (arith, fits))
  starts_inside (more first others) at from fits =
      All-cons (Among low high) at (branch_starts others (at + size_of first)) (from, omega (arith, fits)) (starts_inside others (at + size_of first) (omega (arith, from)) (omega (arith, fits)))

  mutual
    code_inside : (tree : Tree) → FromOne (numbers_of tree) → (at next : ℕ) → low < at → at + size_of tree ≤ high → Among low high next → Inside (code_of slots tree at next)
    code_inside empty ones at next from fits to = one_node (pass (next ∷ [])) (one_edge low high next to)
    code_inside (one_of ranges) ones at next from fits to = one_node (set ranges next) to
    code_inside (look_at asked) ones at next from fits to = one_node (look (place_of asked) next) to
    code_inside (group number name tree) ones at next from fits to =
        let one : 1 ≤ number = All-head (λ x. 1 ≤ x) number (numbers_of tree) ones in
        before (note (slots + 2 * number) (at + 1)) _ (further (slots + 2) low high (slots + 2 * number) (at + 1) (omega (arith, one)) (omega (arith, from), omega (arith, fits)))
        (beside (code_of slots tree (at + 1) (at + 1 + size_of tree)) (note (slots + 2 * number + 1) next ∷ [])
        (code_inside tree (All-tail (λ x. 1 ≤ x) number (numbers_of tree) ones) (at + 1) (at + 1 + size_of tree) (omega (arith, from)) (omega (arith, fits)) (omega (arith, from), omega (arith, fits)))
        (one_node (note (slots + 2 * number + 1) next) (further (slots + 2) low high (slots + 2 * number + 1) next (omega (arith, one)) to)))
    code_inside (concat trees) ones at next from fits to = row_inside trees ones at next from fits to
    code_inside (alternation trees) ones at next from fits to =
        before (pass (branch_starts trees (at + 1))) _ (starts_inside trees (at + 1) (omega (arith, from)) (omega (arith, fits))) (branches_inside trees ones (at + 1) next (omega (arith, from)) (omega (arith, fits)) to)
    code_inside (repeated rep tree) ones at next from fits to =
        repetition_inside rep.greedy rep.min rep.max (size_of tree) (may_be_empty tree) (code_of slots tree) (some_nodes tree) (λ a b. code_inside tree ones a b) at next from fits to

    row_inside : (trees : Trees) → FromOne (all_numbers_of trees) → (at next : ℕ) → low < at → at + all_sizes_of trees ≤ high → Among low high next → Inside (row_code slots trees at next)
    row_inside (two first second) ones at next from fits to =
        beside (code_of slots first at (at + size_of first)) (code_of slots second (at + size_of first) next)
        (code_inside first (all_left (λ x. 1 ≤ x) (numbers_of first) (numbers_of second) ones) at (at + size_of first) from (omega (arith, fits)) (omega (arith, from), omega (arith, fits)))
        (code_inside second (all_right (λ x. 1 ≤ x) (numbers_of first) (numbers_of second) ones) (at + size_of first) next (omega (arith, from)) (omega (arith, fits)) to)
    row_inside (more first others) ones at next from fits to =
        beside (code_of slots first at (at + size_of first)) (row_code slots others (at + size_of first) next)
        (code_inside first (all_left (λ x. 1 ≤ x) (numbers_of first) (all_numbers_of others) ones) at (at + size_of first) from (omega (arith, fits)) (omega (arith, from), omega (arith, fits)))
        (row_inside others (all_right (λ x. 1 ≤ x) (numbers_of first) (all_numbers_of others) ones) (at + size_of first) next (omega (arith, from)) (omega (arith, fits)) to)

    branches_inside : (trees : Trees) → FromOne (all_numbers_of trees) → (at next : ℕ) → low < at → at + all_sizes_of trees ≤ high → Among low high next → Inside (branches_code slots trees at next)
    branches_inside (two first second) ones at next from fits to =
        beside (code_of slots first at next) (code_of slots second (at + size_of first) next)
        (code_inside first (all_left (λ x. 1 ≤ x) (numbers_of first) (numbers_of second) ones) at next from (omega (arith, fits)) to)
        (code_inside second (all_right (λ x. 1 ≤ x) (numbers_of first) (numbers_of second) ones) (at + size_of first) next (omega (arith, from)) (omega (arith, fits)) to)
    branches_inside (more first others) ones at next from fits to =
        beside (code_of slots first at next) (branches_code slots others (at + size_of first) next)
        (code_inside first (all_left (λ x. 1 ≤ x) (numbers_of first) (all_numbers_of others) ones) at next from (omega (arith, fits)) to)
        (branches_inside others (all_right (λ x. 1 ≤ x) (numbers_of first) (all_numbers_of others) ones) (at + size_of first) next (omega (arith, from)) (omega (arith, fits)) to)

-- ---- where the nodes of a pattern are

pub record IsInner (nodes : Code) (least low high q : ℕ) : Type 0 where
  node : Node walks.Look (List Range)
  is : slice_get nodes q ≡ Some node
  stays : Stays least low high node

-- the pattern with number k starts at `at`, and `last` is the node that notes its end
pub record HasPattern (nodes : Code) (k at last : ℕ) : Type 0 where
  least : ℕ
  above : 2 * k + 2 ≤ least
  some : at < last
  first_is : slice_get nodes at ≡ Some (note (2 * k) (at + 1))
  inner : (q : ℕ) → at < q → q < last → IsInner nodes least at last q
  last_is : slice_get nodes last ≡ Some (note (2 * k + 1) (last + 1))
  end_is : slice_get nodes (last + 1) ≡ Some (match k)

abbrev noting : ℕ → ℕ → Node walks.Look (List Range)
noting slot next = note slot next

inner_stands : (nodes code after : Code) (x : Node walks.Look (List Range)) (least low high at q c : ℕ) → q ≡ at + suc c → c < length code → slice_get nodes (at + suc c) ≡ slice_get (x ∷ (code ++ after)) (suc c)
    → All (Stays least low high) code → IsInner nodes least low high q
inner_stands nodes code after x least low high at q c here below same all = record {
  node = get_or code c x;
  is = ap (slice_get nodes) here ∙ same ∙ in_front code after c below ∙ slice_get-get_or code c x below;
  stays = All-get_or (Stays least low high) code c x below all;
}

pub pattern_stands : (nodes : Code) (slots k : ℕ) (tree : Tree) (at : ℕ) → 2 * k ≤ slots → FromOne (numbers_of tree) → length (code_of slots tree (at + 1) (at + 1 + size_of tree)) ≡ size_of tree
    → ((c : ℕ) → c < 3 + size_of tree → slice_get nodes (at + c) ≡ slice_get (pattern_code slots k tree at) c) → HasPattern nodes k at (at + 1 + size_of tree)
pattern_stands nodes slots k tree at fits ones count same =
    let s = size_of tree in
    let last = at + 1 + s in
    let code = code_of slots tree (at + 1) (at + 1 + s) in
    let end = noting (2 * k + 1) (at + 2 + s) ∷ match k ∷ [] in
    let at_first : at ≡ at + 0 = omega arith in
    let at_last : last ≡ at + suc (length code + 0) = omega (arith, count) in
    let at_end : last + 1 ≡ at + suc (length code + 1) = omega (arith, count) in
    let on : at + 2 + s ≡ last + 1 = omega arith in
    let inside : All (Stays (slots + 2) at last) code = code_inside slots at last tree ones (at + 1) last (omega arith) (omega arith) (omega arith, omega arith) in
    record {
      least = slots + 2;
      above = omega (arith, fits);
      some = omega arith;
      first_is = ap (slice_get nodes) at_first ∙ same 0 (omega arith);
      inner = λ q from below. inner_stands nodes code end (noting (2 * k) (at + 1)) (slots + 2) at last at q (q - at - 1) (omega (arith, from)) (omega (arith, from, below, count))
          (same (suc (q - at - 1)) (omega (arith, from, below))) inside;
      last_is = ap (slice_get nodes) at_last ∙ same (suc (length code + 0)) (omega (arith, count)) ∙ behind code end 0 ∙ ap (λ r. Some (noting (2 * k + 1) r)) on;
      end_is = ap (slice_get nodes) at_end ∙ same (suc (length code + 1)) (omega (arith, count)) ∙ behind code end 1;
    }

-- ---- moves

pub only_ends : {p : ℕ} (b : Bool) (x : Move ℕ) → only_if b x ≡ ends p → x ≡ ends p
only_ends true x e = e
only_ends false x e = absurd (cc e)

pub only_reads : {r j : ℕ} (b : Bool) (x : Move ℕ) → only_if b x ≡ reads r j → x ≡ reads r j
only_reads true x e = e
only_reads false x e = absurd (cc e)

pub same_edges : (xs rs : List ℕ) → goes xs ≡ goes rs → xs ≡ rs
same_edges xs rs e = cc e

pub no_edge : {r : ℕ} (rs : List ℕ) (c : ℕ) → rs ≡ [] → slice_get rs c ≡ Some r → ⊥
no_edge [] c e at = absurd (cc at)
no_edge (x ∷ rs) c e at = absurd (cc e)

pub only_goes : {r : ℕ} (b : Bool) (x : Move ℕ) (rs : List ℕ) (c : ℕ) → only_if b x ≡ goes rs → slice_get rs c ≡ Some r → x ≡ goes rs
only_goes true x rs c e at = e
only_goes false x rs c e at = absurd (no_edge rs c (same_edges rs [] (sym e)) at)

pub read_not_ends : {p : ℕ} (r j : ℕ) (o : Option ℕ) → read_up_to r j o ≡ ends p → ⊥
read_not_ends r j None e = absurd (cc e)
read_not_ends r j (Some n) e = absurd (cc e)

pub read_not_goes : {to : ℕ} (r j : ℕ) (o : Option ℕ) (rs : List ℕ) (c : ℕ) → read_up_to r j o ≡ goes rs → slice_get rs c ≡ Some to → ⊥
read_not_goes r j None rs c e at = no_edge rs c (same_edges rs [] (sym e)) at
read_not_goes r j (Some n) rs c e at = absurd (cc e)

read_leads : {to j' : ℕ} (low high r j : ℕ) (o : Option ℕ) → Among low high r → read_up_to r j o ≡ reads to j' → Among low high to
read_leads low high r j None among e = absurd (cc e)
read_leads {to = to} low high r j (Some n) among e = let same : r ≡ to = cc e in subst (Among low high) same among

-- what holds of all edges of a node holds of the one that is taken
pub edge_of : (P : ℕ → Type 0) (xs rs : List ℕ) (c r : ℕ) → goes xs ≡ goes rs → All P xs → slice_get rs c ≡ Some r → P r
edge_of P xs rs c r e all at =
    let edges : All P rs = subst (All P) (same_edges xs rs e) all in
    subst P (get_or_from_slice_get rs c r r at) (All-get_or P rs c r (slice_get_within rs c r at) edges)

pub only_edge : (rs : List ℕ) (c r to : ℕ) → goes (to ∷ []) ≡ goes rs → slice_get rs c ≡ Some r → r ≡ to
only_edge rs c r to e at = edge_of (λ x. x ≡ to) (to ∷ []) rs c r e (All-cons (λ x. x ≡ to) to [] refl (All-nil (λ x. x ≡ to))) at

-- ---- notes

pub other_slot : (slot asked j : ℕ) (n : Notes) → (asked ≡ slot → ⊥) → slot_of (put_note slot j n) asked ≡ slot_of n asked
other_slot slot asked j n other = ap (λ b. cond b (Some j) (last_noted asked n.noted)) (ne_eqb asked slot other)

pub this_slot : (slot j : ℕ) (n : Notes) → slot_of (put_note slot j n) slot ≡ Some j
this_slot slot j n = ap (λ b. cond b (Some j) (last_noted slot n.noted)) (eq-eqb slot slot refl)

start_noted : (j : ℕ) (a_node : Option (Node walks.Look (List Range))) (n : Notes) → (note_at put_note j a_node n).start ≡ n.start
start_noted j None n = refl
start_noted j (Some (match p)) n = refl
start_noted j (Some (pass rs)) n = refl
start_noted j (Some (note slot r)) n = refl
start_noted j (Some (look asked r)) n = refl
start_noted j (Some (set x r)) n = refl

-- ---- at an inner node

module _ (first : List Range → List ℕ → Option ℕ) (h : Haystack walks.Look) (least low high : ℕ) where
  stays_notes : (j : ℕ) (a_node : Node walks.Look (List Range)) (n : Notes) (asked : ℕ) → asked < least → Stays least low high a_node → slot_of (note_at put_note j (Some a_node) n) asked ≡ slot_of n asked
  stays_notes j (match p) n asked below stays = absurd stays
  stays_notes j (pass rs) n asked below stays = refl
  stays_notes j (note slot r) n asked below stays = other_slot slot asked j n (λ e. absurd (omega (arith, e, below, stays.above)))
  stays_notes j (look l r) n asked below stays = refl
  stays_notes j (set x r) n asked below stays = refl

  stays_on : {p : ℕ} (j : ℕ) (a_node : Node walks.Look (List Range)) → Stays least low high a_node → by_character first h j (Some a_node) ≡ ends p → ⊥
  stays_on j (match k) stays e = absurd stays
  stays_on j (pass rs) stays e = absurd (cc e)
  stays_on j (note slot r) stays e = absurd (cc e)
  stays_on j (look l r) stays e = absurd (cc (only_ends (h.holds l j) (goes (r ∷ [])) e))
  stays_on j (set x r) stays e = read_not_ends r j (first x (left_from h j)) e

  stays_goes : (j : ℕ) (a_node : Node walks.Look (List Range)) (rs : List ℕ) (c to : ℕ) → Stays least low high a_node → by_character first h j (Some a_node) ≡ goes rs → slice_get rs c ≡ Some to → Among low high to
  stays_goes j (match k) rs c to stays e at = absurd stays
  stays_goes j (pass xs) rs c to stays e at = edge_of (Among low high) xs rs c to e stays at
  stays_goes j (note slot r) rs c to stays e at = edge_of (Among low high) (r ∷ []) rs c to e (one_edge low high r stays.among) at
  stays_goes j (look l r) rs c to stays e at = edge_of (Among low high) (r ∷ []) rs c to (only_goes (h.holds l j) (goes (r ∷ [])) rs c e at) (one_edge low high r stays) at
  stays_goes j (set x r) rs c to stays e at = absurd (read_not_goes r j (first x (left_from h j)) rs c e at)

  stays_reads : (j : ℕ) (a_node : Node walks.Look (List Range)) (to j' : ℕ) → Stays least low high a_node → by_character first h j (Some a_node) ≡ reads to j' → Among low high to
  stays_reads j (match k) to j' stays e = absurd stays
  stays_reads j (pass rs) to j' stays e = absurd (cc e)
  stays_reads j (note slot r) to j' stays e = absurd (cc e)
  stays_reads j (look l r) to j' stays e = absurd (cc (only_reads (h.holds l j) (goes (r ∷ [])) e))
  stays_reads j (set x r) to j' stays e = read_leads low high r j (first x (left_from h j)) stays e

-- ---- walks

-- a match of pattern k that has noted its start, i, and its end
pub record Noted (k i : ℕ) (t : Outcome Notes) : Type 0 where
  pub pattern : t.pattern ≡ k
  pub start : slot_of t.notes (2 * k) ≡ Some i
  pub end : slot_of t.notes (2 * k + 1) ≡ Some t.end

module _ (first : List Range → List ℕ → Option ℕ) (h : Haystack walks.Look) (nodes : Code) where
  pub start_kept : {seen : List ℕ} {n : Notes} {q j : ℕ} {cs : List ℕ} {t : Outcome Notes} → Walk (over_characters put_note first nodes h) seen n q j cs t → t.notes.start ≡ n.start
  start_kept (ended new is) = refl
  start_kept (went {n = n} {q = q} {i = j} rs r new is at w) = start_kept w ∙ start_noted j (slice_get nodes q) n
  start_kept (took r j new is w) = start_kept w

  pub ends_by : (q j p : ℕ) (a_node : Option (Node walks.Look (List Range))) → slice_get nodes q ≡ a_node → (over_characters put_note first nodes h).move j q ≡ ends p → by_character first h j a_node ≡ ends p
  ends_by q j p a_node at e = only_ends (is_within h.low h.high j) (by_character first h j a_node) (subst (λ z. only_if (is_within h.low h.high j) (by_character first h j z) ≡ ends p) at e)

  pub goes_by : (q j : ℕ) (rs : List ℕ) (c r : ℕ) (a_node : Option (Node walks.Look (List Range))) → slice_get nodes q ≡ a_node → (over_characters put_note first nodes h).move j q ≡ goes rs → slice_get rs c ≡ Some r
      → by_character first h j a_node ≡ goes rs
  goes_by q j rs c r a_node at e on = only_goes (is_within h.low h.high j) (by_character first h j a_node) rs c (subst (λ z. only_if (is_within h.low h.high j) (by_character first h j z) ≡ goes rs) at e) on

  pub reads_by : (q j r j' : ℕ) (a_node : Option (Node walks.Look (List Range))) → slice_get nodes q ≡ a_node → (over_characters put_note first nodes h).move j q ≡ reads r j' → by_character first h j a_node ≡ reads r j'
  reads_by q j r j' a_node at e = only_reads (is_within h.low h.high j) (by_character first h j a_node) (subst (λ z. only_if (is_within h.low h.high j) (by_character first h j z) ≡ reads r j') at e)

  -- at the node of the match
  at_match : {seen : List ℕ} {n : Notes} {q j : ℕ} {cs : List ℕ} {t : Outcome Notes} (k i : ℕ) → slice_get nodes q ≡ Some (match k) → slot_of n (2 * k) ≡ Some i → slot_of n (2 * k + 1) ≡ Some j
      → Walk (over_characters put_note first nodes h) seen n q j cs t → Noted k i t
  at_match k i at start end (ended {q = q} {i = j} {p = p} new is) = let same : p ≡ k = cc (ends_by q j p (Some (match k)) at is) in record { pattern = same; start = start; end = end }
  at_match k i at start end (went {q = q} {i = j} {k = c} rs r new is on w) = absurd (cc (goes_by q j rs c r (Some (match k)) at is on))
  at_match k i at start end (took {q = q} {i = j} r j' new is w) = absurd (cc (reads_by q j r j' (Some (match k)) at is))

  -- at the node that notes the end
  at_last : {seen : List ℕ} {n : Notes} {q j : ℕ} {cs : List ℕ} {t : Outcome Notes} (k i last : ℕ) → slice_get nodes q ≡ Some (note (2 * k + 1) (last + 1)) → slice_get nodes (last + 1) ≡ Some (match k) → slot_of n (2 * k) ≡ Some i
      → Walk (over_characters put_note first nodes h) seen n q j cs t → Noted k i t
  at_last k i last at behind_is start (ended {q = q} {i = j} {p = p} new is) = absurd (cc (ends_by q j p (Some (note (2 * k + 1) (last + 1))) at is))
  at_last k i last at behind_is start (went {n = n} {q = q} {i = j} {k = c} rs r new is on w) =
      let to : r ≡ last + 1 = only_edge rs c r (last + 1) (goes_by q j rs c r (Some (note (2 * k + 1) (last + 1))) at is on) on in
      let noted : note_at put_note j (slice_get nodes q) n ≡ put_note (2 * k + 1) j n = ap (λ z. note_at put_note j z n) at in
      at_match {n = note_at put_note j (slice_get nodes q) n} {q = r} {j = j} k i (ap (slice_get nodes) to ∙ behind_is)
      (ap (λ x. slot_of x (2 * k)) noted ∙ other_slot (2 * k + 1) (2 * k) j n (λ e. absurd (omega (arith, e))) ∙ start)
      (ap (λ x. slot_of x (2 * k + 1)) noted ∙ this_slot (2 * k + 1) j n) w
  at_last k i last at behind_is start (took {q = q} {i = j} r j' new is w) = absurd (cc (reads_by q j r j' (Some (note (2 * k + 1) (last + 1))) at is))

  module _ (k at last : ℕ) (has : HasPattern nodes k at last) where
    -- from an inner node, or the one that notes the end
    from_inner : {seen : List ℕ} {n : Notes} {q j : ℕ} {cs : List ℕ} {t : Outcome Notes} (i : ℕ) → at < q → q ≤ last → slot_of n (2 * k) ≡ Some i → Walk (over_characters put_note first nodes h) seen n q j cs t → Noted k i t
    from_inner i from to start (ended {seen = seen} {n = n} {q = q} {i = j} {p = p} new is) = elim (cases_order q last) [
      | inl e ↦ at_last {seen = seen} {n = n} {q = q} {j = j} k i last (ap (slice_get nodes) e ∙ has.last_is) has.end_is start (ended {seen = seen} {n = n} {q = q} {i = j} {p = p} new is)
      | inr (inl below) ↦ let here = has.inner q from below in absurd (stays_on first h has.least at last j here.node here.stays (ends_by q j p (Some here.node) here.is is))
      | inr (inr above) ↦ absurd (omega (arith, to, above))
    ]
    from_inner i from to start (went {seen = seen} {n = n} {q = q} {i = j} {k = c} rs r new is on w) = elim (cases_order q last) [
      | inl e ↦ at_last {seen = seen} {n = n} {q = q} {j = j} k i last (ap (slice_get nodes) e ∙ has.last_is) has.end_is start (went {seen = seen} {n = n} {q = q} {i = j} {k = c} rs r new is on w)
      | inr (inl below) ↦
          let here = has.inner q from below in
          let among : Among at last r = stays_goes first h has.least at last j here.node rs c r here.stays (goes_by q j rs c r (Some here.node) here.is is on) on in
          let kept : slot_of (note_at put_note j (slice_get nodes q) n) (2 * k) ≡ slot_of n (2 * k) =
          ap (λ z. slot_of (note_at put_note j z n) (2 * k)) here.is ∙ stays_notes first h has.least at last j here.node n (2 * k) (omega (arith, has.above)) here.stays in
          from_inner {n = note_at put_note j (slice_get nodes q) n} {q = r} {j = j} i among.0 among.1 (kept ∙ start) w
      | inr (inr above) ↦ absurd (omega (arith, to, above))
    ]
    from_inner i from to start (took {seen = seen} {n = n} {q = q} {i = j} r j' new is w) = elim (cases_order q last) [
      | inl e ↦ at_last {seen = seen} {n = n} {q = q} {j = j} k i last (ap (slice_get nodes) e ∙ has.last_is) has.end_is start (took {seen = seen} {n = n} {q = q} {i = j} r j' new is w)
      | inr (inl below) ↦
          let here = has.inner q from below in
          let among : Among at last r = stays_reads first h has.least at last j here.node r j' here.stays (reads_by q j r j' (Some here.node) here.is is) in
          from_inner {n = n} {q = r} {j = j'} i among.0 among.1 start w
      | inr (inr above) ↦ absurd (omega (arith, to, above))
    ]

    -- from the pattern's own start
    pub from_start : {seen : List ℕ} {n : Notes} {q j : ℕ} {cs : List ℕ} {t : Outcome Notes} → q ≡ at → Walk (over_characters put_note first nodes h) seen n q j cs t → Noted k j t
    from_start e (ended {q = q} {i = j} {p = p} new is) = absurd (cc (ends_by q j p (Some (note (2 * k) (at + 1))) (ap (slice_get nodes) e ∙ has.first_is) is))
    from_start e (went {n = n} {q = q} {i = j} {k = c} rs r new is on w) =
        let here : slice_get nodes q ≡ Some (note (2 * k) (at + 1)) = ap (slice_get nodes) e ∙ has.first_is in
        let to : r ≡ at + 1 = only_edge rs c r (at + 1) (goes_by q j rs c r (Some (note (2 * k) (at + 1))) here is on) on in
        let noted : note_at put_note j (slice_get nodes q) n ≡ put_note (2 * k) j n = ap (λ z. note_at put_note j z n) here in
        from_inner {n = note_at put_note j (slice_get nodes q) n} {q = r} {j = j} j (omega (arith, to)) (omega (arith, to, has.some)) (ap (λ x. slot_of x (2 * k)) noted ∙ this_slot (2 * k) j n) w
    from_start e (took {q = q} {i = j} r j' new is w) = absurd (cc (reads_by q j r j' (Some (note (2 * k) (at + 1))) (ap (slice_get nodes) e ∙ has.first_is) is))

-- ---- one pattern

pub from_one : (tree : Tree) → IsWellFormed tree → FromOne (numbers_of tree)
from_one tree well = All-from_get_or (λ x. 1 ≤ x) (numbers_of tree) 0 (λ c below. omega (arith, well.numbered c below))

pub stands_alone : (tree : Tree) → IsWellFormed tree → HasPattern (pattern_code 0 0 tree 0) 0 0 (0 + 1 + size_of tree)
stands_alone tree well = pattern_stands (pattern_code 0 0 tree 0) 0 0 tree 0 (omega arith) (from_one tree well) (code_length 0 tree (0 + 1) (0 + 1 + size_of tree))
    (λ c below. let same : 0 + c ≡ c = omega arith in ap (slice_get (pattern_code 0 0 tree 0)) same)

pub first_start : (tree : Tree) (terminator q : ℕ) (anchoring : Anchoring) → start_node (program_of (tree ∷ []) terminator) anchoring ≡ Some q → q ≡ 0
first_start tree terminator q unanchored e = cc e
first_start tree terminator q anchored e = cc e
first_start tree terminator q (anchored_pattern zero) e = cc e
first_start tree terminator q (anchored_pattern (suc p)) e = absurd (cc e)

module _ (tree : Tree) (terminator : ℕ) (well : IsWellFormed tree) (is_word : ℕ → Bool) (s : Search) where
  walk_notes : {q i : ℕ} {cs : List ℕ} {t : Outcome Notes} → q ≡ 0 → Walk (machine_of is_in is_word (program_of (tree ∷ []) terminator) s) [] (fresh_notes i) q i cs t → HasNoted i t
  walk_notes e w =
      let noted = from_start (first_by is_in) (haystack_of (holds_in is_word terminator s) s) (pattern_code 0 0 tree 0) 0 0 (0 + 1 + size_of tree) (stands_alone tree well) e w in
      record { pattern = noted.pattern; start = noted.start; end = noted.end }

  find_notes : (q : ℕ) (t : Outcome Notes) → q ≡ 0 → IsFind (machine_of is_in is_word (program_of (tree ∷ []) terminator) s) fresh_notes s q (Some t) → HasNoted (start_of t) t
  find_notes q t e (is_found {i = i} counts before_it) =
      let kept : t.notes.start ≡ i = start_kept (first_by is_in) (haystack_of (holds_in is_word terminator s) s) (pattern_code 0 0 tree 0) counts.least.walk in
      subst (λ x. HasNoted x t) (sym kept) (walk_notes e counts.least.walk)

  finds_note : (t : Outcome Notes) → ProgramFinds is_in is_word (program_of (tree ∷ []) terminator) s (Some t) → HasNoted (start_of t) t
  finds_note t finds = by_start (start_node (program_of (tree ∷ []) terminator) s.anchoring) refl finds
    where
      by_start : (o : Option ℕ) → start_node (program_of (tree ∷ []) terminator) s.anchoring ≡ o → IfStarts o (IsFind (machine_of is_in is_word (program_of (tree ∷ []) terminator) s) fresh_notes s) (Some t) → HasNoted (start_of t) t
      by_start None e none = absurd (cc none)
      by_start (Some q) e found = find_notes q t (first_start tree terminator q s.anchoring e) found

  notes_places : NotesPlaces is_word (program_of (tree ∷ []) terminator) s
  notes_places = record { walks = λ i choices t w. walk_notes refl w; finds = λ t finds. finds_note t finds }

pub matches_note_their_places : MatchesNoteTheirPlaces
matches_note_their_places tree terminator well is_word p s e = subst (λ x. NotesPlaces is_word x s) (sym e) (notes_places tree terminator well is_word s)
