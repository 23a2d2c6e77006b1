-- Of a group's two slots both have an offset or neither, and the second one's isn't less than the
-- first one's.
use Rattle.std.proofs.Common.{◌≡◌, ℕ, zero, suc, ◌+◌, ◌-◌, ◌*◌, ◌<◌, ◌≤◌, Bool, true, false, List, [], ◌∷◌, ◌++◌, length, get_or, Option, Some, None, slice_get, refl, sym, ap, subst, ◌∙◌, arith, inl, inr, length-append}
use Rattle.std.specs.List.{All}
use Rattle.std.proofs.lemmas.Bool.{cases_eq}
use Rattle.std.proofs.lemmas.Option.{slice_get_within, get_or_from_slice_get}
use Rattle.std.proofs.lemmas.List.Elements.{All-cons, All-nil, All-head, All-tail, All-get_or, All-from_get_or, All-weaker}
use Rattle.rx_sets.specs.Sets.{Range}
use Rattle.rx_utf8.specs.Automata.{is_in}
use Rattle.rx_grammar.specs.Trees.{Tree, Trees, empty, one_of, look_at, group, concat, alternation, repeated, two, more, Name, numbers_of, all_numbers_of}
use Rattle.rx_grammar.specs.Subtrees.{IsWellFormed}
use Rattle.rx_grammar.specs.Weights.{may_be_empty, size_of}
use Rattle.rx_walks.specs.Looks as walks
use Rattle.rx_walks.specs.Machines.{Machine, ends, goes, reads, Outcome}
use Rattle.rx_walks.specs.Walks.{Walk, ended, went, took}
use Rattle.rx_walks.specs.Finds.{Anchoring, unanchored, anchored, anchored_pattern, Search, IsFind, is_found}
use Rattle.rx_walks.specs.Programs.{Node, match, pass, note, look, set, Program, Haystack, left_from, read_up_to, by_character, note_at, over_characters, Notes, fresh_notes, put_note, slot_of}
use Rattle.rx_walks.specs.ProgramFinds.{first_by, holds_in, haystack_of, machine_of, start_node, IfStarts, ProgramFinds}
use Rattle.rx_program.specs.Code.{Code, place_of, fork, entry_of, copies, optional, repetition_code, branch_starts, code_of, row_code, branches_code, pattern_code, patterns_code, pattern_starts, program_of}
use Rattle.rx_program.specs.Laws.{IsNotedWhole, not_noted, noted, NotesGroups, GroupsAreNotedWhole}
use Rattle.rx_program.proofs.ClosedLaws.{several, code_length, copies_length}
use Rattle.rx_program.proofs.NoteLaws.{all_left, all_right, in_front, behind, from_one, first_start, only_ends, only_reads, only_goes, read_not_ends, read_not_goes, edge_of, other_slot, this_slot, ends_by, goes_by, reads_by}

abbrev pub ANode : Type 0
ANode = Node walks.Look (List Range)

-- ---- the edges of a node

abbrev edges_of : ANode → List ℕ
edges_of (match k) = []
edges_of (pass rs) = rs
edges_of (note slot r) = r ∷ []
edges_of (look l r) = r ∷ []
edges_of (set x r) = r ∷ []

abbrev EndsNone : ANode → Type 0
EndsNone (match k) = ⊥
EndsNone (pass rs) = Unit {0}
EndsNone (note slot r) = Unit {0}
EndsNone (look l r) = Unit {0}
EndsNone (set x r) = Unit {0}

-- it ends no match and notes nothing
abbrev IsQuiet : ANode → Type 0
IsQuiet (match k) = ⊥
IsQuiet (pass rs) = Unit {0}
IsQuiet (note slot r) = ⊥
IsQuiet (look l r) = Unit {0}
IsQuiet (set x r) = Unit {0}

quiet_ends_none : (x : ANode) → IsQuiet x → EndsNone x
quiet_ends_none (match k) quiet = quiet
quiet_ends_none (pass rs) quiet = tt
quiet_ends_none (note slot r) quiet = tt
quiet_ends_none (look l r) quiet = tt
quiet_ends_none (set x r) quiet = tt

quiet_notes : (x : ANode) → IsQuiet x → (j : ℕ) (n : Notes) → note_at put_note j (Some x) n ≡ n
quiet_notes (match k) quiet j n = refl
quiet_notes (pass rs) quiet j n = refl
quiet_notes (note slot r) quiet j n = absurd quiet
quiet_notes (look l r) quiet j n = refl
quiet_notes (set x r) quiet j n = refl

read_leads_to : {to j' : ℕ} (r j : ℕ) (o : Option ℕ) → read_up_to r j o ≡ reads to j' → r ≡ to
read_leads_to r j None e = absurd (cc e)
read_leads_to r j (Some n) e = cc e

read_behind : {to j' : ℕ} (r j : ℕ) (o : Option ℕ) → read_up_to r j o ≡ reads to j' → j ≤ j'
read_behind r j None e = absurd (cc e)
read_behind {j' = j'} r j (Some n) e = let same : j + n ≡ j' = cc e in omega (arith, same)

one_edge : (P : ℕ → Type 0) (r : ℕ) → P r → All P (r ∷ [])
one_edge P r h = All-cons P r [] h (All-nil P)

two_edges : (P : ℕ → Type 0) (r q : ℕ) → P r → P q → All P (r ∷ q ∷ [])
two_edges P r q h i = All-cons P r (q ∷ []) h (one_edge P q i)

module _ (first : List Range → List ℕ → Option ℕ) (h : Haystack walks.Look) (j : ℕ) where
  never_ends : {p : ℕ} (x : ANode) → EndsNone x → by_character first h j (Some x) ≡ ends p → ⊥
  never_ends (match k) none e = none
  never_ends (pass rs) none e = cc e
  never_ends (note slot r) none e = cc e
  never_ends (look l r) none e = cc (only_ends (h.holds l j) (goes (r ∷ [])) e)
  never_ends (set x r) none e = read_not_ends r j (first x (left_from h j)) e

  edge_taken : (P : ℕ → Type 0) (x : ANode) (rs : List ℕ) (c to : ℕ) → All P (edges_of x) → by_character first h j (Some x) ≡ goes rs → slice_get rs c ≡ Some to → P to
  edge_taken P (match k) rs c to all e at = absurd (cc e)
  edge_taken P (pass xs) rs c to all e at = edge_of P xs rs c to e all at
  edge_taken P (note slot r) rs c to all e at = edge_of P (r ∷ []) rs c to e all at
  edge_taken P (look l r) rs c to all e at = edge_of P (r ∷ []) rs c to (only_goes (h.holds l j) (goes (r ∷ [])) rs c e at) all at
  edge_taken P (set x r) rs c to all e at = absurd (read_not_goes r j (first x (left_from h j)) rs c e at)

  read_taken : (P : ℕ → Type 0) (x : ANode) (to j' : ℕ) → All P (edges_of x) → by_character first h j (Some x) ≡ reads to j' → P to
  read_taken P (match k) to j' all e = absurd (cc e)
  read_taken P (pass rs) to j' all e = absurd (cc e)
  read_taken P (note slot r) to j' all e = absurd (cc e)
  read_taken P (look l r) to j' all e = absurd (cc (only_reads (h.holds l j) (goes (r ∷ [])) e))
  read_taken P (set x r) to j' all e = subst P (read_leads_to r j (first x (left_from h j)) e) (All-head P r [] all)

  read_notes : (x : ANode) (to j' : ℕ) (n : Notes) → by_character first h j (Some x) ≡ reads to j' → note_at put_note j (Some x) n ≡ n
  read_notes (match k) to j' n e = refl
  read_notes (pass rs) to j' n e = refl
  read_notes (note slot r) to j' n e = absurd (cc e)
  read_notes (look l r) to j' n e = refl
  read_notes (set x r) to j' n e = refl

  read_later : (x : ANode) (to j' : ℕ) → by_character first h j (Some x) ≡ reads to j' → j ≤ j'
  read_later (match k) to j' e = absurd (cc e)
  read_later (pass rs) to j' e = absurd (cc e)
  read_later (note slot r) to j' e = absurd (cc e)
  read_later (look l r) to j' e = absurd (cc (only_reads (h.holds l j) (goes (r ∷ [])) e))
  read_later (set x r) to j' e = read_behind r j (first x (left_from h j)) e

-- ---- walks of a limited number of steps

abbrev walk_size : {Q N : Type 0} {m : Machine Q N} {seen : List Q} {n : N} {q : Q} {i : ℕ} {cs : List ℕ} {t : Outcome N} → Walk m seen n q i cs t → ℕ
walk_size (ended new is) = 0
walk_size (went rs r new is at w) = suc (walk_size w)
walk_size (took r j new is w) = suc (walk_size w)

module _ (first : List Range → List ℕ → Option ℕ) (h : Haystack walks.Look) (nodes : Code) (Post : Notes → Type 0) where
  -- if Pre holds of the notes and the offset, each such walk from this node gives notes of which
  -- Post holds
  abbrev LeadsTo : (Notes → ℕ → Type 0) → ℕ → ℕ → Type 0
  LeadsTo Pre count q = (seen : List ℕ) (n : Notes) (j : ℕ) (cs : List ℕ) (t : Outcome Notes) (w : Walk (over_characters put_note first nodes h) seen n q j cs t) → walk_size w < count → Pre n j → Post t.notes

  none_leads : (Pre : Notes → ℕ → Type 0) (q : ℕ) → LeadsTo Pre 0 q
  none_leads Pre q seen n j cs t w small pre = absurd (omega (arith, small))

  fewer_lead : (Pre : Notes → ℕ → Type 0) (count q : ℕ) → LeadsTo Pre (suc count) q → LeadsTo Pre count q
  fewer_lead Pre count q leads seen n j cs t w small pre = leads seen n j cs t w (omega (arith, small)) pre

  node_leads : (Pre Pre' : Notes → ℕ → Type 0) (count q : ℕ) (x : ANode) → slice_get nodes q ≡ Some x → EndsNone x → ((n : Notes) (j : ℕ) → Pre n j → Pre' (note_at put_note j (Some x) n) j)
      → ((n : Notes) (i j : ℕ) → i ≤ j → Pre' n i → Pre' n j) → All (LeadsTo Pre' count) (edges_of x) → LeadsTo Pre (suc count) q
  node_leads Pre Pre' count q x at none turns later edges seen n j cs t (ended {p = p} new is) small pre = absurd (never_ends first h j x none (ends_by first h nodes q j p (Some x) at is))
  node_leads Pre Pre' count q x at none turns later edges seen n j cs t (went {k = c} {cs = cs'} rs r new is on w) small pre =
      edge_taken first h j (LeadsTo Pre' count) x rs c r edges (goes_by first h nodes q j rs c r (Some x) at is on) on
      (q ∷ seen) (note_at put_note j (slice_get nodes q) n) j cs' t w (omega (arith, small)) (subst (λ z. Pre' (note_at put_note j z n) j) (sym at) (turns n j pre))
  node_leads Pre Pre' count q x at none turns later edges seen n j cs t (took r j' new is w) small pre =
      let e = reads_by first h nodes q j r j' (Some x) at is in
      read_taken first h j (LeadsTo Pre' count) x r j' edges e
      [] n j' cs t w (omega (arith, small)) (later n j j' (read_later first h j x r j' e) (subst (λ z. Pre' z j) (read_notes first h j x r j' n e) (turns n j pre)))

  match_leads : (Pre : Notes → ℕ → Type 0) (count q p : ℕ) → slice_get nodes q ≡ Some (match p) → ((n : Notes) (j : ℕ) → Pre n j → Post n) → LeadsTo Pre count q
  match_leads Pre count q p at post seen n j cs t (ended new is) small pre = post n j pre
  match_leads Pre count q p at post seen n j cs t (went {k = c} rs r new is on w) small pre = absurd (cc (goes_by first h nodes q j rs c r (Some (match p)) at is on))
  match_leads Pre count q p at post seen n j cs t (took r j' new is w) small pre = absurd (cc (reads_by first h nodes q j r j' (Some (match p)) at is))

-- ---- where code is among nodes

module _ (nodes : Code) where
  abbrev pub Stands : ℕ → Code → Type 0
  Stands at code = (c : ℕ) → c < length code → slice_get nodes (at + c) ≡ slice_get code c

  pub stands_left : (at : ℕ) (xs ys : Code) → Stands at (xs ++ ys) → Stands at xs
  stands_left at xs ys stands c below = stands c (omega (arith, below, length-append xs ys)) ∙ in_front xs ys c below

  pub stands_right : (at s : ℕ) (xs ys : Code) → length xs ≡ s → Stands at (xs ++ ys) → Stands (at + s) ys
  stands_right at s xs ys count stands c below =
      let same : at + s + c ≡ at + (length xs + c) = omega (arith, count) in
      ap (slice_get nodes) same ∙ stands (length xs + c) (omega (arith, below, length-append xs ys)) ∙ behind xs ys c

  pub stands_first : (at : ℕ) (x : ANode) (xs : Code) → Stands at (x ∷ xs) → slice_get nodes at ≡ Some x
  stands_first at x xs stands = let same : at ≡ at + 0 = omega arith in ap (slice_get nodes) same ∙ stands 0 (omega arith)

  pub stands_behind : (at : ℕ) (x : ANode) (xs : Code) → Stands at (x ∷ xs) → Stands (at + 1) xs
  stands_behind at x xs stands c below = let same : at + 1 + c ≡ at + suc c = omega arith in ap (slice_get nodes) same ∙ stands (suc c) (omega (arith, below))

-- for a part: what holds of the node to which it leads holds of its entry
abbrev PartPasses : Code → (ℕ → ℕ → Type 0) → (ℕ → ℕ → Code) → Type 0
PartPasses nodes Leads h = (at next count : ℕ) → Stands nodes at (h at next) → Leads count next → Leads count at

-- ---- parts of a tree, if `Leads` holds of a node when it holds of those to which its edges lead

module _ (nodes : Code) (Leads : ℕ → ℕ → Type 0) (none : (q : ℕ) → Leads 0 q) (fewer : (count q : ℕ) → Leads (suc count) q → Leads count q)
    (quiet : (count q : ℕ) (x : ANode) → slice_get nodes q ≡ Some x → IsQuiet x → All (Leads count) (edges_of x) → Leads (suc count) q) where
  abbrev Passes : (ℕ → ℕ → Code) → Type 0
  Passes h = PartPasses nodes Leads h

  fork_leads : (g : Bool) (count q into on : ℕ) → slice_get nodes q ≡ Some (fork g into on) → Leads count into → Leads count on → Leads (suc count) q
  fork_leads true count q into on at a b = quiet count q (pass (into ∷ on ∷ [])) at tt (two_edges (Leads count) into on a b)
  fork_leads false count q into on at a b = quiet count q (pass (on ∷ into ∷ [])) at tt (two_edges (Leads count) on into b a)

  loop_leads : (g : Bool) (q into on : ℕ) → slice_get nodes q ≡ Some (fork g into on) → ((count : ℕ) → Leads count q → Leads count into) → (count : ℕ) → Leads count on → Leads count q
  loop_leads g q into on at body zero leads = none q
  loop_leads g q into on at body (suc count) leads =
      let on_it = fewer count on leads in
      fork_leads g count q into on at (body count (loop_leads g q into on at body count on_it)) on_it

  module _ (s : ℕ) (h : ℕ → ℕ → Code) (size : (at next : ℕ) → length (h at next) ≡ s) (part : Passes h) where
    copies_pass : (k at next count : ℕ) → Stands nodes at (copies s h k at next) → Leads count next → Leads count (entry_of k at next)
    copies_pass zero at next count stands leads = leads
    copies_pass (suc k) at next count stands leads =
        let inner = entry_of k (at + s) next in
        part at inner count (stands_left nodes at (h at inner) (copies s h k (at + s) next) stands)
        (copies_pass k (at + s) next count (stands_right nodes at s (h at inner) (copies s h k (at + s) next) (size at inner) stands) leads)

    last_copy_passes : (k at next count : ℕ) → Stands nodes at (copies s h (suc k) at next) → Leads count next → Leads count (at + k * s)
    last_copy_passes zero at next count stands leads =
        let same : at ≡ at + zero * s = omega arith in
        subst (Leads count) same (part at next count (stands_left nodes at (h at next) [] stands) leads)
    last_copy_passes (suc k) at next count stands leads =
        let inner = entry_of (suc k) (at + s) next in
        let same : at + s + k * s ≡ at + suc k * s = omega arith in
        subst (Leads count) same (last_copy_passes k (at + s) next count (stands_right nodes at s (h at inner) (copies s h (suc k) (at + s) next) (size at inner) stands) leads)

    optional_passes : (g : Bool) (k at next count : ℕ) → Stands nodes at (optional g s h k at next) → Leads count next → Leads count (entry_of k at next)
    optional_passes g zero at next count stands leads = leads
    optional_passes g (suc k) at next count stands leads =
        let inner = entry_of k (at + 1 + s) next in
        let code = h (at + 1) inner in
        let others = optional g s h k (at + 1 + s) next in
        let behind_it = stands_behind nodes at (fork g (at + 1) next) (code ++ others) stands in
        let rest = optional_passes g k (at + 1 + s) next count (stands_right nodes (at + 1) s code others (size (at + 1) inner) behind_it) leads in
        fewer count at (fork_leads g count at (at + 1) next (stands_first nodes at (fork g (at + 1) next) (code ++ others) stands) (part (at + 1) inner count (stands_left nodes (at + 1) code others behind_it) rest) leads)

    some_copies_pass : (g : Bool) (k m at next count : ℕ) → Stands nodes at (repetition_code g k (Some (suc m)) s false h at next) → Leads count next → Leads count (entry_of k at (entry_of (suc m - k) (at + k * s) next))
    some_copies_pass g k m at next count stands leads =
        let inner = entry_of (suc m - k) (at + k * s) next in
        let code = copies s h k at inner in
        let others = optional g s h (suc m - k) (at + k * s) next in
        copies_pass k at inner count (stands_left nodes at code others stands) (optional_passes g (suc m - k) (at + k * s) next count (stands_right nodes at (k * s) code others (copies_length s h size k at inner) stands) leads)

    repetition_passes : (g : Bool) (k : ℕ) (most : Option ℕ) (may : Bool) → Passes (repetition_code g k most s may h)
    repetition_passes g k (Some zero) may at next count stands leads =
        fewer count at (quiet count at (pass (next ∷ [])) (stands_first nodes at (pass (next ∷ [])) [] stands) tt (one_edge (Leads count) next leads))
    repetition_passes g zero (Some (suc m)) may at next count stands leads =
        let most : suc m - 0 ≡ suc m = omega arith in
        let same : at + 0 * s ≡ at = omega arith in
        subst (Leads count) same (subst (λ k. Leads count (entry_of k (at + 0 * s) next)) most (some_copies_pass g zero m at next count stands leads))
    repetition_passes g (suc k) (Some (suc m)) may at next count stands leads = some_copies_pass g (suc k) m at next count stands leads
    repetition_passes g zero None false at next count stands leads =
        let code = h (at + 1) at in
        loop_leads g at (at + 1) next (stands_first nodes at (fork g (at + 1) next) code stands) (λ count' on. part (at + 1) at count' (stands_behind nodes at (fork g (at + 1) next) code stands) on) count leads
    repetition_passes g zero None true at next count stands leads =
        let last = at + 1 + s in
        let a_fork = fork g (at + 1) next in
        let code = h (at + 1) last in
        let behind_it = stands_behind nodes at a_fork (code ++ a_fork ∷ []) stands in
        let body : (count' : ℕ) → Leads count' last → Leads count' (at + 1) = λ count' on. part (at + 1) last count' (stands_left nodes (at + 1) code (a_fork ∷ []) behind_it) on in
        let loop = loop_leads g last (at + 1) next (stands_first nodes last a_fork [] (stands_right nodes (at + 1) s code (a_fork ∷ []) (size (at + 1) last) behind_it)) body count leads in
        fewer count at (fork_leads g count at (at + 1) next (stands_first nodes at a_fork (code ++ a_fork ∷ []) stands) (body count loop) leads)
    repetition_passes g (suc k) None may at next count stands leads =
        let last = at + suc k * s in
        let code = copies s h (suc k) at last in
        let a_fork = fork g (at + k * s) next in
        let front = stands_left nodes at code (a_fork ∷ []) stands in
        let at_last = stands_first nodes last a_fork [] (stands_right nodes at (suc k * s) code (a_fork ∷ []) (copies_length s h size (suc k) at last) stands) in
        copies_pass (suc k) at last count front (loop_leads g last (at + k * s) next at_last (λ count' on. last_copy_passes k at last count' front on) count leads)

  -- a tree, if it holds of each of its groups
  module _ (slots : ℕ) (Fits : List ℕ → Type 0) (fits_tail : (x : ℕ) (xs : List ℕ) → Fits (x ∷ xs) → Fits xs) (fits_left : (xs ys : List ℕ) → Fits (xs ++ ys) → Fits xs) (fits_right : (xs ys : List ℕ) → Fits (xs ++ ys) → Fits ys)
      (group_passes : (number : ℕ) (name : Option Name) (tree : Tree) → Fits (number ∷ numbers_of tree) → Passes (code_of slots tree) → Passes (code_of slots (group number name tree))) where
    one_node : (x : ANode) (at next count : ℕ) → IsQuiet x → edges_of x ≡ next ∷ [] → Stands nodes at (x ∷ []) → Leads count next → Leads count at
    one_node x at next count is edges stands leads = fewer count at (quiet count at x (stands_first nodes at x [] stands) is (subst (All (Leads count)) (sym edges) (one_edge (Leads count) next leads)))

    mutual
      tree_passes : (tree : Tree) → Fits (numbers_of tree) → Passes (code_of slots tree)
      tree_passes empty fits at next count stands leads = one_node (pass (next ∷ [])) at next count tt refl stands leads
      tree_passes (one_of ranges) fits at next count stands leads = one_node (set ranges next) at next count tt refl stands leads
      tree_passes (look_at asked) fits at next count stands leads = one_node (look (place_of asked) next) at next count tt refl stands leads
      tree_passes (group number name tree) fits at next count stands leads = group_passes number name tree fits (λ a n c. tree_passes tree (fits_tail number (numbers_of tree) fits) a n c) at next count stands leads
      tree_passes (concat trees) fits at next count stands leads = row_passes trees fits at next count stands leads
      tree_passes (alternation trees) fits at next count stands leads =
          let starts = branch_starts trees (at + 1) in
          let code = branches_code slots trees (at + 1) next in
          fewer count at (quiet count at (pass starts) (stands_first nodes at (pass starts) code stands) tt (branches_pass trees fits (at + 1) next count (stands_behind nodes at (pass starts) code stands) leads))
      tree_passes (repeated rep tree) fits at next count stands leads =
          repetition_passes (size_of tree) (code_of slots tree) (λ a n. code_length slots tree a n) (λ a n c. tree_passes tree fits a n c) rep.greedy rep.min rep.max (may_be_empty tree) at next count stands leads

      row_passes : (trees : Trees) → Fits (all_numbers_of trees) → Passes (row_code slots trees)
      row_passes (two first second) fits at next count stands leads =
          let last = at + size_of first in
          let code = code_of slots first at last in
          let others = code_of slots second last next in
          tree_passes first (fits_left (numbers_of first) (numbers_of second) fits) at last count (stands_left nodes at code others stands)
          (tree_passes second (fits_right (numbers_of first) (numbers_of second) fits) last next count (stands_right nodes at (size_of first) code others (code_length slots first at last) stands) leads)
      row_passes (more first trees) fits at next count stands leads =
          let last = at + size_of first in
          let code = code_of slots first at last in
          let others = row_code slots trees last next in
          tree_passes first (fits_left (numbers_of first) (all_numbers_of trees) fits) at last count (stands_left nodes at code others stands)
          (row_passes trees (fits_right (numbers_of first) (all_numbers_of trees) fits) last next count (stands_right nodes at (size_of first) code others (code_length slots first at last) stands) leads)

      branches_pass : (trees : Trees) → Fits (all_numbers_of trees) → (at next count : ℕ) → Stands nodes at (branches_code slots trees at next) → Leads count next → All (Leads count) (branch_starts trees at)
      branches_pass (two first second) fits at next count stands leads =
          let last = at + size_of first in
          let code = code_of slots first at next in
          let others = code_of slots second last next in
          two_edges (Leads count) at last
          (tree_passes first (fits_left (numbers_of first) (numbers_of second) fits) at next count (stands_left nodes at code others stands) leads)
          (tree_passes second (fits_right (numbers_of first) (numbers_of second) fits) last next count (stands_right nodes at (size_of first) code others (code_length slots first at next) stands) leads)
      branches_pass (more first trees) fits at next count stands leads =
          let last = at + size_of first in
          let code = code_of slots first at next in
          let others = branches_code slots trees last next in
          All-cons (Leads count) at (branch_starts trees last)
          (tree_passes first (fits_left (numbers_of first) (all_numbers_of trees) fits) at next count (stands_left nodes at code others stands) leads)
          (branches_pass trees (fits_right (numbers_of first) (all_numbers_of trees) fits) last next count (stands_right nodes at (size_of first) code others (code_length slots first at next) stands) leads)

-- ---- the slots 2 k and 2 k + 1

-- the numbers are distinct
abbrev Apart : List ℕ → Type 0
Apart [] = Unit {0}
Apart (x ∷ xs) = All (λ y. x ≡ y → ⊥) xs × Apart xs

apart_left : (xs ys : List ℕ) → Apart (xs ++ ys) → Apart xs
apart_left [] ys apart = tt
apart_left (x ∷ xs) ys apart = (all_left (λ y. x ≡ y → ⊥) xs ys apart.0, apart_left xs ys apart.1)

apart_right : (xs ys : List ℕ) → Apart (xs ++ ys) → Apart ys
apart_right [] ys apart = apart
apart_right (x ∷ xs) ys apart = apart_right xs ys apart.1

in_turn_apart : (xs : List ℕ) (low : ℕ) → ((c : ℕ) → c < length xs → get_or xs c 0 ≡ low + c) → Apart xs
in_turn_apart [] low is = tt
in_turn_apart (x ∷ xs) low is = (
  All-from_get_or (λ y. x ≡ y → ⊥) xs 0 (λ c below e. omega (arith, e, is 0 (omega arith), is (suc c) (omega (arith, below)))),
  in_turn_apart xs (low + 1) (λ c below. omega (arith, is (suc c) (omega (arith, below)))),
)

numbers_apart : (tree : Tree) → IsWellFormed tree → Apart (numbers_of tree)
numbers_apart tree well = in_turn_apart (numbers_of tree) 1 (λ c below. omega (arith, well.numbered c below))

module _ (first : List Range → List ℕ → Option ℕ) (h : Haystack walks.Look) (nodes : Code) (k : ℕ) where
  abbrev Whole : Notes → Type 0
  Whole n = IsNotedWhole n (2 * k)

  -- outside the group, and within
  abbrev Outside : Notes → ℕ → Type 0
  Outside n j = IsNotedWhole n (2 * k)

  abbrev Within : Notes → ℕ → Type 0
  Within n j = (i : ℕ) × (slot_of n (2 * k) ≡ Some i) × (i ≤ j)

  abbrev Leads : (Notes → ℕ → Type 0) → ℕ → ℕ → Type 0
  Leads Pre = LeadsTo first h nodes Whole Pre

  -- what stays true when another slot is noted, and at later offsets
  record IsKept (Pre : Notes → ℕ → Type 0) : Type 0 where
    other : (n : Notes) (j slot : ℕ) → (2 * k ≡ slot → ⊥) → (2 * k + 1 ≡ slot → ⊥) → Pre n j → Pre (put_note slot j n) j
    later : (n : Notes) (i j : ℕ) → i ≤ j → Pre n i → Pre n j

  outside_other : (n : Notes) (j slot : ℕ) → (2 * k ≡ slot → ⊥) → (2 * k + 1 ≡ slot → ⊥) → Outside n j → Outside (put_note slot j n) j
  outside_other n j slot a b (not_noted start end) = not_noted (other_slot slot (2 * k) j n a ∙ start) (other_slot slot (2 * k + 1) j n b ∙ end)
  outside_other n j slot a b (noted start end ordered) = noted (other_slot slot (2 * k) j n a ∙ start) (other_slot slot (2 * k + 1) j n b ∙ end) ordered

  outside_kept : IsKept Outside
  outside_kept = record { other = outside_other; later = λ n i j on pre. pre }

  within_kept : IsKept Within
  within_kept = record {
    other = λ n j slot a b pre. (pre.0, other_slot slot (2 * k) j n a ∙ pre.1, pre.2);
    later = λ n i j on pre. (pre.0, pre.1, omega (arith, on, pre.2));
  }

  no_steps_lead : (Pre : Notes → ℕ → Type 0) (q : ℕ) → Leads Pre 0 q
  no_steps_lead Pre q = none_leads first h nodes Whole Pre q

  fewer_steps_lead : (Pre : Notes → ℕ → Type 0) (count q : ℕ) → Leads Pre (suc count) q → Leads Pre count q
  fewer_steps_lead Pre count q leads = fewer_lead first h nodes Whole Pre count q leads

  quiet_leads : (Pre : Notes → ℕ → Type 0) → IsKept Pre → (count q : ℕ) (x : ANode) → slice_get nodes q ≡ Some x → IsQuiet x → All (Leads Pre count) (edges_of x) → Leads Pre (suc count) q
  quiet_leads Pre kept count q x at quiet edges =
      node_leads first h nodes Whole Pre Pre count q x at (quiet_ends_none x quiet) (λ n j pre. subst (λ z. Pre z j) (sym (quiet_notes x quiet j n)) pre) kept.later edges

  note_leads : (Pre Pre' : Notes → ℕ → Type 0) (count q slot r : ℕ) → slice_get nodes q ≡ Some (note slot r) → ((n : Notes) (j : ℕ) → Pre n j → Pre' (put_note slot j n) j) → IsKept Pre' → Leads Pre' count r → Leads Pre count q
  note_leads Pre Pre' count q slot r at turns kept leads = fewer_steps_lead Pre count q (node_leads first h nodes Whole Pre Pre' count q (note slot r) at tt turns kept.later (one_edge (Leads Pre' count) r leads))

  -- from a node that notes the first slot of a group to the one that notes the second
  past_other : (Pre : Notes → ℕ → Type 0) → IsKept Pre → (x slot at last next count : ℕ) → slot ≡ 2 * x → (x ≡ k → ⊥) → slice_get nodes at ≡ Some (note slot (at + 1)) → slice_get nodes last ≡ Some (note (slot + 1) next)
      → (Leads Pre count last → Leads Pre count (at + 1)) → Leads Pre count next → Leads Pre count at
  past_other Pre kept x slot at last next count even other first_is last_is inner leads =
      note_leads Pre Pre count at slot (at + 1) first_is (λ n j pre. kept.other n j slot (λ e. other (omega (arith, e, even))) (λ e. absurd (omega (arith, e, even))) pre) kept
      (inner (note_leads Pre Pre count last (slot + 1) next last_is (λ n j pre. kept.other n j (slot + 1) (λ e. absurd (omega (arith, e, even))) (λ e. other (omega (arith, e, even))) pre) kept leads))

  past_same : (slot at last next count : ℕ) → slot ≡ 2 * k → slice_get nodes at ≡ Some (note slot (at + 1)) → slice_get nodes last ≡ Some (note (slot + 1) next)
      → (Leads Within count last → Leads Within count (at + 1)) → Leads Outside count next → Leads Outside count at
  past_same slot at last next count even first_is last_is inner leads =
      let opens : (n : Notes) (j : ℕ) → Outside n j → Within (put_note slot j n) j = λ n j pre. (j, subst (λ x. slot_of (put_note x j n) (2 * k) ≡ Some j) (sym even) (this_slot (2 * k) j n), omega arith) in
      let closes : (n : Notes) (j : ℕ) → Within n j → Outside (put_note (slot + 1) j n) j = λ n j pre. subst (λ x. IsNotedWhole (put_note (x + 1) j n) (2 * k)) (sym even)
      (noted (other_slot (2 * k + 1) (2 * k) j n (λ e. absurd (omega (arith, e))) ∙ pre.1) (this_slot (2 * k + 1) j n) pre.2) in
      note_leads Outside Within count at slot (at + 1) first_is opens within_kept (inner (note_leads Within Outside count last (slot + 1) next last_is closes outside_kept leads))

  -- a tree's groups
  module _ (slots base : ℕ) (even : slots ≡ 2 * base) where
    abbrev AreOther : List ℕ → Type 0
    AreOther numbers = All (λ number. base + number ≡ k → ⊥) numbers

    -- a group's nodes
    record HasGroup (number : ℕ) (tree : Tree) (at next : ℕ) : Type 0 where
      first_is : slice_get nodes at ≡ Some (note (slots + 2 * number) (at + 1))
      inner : Stands nodes (at + 1) (code_of slots tree (at + 1) (at + 1 + size_of tree))
      last_is : slice_get nodes (at + 1 + size_of tree) ≡ Some (note (slots + 2 * number + 1) next)

    group_stands : (number : ℕ) (name : Option Name) (tree : Tree) (at next : ℕ) → Stands nodes at (code_of slots (group number name tree) at next) → HasGroup number tree at next
    group_stands number name tree at next stands =
        let last = at + 1 + size_of tree in
        let start : ANode = note (slots + 2 * number) (at + 1) in
        let end : ANode = note (slots + 2 * number + 1) next in
        let code = code_of slots tree (at + 1) last in
        let behind_it = stands_behind nodes at start (code ++ end ∷ []) stands in
        record {
          first_is = stands_first nodes at start (code ++ end ∷ []) stands;
          inner = stands_left nodes (at + 1) code (end ∷ []) behind_it;
          last_is = stands_first nodes last end [] (stands_right nodes (at + 1) (size_of tree) code (end ∷ []) (code_length slots tree (at + 1) last) behind_it);
        }

    other_group : (Pre : Notes → ℕ → Type 0) → IsKept Pre → (number : ℕ) (name : Option Name) (tree : Tree) → (base + number ≡ k → ⊥) → PartPasses nodes (Leads Pre) (code_of slots tree) → PartPasses nodes (Leads Pre) (code_of slots (group number name tree))
    other_group Pre kept number name tree other inner at next count stands leads =
        let has = group_stands number name tree at next stands in
        past_other Pre kept (base + number) (slots + 2 * number) at (at + 1 + size_of tree) next count (omega (arith, even)) other has.first_is has.last_is (λ on. inner (at + 1) (at + 1 + size_of tree) count has.inner on) leads

    within_tree : (tree : Tree) → AreOther (numbers_of tree) → PartPasses nodes (Leads Within) (code_of slots tree)
    within_tree tree others = tree_passes nodes (Leads Within) (no_steps_lead Within) (fewer_steps_lead Within) (quiet_leads Within within_kept) slots AreOther
        (λ x xs. All-tail (λ number. base + number ≡ k → ⊥) x xs) (all_left (λ number. base + number ≡ k → ⊥)) (all_right (λ number. base + number ≡ k → ⊥))
        (λ number name inner fits. other_group Within within_kept number name inner (All-head (λ number. base + number ≡ k → ⊥) number (numbers_of inner) fits)) tree others

    outside_group : (number : ℕ) (name : Option Name) (tree : Tree) → Apart (number ∷ numbers_of tree) → PartPasses nodes (Leads Outside) (code_of slots tree) → PartPasses nodes (Leads Outside) (code_of slots (group number name tree))
    outside_group number name tree apart inner at next count stands leads = elim (cases_eq (base + number) k) [
      | inr other ↦ other_group Outside outside_kept number name tree other inner at next count stands leads
      | inl e ↦
          let has = group_stands number name tree at next stands in
          let others : AreOther (numbers_of tree) = All-weaker (λ y. number ≡ y → ⊥) (λ y. base + y ≡ k → ⊥) (λ y apart_from e'. apart_from (omega (arith, e, e'))) (numbers_of tree) apart.0 in
          past_same (slots + 2 * number) at (at + 1 + size_of tree) next count (omega (arith, even, e)) has.first_is has.last_is (λ on. within_tree tree others (at + 1) (at + 1 + size_of tree) count has.inner on) leads
    ]

    outside_tree : (tree : Tree) → Apart (numbers_of tree) → PartPasses nodes (Leads Outside) (code_of slots tree)
    outside_tree tree apart = tree_passes nodes (Leads Outside) (no_steps_lead Outside) (fewer_steps_lead Outside) (quiet_leads Outside outside_kept) slots Apart
        (λ x xs both. both.1) apart_left apart_right outside_group tree apart

    -- a whole pattern
    pattern_leads : (p : ℕ) → p ≤ base → (tree : Tree) → IsWellFormed tree → (at count : ℕ) → Stands nodes at (pattern_code slots p tree at) → Leads Outside count at
    pattern_leads p low tree well at count stands =
        let last = at + 1 + size_of tree in
        let code = code_of slots tree (at + 1) last in
        let start : ANode = note (2 * p) (at + 1) in
        let close : ANode = note (2 * p + 1) (at + 2 + size_of tree) in
        let end : ANode = match p in
        let behind_it = stands_behind nodes at start (code ++ close ∷ end ∷ []) stands in
        let inner = stands_left nodes (at + 1) code (close ∷ end ∷ []) behind_it in
        let back = stands_right nodes (at + 1) (size_of tree) code (close ∷ end ∷ []) (code_length slots tree (at + 1) last) behind_it in
        let first_is = stands_first nodes at start (code ++ close ∷ end ∷ []) stands in
        let last_is = stands_first nodes last close (end ∷ []) back in
        let same : at + 2 + size_of tree ≡ last + 1 = omega arith in
        let end_is = ap (slice_get nodes) same ∙ stands_first nodes (last + 1) end [] (stands_behind nodes last close (end ∷ []) back) in
        let ends_whole = match_leads first h nodes Whole Outside count (at + 2 + size_of tree) p end_is (λ n j pre. pre) in
        elim (cases_eq p k) [
          | inr other ↦ past_other Outside outside_kept p (2 * p) at last (at + 2 + size_of tree) count refl other first_is last_is (λ on. outside_tree tree (numbers_apart tree well) (at + 1) last count inner on) ends_whole
          | inl e ↦
              let others : AreOther (numbers_of tree) = All-weaker (λ y. 1 ≤ y) (λ y. base + y ≡ k → ⊥) (λ y from e'. omega (arith, low, e, from, e')) (numbers_of tree) (from_one tree well) in
              past_same (2 * p) at last (at + 2 + size_of tree) count (omega (arith, e)) first_is last_is (λ on. within_tree tree others (at + 1) last count inner on) ends_whole
        ]

  -- patterns in sequence
  patterns_lead : (trees : List Tree) (slots base p at count : ℕ) → slots ≡ 2 * base → p + length trees ≤ base + 1 → All IsWellFormed trees → Stands nodes at (patterns_code slots p trees at) → All (Leads Outside count) (pattern_starts trees at)
  patterns_lead [] slots base p at count even low well stands = All-nil (Leads Outside count)
  patterns_lead (tree ∷ trees) slots base p at count even low well stands =
      let s = size_of tree in
      let code = pattern_code slots p tree at in
      let inner = code_of slots tree (at + 1) (at + 1 + s) in
      let others = patterns_code (slots + 2 * length (numbers_of tree)) (p + 1) trees (at + 3 + s) in
      let size : length code ≡ 3 + s = omega (arith, length-append inner (note (2 * p + 1) (at + 2 + s) ∷ match p ∷ []), code_length slots tree (at + 1) (at + 1 + s)) in
      let same : at + (3 + s) ≡ at + 3 + s = omega arith in
      All-cons (Leads Outside count) at (pattern_starts trees (at + 3 + s))
      (pattern_leads slots base even p (omega (arith, low)) tree (All-head IsWellFormed tree trees well) at count (stands_left nodes at code others stands))
      (patterns_lead trees (slots + 2 * length (numbers_of tree)) (base + length (numbers_of tree)) (p + 1) (at + 3 + s) count (omega (arith, even)) (omega (arith, low)) (All-tail IsWellFormed tree trees well)
      (subst (λ a. Stands nodes a others) same (stands_right nodes at (3 + s) code others size stands)))

-- ---- programs

pub started : (P : ℕ → Type 0) (xs : List ℕ) (c q : ℕ) → All P xs → slice_get xs c ≡ Some q → P q
started P xs c q all at = subst P (get_or_from_slice_get xs c q q at) (All-get_or P xs c q (slice_get_within xs c q at) all)

module _ (first : List Range → List ℕ → Option ℕ) (h : Haystack walks.Look) (k count : ℕ) where
  -- walks from this node of a program, without notes at first, note the group whole
  abbrev EndsWhole : Program walks.Look (List Range) → ℕ → Type 0
  EndsWhole p q = Leads first h p.nodes k (Outside first h p.nodes k) count q

  several_end_whole : (trees : List Tree) (terminator : ℕ) → All IsWellFormed trees → (anchoring : Anchoring) (q : ℕ) → start_node (several trees terminator) anchoring ≡ Some q → EndsWhole (several trees terminator) q
  several_end_whole trees terminator well anchoring q e = by anchoring e
    where
      nodes : Code
      nodes = pass (pattern_starts trees 1) ∷ patterns_code (2 * length trees - 2) 0 trees 1

      stand : Stands nodes 1 (patterns_code (2 * length trees - 2) 0 trees 1)
      stand c below = let same : 1 + c ≡ suc c = omega arith in ap (slice_get nodes) same

      starts : All (EndsWhole (several trees terminator)) (pattern_starts trees 1)
      starts = patterns_lead first h nodes k trees (2 * length trees - 2) (length trees - 1) 0 1 count (omega arith) (omega arith) well stand

      at_start : EndsWhole (several trees terminator) 0
      at_start = fewer_steps_lead first h nodes k (Outside first h nodes k) count 0
          (quiet_leads first h nodes k (Outside first h nodes k) (outside_kept first h nodes k) count 0 (pass (pattern_starts trees 1)) refl tt starts)

      by : (anchoring : Anchoring) → start_node (several trees terminator) anchoring ≡ Some q → EndsWhole (several trees terminator) q
      by unanchored e = let same : 0 ≡ q = cc e in subst (EndsWhole (several trees terminator)) same at_start
      by anchored e = let same : 0 ≡ q = cc e in subst (EndsWhole (several trees terminator)) same at_start
      by (anchored_pattern c) e = started (EndsWhole (several trees terminator)) (pattern_starts trees 1) c q starts e

  one_ends_whole : (tree : Tree) (terminator : ℕ) → IsWellFormed tree → (anchoring : Anchoring) (q : ℕ) → start_node (program_of (tree ∷ []) terminator) anchoring ≡ Some q → EndsWhole (program_of (tree ∷ []) terminator) q
  one_ends_whole tree terminator well anchoring q e =
      let nodes = pattern_code 0 0 tree 0 in
      let stand : Stands nodes 0 nodes = λ c below. let same : 0 + c ≡ c = omega arith in ap (slice_get nodes) same in
      subst (EndsWhole (program_of (tree ∷ []) terminator)) (sym (first_start tree terminator q anchoring e)) (pattern_leads first h nodes k 0 0 refl 0 (omega arith) tree well 0 count stand)

  ends_whole : (trees : List Tree) (terminator : ℕ) → All IsWellFormed trees → (anchoring : Anchoring) (q : ℕ) → start_node (program_of trees terminator) anchoring ≡ Some q → EndsWhole (program_of trees terminator) q
  ends_whole [] terminator well anchoring q e = several_end_whole [] terminator well anchoring q e
  ends_whole (tree ∷ []) terminator well anchoring q e = one_ends_whole tree terminator (All-head IsWellFormed tree [] well) anchoring q e
  ends_whole (tree ∷ other ∷ trees) terminator well anchoring q e = several_end_whole (tree ∷ other ∷ trees) terminator well anchoring q e

module _ (trees : List Tree) (terminator : ℕ) (well : All IsWellFormed trees) (is_word : ℕ → Bool) (s : Search) where
  walks_note : {q i : ℕ} {cs : List ℕ} {t : Outcome Notes} → start_node (program_of trees terminator) s.anchoring ≡ Some q → Walk (machine_of is_in is_word (program_of trees terminator) s) [] (fresh_notes i) q i cs t
      → (k : ℕ) → IsNotedWhole t.notes (2 * k)
  walks_note {q = q} {i = i} {cs = cs} {t = t} e w k =
      ends_whole (first_by is_in) (haystack_of (holds_in is_word (program_of trees terminator).line_terminator s) s) k (suc (walk_size w)) trees terminator well s.anchoring q e
      [] (fresh_notes i) i cs t w (omega arith) (not_noted refl refl)

  found_notes : (q : ℕ) (t : Outcome Notes) → start_node (program_of trees terminator) s.anchoring ≡ Some q → IsFind (machine_of is_in is_word (program_of trees terminator) s) fresh_notes s q (Some t) → (k : ℕ) → IsNotedWhole t.notes (2 * k)
  found_notes q t e (is_found counts before_it) = walks_note e counts.least.walk

  finds_note : (t : Outcome Notes) → ProgramFinds is_in is_word (program_of trees terminator) s (Some t) → (k : ℕ) → IsNotedWhole t.notes (2 * k)
  finds_note t finds = by_start (start_node (program_of trees terminator) s.anchoring) refl finds
    where
      by_start : (o : Option ℕ) → start_node (program_of trees terminator) s.anchoring ≡ o → IfStarts o (IsFind (machine_of is_in is_word (program_of trees terminator) s) fresh_notes s) (Some t) → (k : ℕ) → IsNotedWhole t.notes (2 * k)
      by_start None e none = absurd (cc none)
      by_start (Some q) e found = found_notes q t e found

  notes_groups : NotesGroups is_word (program_of trees terminator) s
  notes_groups = record { walks = λ q i choices t e w. walks_note e w; finds = finds_note }

pub groups_are_noted_whole : GroupsAreNotedWhole
groups_are_noted_whole trees terminator well is_word p s e = subst (λ x. NotesGroups is_word x s) (sym e) (notes_groups trees terminator well is_word s)
