-- The slots that a match notes are those of its pattern.
use Rattle.std.proofs.Common.{◌≡◌, ℕ, zero, suc, ◌+◌, ◌-◌, ◌*◌, ◌<◌, ◌≤◌, ◌⊎◌, Bool, true, false, cond, nat_lt, List, [], ◌∷◌, ◌++◌, All, length, Option, Some, None, slice_get, refl, sym, ap, subst, ◌∙◌, inl, inr, arith}
use Rattle.std.proofs.lemmas.Bool.{cases_lt}
use Rattle.std.proofs.lemmas.Bool.Decides.{nat_tests}
use Rattle.std.proofs.lemmas.List.Elements.{All-cons, All-nil, All-head, All-tail, All-append, All-from_get_or, All-weaker}
use Rattle.std.proofs.lemmas.Option.{same_Some, slice_get_within}
use Rattle.rx_sets.specs.Sets.{Range}
use Rattle.rx_utf8.specs.Automata.{is_in}
use Rattle.rx_grammar.specs.Trees.{Tree, Trees, empty, one_of, look_at, group, concat, alternation, repeated, two, more, numbers_of, all_numbers_of}
use Rattle.rx_grammar.specs.Subtrees.{IsWellFormed}
use Rattle.rx_grammar.specs.Weights.{may_be_empty, size_of}
use Rattle.rx_walks.specs.Looks as walks
use Rattle.rx_walks.specs.Machines.{Outcome, ends, goes, reads}
use Rattle.rx_walks.specs.Owners.{HasOwners}
use Rattle.rx_walks.specs.Walks.{Walk, ended, went, took}
use Rattle.rx_walks.specs.Finds.{Anchoring, IsFind, Search, anchored, anchored_pattern, is_found, unanchored}
use Rattle.rx_walks.specs.Programs.{Haystack, Node, Notes, Program, by_character, fresh_notes, left_from, look, match, note, note_at, over_characters, pass, put_note, read_up_to, set}
use Rattle.rx_walks.specs.ProgramFinds.{IfStarts, ProgramFinds, first_by, haystack_of, holds_in, machine_of, start_node}
use Rattle.rx_program.specs.Code.{Code, branch_starts, branches_code, code_of, copies, entry_of, fork, optional, pattern_code, patterns_code, place_of, program_of, repetition_code, row_code}
use Rattle.rx_program.specs.Owned.{owner_from, owner_in}
use Rattle.rx_program.proofs.ClosedLaws.{pattern_length}
use Rattle.rx_program.proofs.NoteLaws.{all_left, all_right, behind, ends_by, goes_by, in_front, no_edge, only_edge, only_ends, only_goes, only_reads, read_not_ends, read_not_goes, reads_by, same_edges}
use Rattle.rx_program.proofs.OwnerLaws.{programs_have_owners}

abbrev ANode : Type 0
ANode = Node walks.Look (List Range)

abbrev noting : ℕ → ℕ → ANode
noting slot r = note slot r

-- ---- which slots the nodes of a tree note

-- what a node notes goes to slots with property P
abbrev Keeps : (ℕ → Type 0) → ANode → Type 0
Keeps P (match k) = Unit {0}
Keeps P (pass rs) = Unit {0}
Keeps P (note slot r) = P slot
Keeps P (look l r) = Unit {0}
Keeps P (set x r) = Unit {0}

keeps_weaker : (P Q : ℕ → Type 0) → ((slot : ℕ) → P slot → Q slot) → (node : ANode) → Keeps P node → Keeps Q node
keeps_weaker P Q weaker (match k) h = tt
keeps_weaker P Q weaker (pass rs) h = tt
keeps_weaker P Q weaker (note slot r) h = weaker slot h
keeps_weaker P Q weaker (look l r) h = tt
keeps_weaker P Q weaker (set x r) h = tt

module _ (slots high : ℕ) where
  abbrev Inner : ℕ → Type 0
  Inner slot = (slots + 2 ≤ slot) × (slot < high)

  abbrev Inside : Code → Type 0
  Inside nodes = All (Keeps Inner) nodes

  alone : (node : ANode) → Keeps Inner node → Inside (node ∷ [])
  alone node h = All-cons (Keeps Inner) node [] h (All-nil (Keeps Inner))

  before : (node : ANode) (nodes : Code) → Keeps Inner node → Inside nodes → Inside (node ∷ nodes)
  before node nodes h all = All-cons (Keeps Inner) node nodes h all

  beside : (xs ys : Code) → Inside xs → Inside ys → Inside (xs ++ ys)
  beside xs ys a b = All-append (Keeps Inner) xs ys a b

  fork_keeps : (g : Bool) (into on : ℕ) → Keeps Inner (fork g into on)
  fork_keeps true into on = tt
  fork_keeps false into on = tt

  copies_inside : (s : ℕ) (h : ℕ → ℕ → Code) → ((at next : ℕ) → Inside (h at next)) → (k at next : ℕ) → Inside (copies s h k at next)
  copies_inside s h each zero at next = All-nil (Keeps Inner)
  copies_inside s h each (suc k) at next =
      beside (h at (entry_of k (at + s) next)) (copies s h k (at + s) next) (each at (entry_of k (at + s) next)) (copies_inside s h each k (at + s) next)

  optional_inside : (g : Bool) (s : ℕ) (h : ℕ → ℕ → Code) → ((at next : ℕ) → Inside (h at next)) → (k at next : ℕ) → Inside (optional g s h k at next)
  optional_inside g s h each zero at next = All-nil (Keeps Inner)
  optional_inside g s h each (suc k) at next = before (fork g (at + 1) next) _ (fork_keeps g (at + 1) next)
      (beside (h (at + 1) (entry_of k (at + 1 + s) next)) (optional g s h k (at + 1 + s) next) (each (at + 1) (entry_of k (at + 1 + s) next)) (optional_inside g s h each k (at + 1 + s) next))

  repetition_inside : (g : Bool) (k : ℕ) (most : Option ℕ) (s : ℕ) (may : Bool) (h : ℕ → ℕ → Code) → ((at next : ℕ) → Inside (h at next)) → (at next : ℕ) → Inside (repetition_code g k most s may h at next)
  repetition_inside g k (Some zero) s may h each at next = alone (pass (next ∷ [])) tt
  repetition_inside g k (Some (suc m)) s may h each at next =
      beside (copies s h k at (entry_of (suc m - k) (at + k * s) next)) (optional g s h (suc m - k) (at + k * s) next)
      (copies_inside s h each k at (entry_of (suc m - k) (at + k * s) next)) (optional_inside g s h each (suc m - k) (at + k * s) next)
  repetition_inside g zero None s false h each at next = before (fork g (at + 1) next) (h (at + 1) at) (fork_keeps g (at + 1) next) (each (at + 1) at)
  repetition_inside g zero None s true h each at next =
      before (fork g (at + 1) next) _ (fork_keeps g (at + 1) next)
      (beside (h (at + 1) (at + 1 + s)) (fork g (at + 1) next ∷ []) (each (at + 1) (at + 1 + s)) (alone (fork g (at + 1) next) (fork_keeps g (at + 1) next)))
  repetition_inside g (suc k) None s may h each at next =
      beside (copies s h (suc k) at (at + suc k * s)) (fork g (at + k * s) next ∷ []) (copies_inside s h each (suc k) at (at + suc k * s)) (alone (fork g (at + k * s) next) (fork_keeps g (at + k * s) next))

  abbrev Fits : ℕ → Type 0
  Fits number = (1 ≤ number) × (slots + 2 * number + 1 < high)

  mutual
    code_inside : (tree : Tree) → All Fits (numbers_of tree) → (at next : ℕ) → Inside (code_of slots tree at next)
    code_inside empty fits at next = alone (pass (next ∷ [])) tt
    code_inside (one_of ranges) fits at next = alone (set ranges next) tt
    code_inside (look_at asked) fits at next = alone (look (place_of asked) next) tt
    code_inside (group number name tree) fits at next =
        let fit : Fits number = All-head Fits number (numbers_of tree) fits in
        before (note (slots + 2 * number) (at + 1)) _ (omega (arith, fit), omega (arith, fit))
        (beside (code_of slots tree (at + 1) (at + 1 + size_of tree)) (note (slots + 2 * number + 1) next ∷ [])
        (code_inside tree (All-tail Fits number (numbers_of tree) fits) (at + 1) (at + 1 + size_of tree))
        (alone (note (slots + 2 * number + 1) next) (omega (arith, fit), omega (arith, fit))))
    code_inside (concat trees) fits at next = row_inside trees fits at next
    code_inside (alternation trees) fits at next = before (pass (branch_starts trees (at + 1))) _ tt (branches_inside trees fits (at + 1) next)
    code_inside (repeated rep tree) fits at next = repetition_inside rep.greedy rep.min rep.max (size_of tree) (may_be_empty tree) (code_of slots tree) (λ a b. code_inside tree fits a b) at next

    row_inside : (trees : Trees) → All Fits (all_numbers_of trees) → (at next : ℕ) → Inside (row_code slots trees at next)
    row_inside (two first second) fits at next =
        beside (code_of slots first at (at + size_of first)) (code_of slots second (at + size_of first) next)
        (code_inside first (all_left Fits (numbers_of first) (numbers_of second) fits) at (at + size_of first)) (code_inside second (all_right Fits (numbers_of first) (numbers_of second) fits) (at + size_of first) next)
    row_inside (more first others) fits at next =
        beside (code_of slots first at (at + size_of first)) (row_code slots others (at + size_of first) next)
        (code_inside first (all_left Fits (numbers_of first) (all_numbers_of others) fits) at (at + size_of first)) (row_inside others (all_right Fits (numbers_of first) (all_numbers_of others) fits) (at + size_of first) next)

    branches_inside : (trees : Trees) → All Fits (all_numbers_of trees) → (at next : ℕ) → Inside (branches_code slots trees at next)
    branches_inside (two first second) fits at next =
        beside (code_of slots first at next) (code_of slots second (at + size_of first) next)
        (code_inside first (all_left Fits (numbers_of first) (numbers_of second) fits) at next) (code_inside second (all_right Fits (numbers_of first) (numbers_of second) fits) (at + size_of first) next)
    branches_inside (more first others) fits at next =
        beside (code_of slots first at next) (branches_code slots others (at + size_of first) next)
        (code_inside first (all_left Fits (numbers_of first) (all_numbers_of others) fits) at next) (branches_inside others (all_right Fits (numbers_of first) (all_numbers_of others) fits) (at + size_of first) next)

-- ---- those of a pattern

-- the slots of pattern p with `len` further groups, which start after these slots
abbrev pub IsOwn : ℕ → ℕ → ℕ → ℕ → Type 0
IsOwn slots p len slot = (slot ≡ 2 * p) ⊎ (slot ≡ 2 * p + 1) ⊎ ((slots + 2 ≤ slot) × (slot < slots + 2 + 2 * len))

numbers_fit : (slots : ℕ) (tree : Tree) → IsWellFormed tree → All (Fits slots (slots + 2 + 2 * length (numbers_of tree))) (numbers_of tree)
numbers_fit slots tree well = All-from_get_or (Fits slots (slots + 2 + 2 * length (numbers_of tree))) (numbers_of tree) 0 (λ c below. (omega (arith, well.numbered c below), omega (arith, below, well.numbered c below)))

pattern_keeps : (slots p : ℕ) (tree : Tree) (at : ℕ) → IsWellFormed tree → All (Keeps (IsOwn slots p (length (numbers_of tree)))) (pattern_code slots p tree at)
pattern_keeps slots p tree at well =
    let own : ℕ → Type 0 = IsOwn slots p (length (numbers_of tree)) in
    let high = slots + 2 + 2 * length (numbers_of tree) in
    let code = code_of slots tree (at + 1) (at + 1 + size_of tree) in
    let inner = code_inside slots high tree (numbers_fit slots tree well) (at + 1) (at + 1 + size_of tree) in
    All-cons (Keeps own) (note (2 * p) (at + 1)) _ (inl refl)
    (All-append (Keeps own) code (note (2 * p + 1) (at + 2 + size_of tree) ∷ match p ∷ [])
    (All-weaker (Keeps (Inner slots high)) (Keeps own) (keeps_weaker (Inner slots high) own (λ slot is. inr (inr is))) code inner)
    (All-cons (Keeps own) (note (2 * p + 1) (at + 2 + size_of tree)) (match p ∷ []) (inr (inl refl)) (All-cons (Keeps own) (match p) [] tt (All-nil (Keeps own)))))

-- the slots of pattern k among patterns of which the first has number p
abbrev pub Owns : ℕ → ℕ → List Tree → ℕ → ℕ → Type 0
Owns slots p [] k slot = ⊥
Owns slots p (tree ∷ trees) k slot = ((p ≡ k) × IsOwn slots p (length (numbers_of tree)) slot) ⊎ Owns (slots + 2 * length (numbers_of tree)) (p + 1) trees k slot

first_owner : (p r n : ℕ) (others : Option ℕ) → r < n → cond (nat_lt r n) (Some p) others ≡ Some p
first_owner p r n others below = let e : nat_lt r n ≡ true = grind (arith, nat_tests) in ap (λ b. cond b (Some p) others) e

other_owner : (p r n : ℕ) (others : Option ℕ) → n ≤ r → cond (nat_lt r n) (Some p) others ≡ others
other_owner p r n others past = let e : nat_lt r n ≡ false = grind (arith, nat_tests) in ap (λ b. cond b (Some p) others) e

-- what the node at this index keeps
kept_there : (P : ℕ → Type 0) (nodes : Code) (d slot r : ℕ) → All (Keeps P) nodes → slice_get nodes d ≡ Some (noting slot r) → P slot
kept_there P [] d slot r all got = absurd (cc got)
kept_there P (node ∷ nodes) zero slot r all got = subst (Keeps P) (same_Some node (noting slot r) got) (All-head (Keeps P) node nodes all)
kept_there P (node ∷ nodes) (suc d) slot r all got = kept_there P nodes d slot r (All-tail (Keeps P) node nodes all) got

notes_own : (slots p : ℕ) (trees : List Tree) (at d k slot r : ℕ) → All IsWellFormed trees → slice_get (patterns_code slots p trees at) d ≡ Some (noting slot r) → owner_from p trees at (at + d) ≡ Some k → Owns slots p trees k slot
notes_own slots p [] at d k slot r well got own = absurd (cc got)
notes_own slots p (tree ∷ trees) at d k slot r well got own = elim (cases_lt d (3 + size_of tree)) [
  | inl below ↦ inl (here below)
  | inr past ↦ inr (later (notes_own (slots + 2 * length (numbers_of tree)) (p + 1) trees (at + 3 + size_of tree) (d - (3 + size_of tree)) k slot r (All-tail IsWellFormed tree trees well)) past)
]
  where
    mine : Code
    mine = pattern_code slots p tree at

    others : Code
    others = patterns_code (slots + 2 * length (numbers_of tree)) (p + 1) trees (at + 3 + size_of tree)

    here : d < 3 + size_of tree → (p ≡ k) × IsOwn slots p (length (numbers_of tree)) slot
    here below =
        let owner : Some p ≡ Some k = sym (first_owner p (at + d) (at + 3 + size_of tree) (owner_from (p + 1) trees (at + 3 + size_of tree) (at + d)) (omega (arith, below))) ∙ own in
        let there = sym (in_front mine others d (omega (arith, below, pattern_length slots p tree at))) ∙ got in
        (same_Some p k owner, kept_there (IsOwn slots p (length (numbers_of tree))) mine d slot r (pattern_keeps slots p tree at (All-head IsWellFormed tree trees well)) there)

    later : (slice_get others (d - (3 + size_of tree)) ≡ Some (noting slot r) → owner_from (p + 1) trees (at + 3 + size_of tree) (at + 3 + size_of tree + (d - (3 + size_of tree))) ≡ Some k
        → Owns (slots + 2 * length (numbers_of tree)) (p + 1) trees k slot) → 3 + size_of tree ≤ d → Owns (slots + 2 * length (numbers_of tree)) (p + 1) trees k slot
    later again past =
        let place : length mine + (d - (3 + size_of tree)) ≡ d = omega (arith, past, pattern_length slots p tree at) in
        let there = sym (behind mine others (d - (3 + size_of tree))) ∙ ap (slice_get (mine ++ others)) place ∙ got in
        let next : at + 3 + size_of tree + (d - (3 + size_of tree)) ≡ at + d = omega (arith, past) in
        let owner = ap (owner_from (p + 1) trees (at + 3 + size_of tree)) next ∙ sym (other_owner p (at + d) (at + 3 + size_of tree) (owner_from (p + 1) trees (at + 3 + size_of tree) (at + d)) (omega (arith, past))) ∙ own in
        again there owner

-- the slots of pattern k
abbrev pub OwnSlot : List Tree → ℕ → ℕ → Type 0
OwnSlot trees k slot = Owns (2 * length trees - 2) 0 trees k slot

program_notes_own : (trees : List Tree) (terminator q k slot r : ℕ) → All IsWellFormed trees → slice_get (program_of trees terminator).nodes q ≡ Some (noting slot r) → owner_in trees q ≡ Some k → OwnSlot trees k slot
program_notes_own [] terminator zero k slot r well got own = absurd (cc got)
program_notes_own [] terminator (suc q) k slot r well got own = absurd (cc got)
program_notes_own (tree ∷ []) terminator q k slot r well got own =
    let place : 0 + q ≡ q = omega arith in
    let mine = pattern_code 0 0 tree 0 in
    notes_own 0 0 (tree ∷ []) 0 q k slot r well (in_front mine [] q (slice_get_within mine q (noting slot r) got) ∙ got) (ap (owner_from 0 (tree ∷ []) 0) place ∙ own)
program_notes_own (tree ∷ other ∷ trees) terminator zero k slot r well got own = absurd (cc got)
program_notes_own (tree ∷ other ∷ trees) terminator (suc q) k slot r well got own =
    let place : 1 + q ≡ suc q = omega arith in
    notes_own (2 * length (tree ∷ other ∷ trees) - 2) 0 (tree ∷ other ∷ trees) 1 q k slot r well got (ap (owner_from 0 (tree ∷ other ∷ trees) 1) place ∙ own)

-- ---- what walks note

read_same : (r' r j j' : ℕ) (o : Option ℕ) → read_up_to r' j o ≡ reads r j' → r' ≡ r
read_same r' r j j' None e = absurd (cc e)
read_same r' r j j' (Some d) e = cc e

module _ (first : List Range → List ℕ → Option ℕ) (h : Haystack walks.Look) (p : Program walks.Look (List Range)) (owner : ℕ → Option ℕ) (has : HasOwners p owner) (k : ℕ) (P : ℕ → Type 0)
    (own_notes : (q slot r : ℕ) → slice_get p.nodes q ≡ Some (noting slot r) → owner q ≡ Some k → P slot) where
  abbrev AreOwn : Notes → Type 0
  AreOwn n = All (λ (x : ℕ × ℕ). P x.0) n.noted

  noted_own : (q j : ℕ) (n : Notes) (a_node : Option ANode) → slice_get p.nodes q ≡ a_node → owner q ≡ Some k → AreOwn n → AreOwn (note_at put_note j a_node n)
  noted_own q j n None at own are = are
  noted_own q j n (Some (match m)) at own are = are
  noted_own q j n (Some (pass rs)) at own are = are
  noted_own q j n (Some (note slot r)) at own are = All-cons (λ (x : ℕ × ℕ). P x.0) (slot, j) n.noted (own_notes q slot r at own) are
  noted_own q j n (Some (look l r)) at own are = are
  noted_own q j n (Some (set x r)) at own are = are

  ends_own : (q j m : ℕ) (a_node : Option ANode) → slice_get p.nodes q ≡ a_node → owner q ≡ Some k → by_character first h j a_node ≡ ends m → m ≡ k
  ends_own q j m None at own e = absurd (cc e)
  ends_own q j m (Some (match m')) at own e = let same : m' ≡ m = cc e in sym same ∙ has.stays q k (match m') at own
  ends_own q j m (Some (pass rs)) at own e = absurd (cc e)
  ends_own q j m (Some (note slot r)) at own e = absurd (cc e)
  ends_own q j m (Some (look l r)) at own e = absurd (cc (only_ends (h.holds l j) (goes (r ∷ [])) e))
  ends_own q j m (Some (set x r)) at own e = absurd (read_not_ends r j (first x (left_from h j)) e)

  goes_own : (q j : ℕ) (rs : List ℕ) (c to : ℕ) (a_node : Option ANode) → slice_get p.nodes q ≡ a_node → owner q ≡ Some k → by_character first h j a_node ≡ goes rs → slice_get rs c ≡ Some to → owner to ≡ Some k
  goes_own q j rs c to None at own e on = absurd (no_edge rs c (sym (same_edges [] rs e)) on)
  goes_own q j rs c to (Some (match m)) at own e on = absurd (cc e)
  goes_own q j rs c to (Some (pass xs)) at own e on = has.stays q k (pass xs) at own c to (ap (λ ys. slice_get ys c) (same_edges xs rs e) ∙ on)
  goes_own q j rs c to (Some (note slot r)) at own e on = ap owner (only_edge rs c to r e on) ∙ has.stays q k (note slot r) at own
  goes_own q j rs c to (Some (look l r)) at own e on = ap owner (only_edge rs c to r (only_goes (h.holds l j) (goes (r ∷ [])) rs c e on) on) ∙ has.stays q k (look l r) at own
  goes_own q j rs c to (Some (set x r)) at own e on = absurd (read_not_goes r j (first x (left_from h j)) rs c e on)

  reads_own : (q j to j' : ℕ) (a_node : Option ANode) → slice_get p.nodes q ≡ a_node → owner q ≡ Some k → by_character first h j a_node ≡ reads to j' → owner to ≡ Some k
  reads_own q j to j' None at own e = absurd (cc e)
  reads_own q j to j' (Some (match m)) at own e = absurd (cc e)
  reads_own q j to j' (Some (pass rs)) at own e = absurd (cc e)
  reads_own q j to j' (Some (note slot r)) at own e = absurd (cc e)
  reads_own q j to j' (Some (look l r)) at own e = absurd (cc (only_reads (h.holds l j) (goes (r ∷ [])) e))
  reads_own q j to j' (Some (set x r)) at own e = ap owner (sym (read_same r to j j' (first x (left_from h j)) e)) ∙ has.stays q k (set x r) at own

  walk_owns : {seen : List ℕ} {n : Notes} {q j : ℕ} {cs : List ℕ} {t : Outcome Notes} → Walk (over_characters put_note first p.nodes h) seen n q j cs t → owner q ≡ Some k → AreOwn n → AreOwn t.notes × (t.pattern ≡ k)
  walk_owns (ended {q = q} {i = j} {p = m} new is) own are = (are, ends_own q j m (slice_get p.nodes q) refl own (ends_by first h p.nodes q j m (slice_get p.nodes q) refl is))
  walk_owns (went {n = n} {q = q} {i = j} {k = c} rs r new is on w) own are =
      walk_owns {n = note_at put_note j (slice_get p.nodes q) n} {q = r} {j = j} w (goes_own q j rs c r (slice_get p.nodes q) refl own (goes_by first h p.nodes q j rs c r (slice_get p.nodes q) refl is on) on) (noted_own q j n (slice_get p.nodes q) refl own are)
  walk_owns (took {n = n} {q = q} {i = j} r j' new is w) own are = walk_owns {n = n} {q = r} {j = j'} w (reads_own q j r j' (slice_get p.nodes q) refl own (reads_by first h p.nodes q j r j' (slice_get p.nodes q) refl is)) are

-- ---- what is found

module _ (trees : List Tree) (terminator : ℕ) (well : All IsWellFormed trees) (first : List Range → List ℕ → Option ℕ) (h : Haystack walks.Look) where
  abbrev NotesOwn : Outcome Notes → Type 0
  NotesOwn t = All (λ (x : ℕ × ℕ). OwnSlot trees t.pattern x.0) t.notes.noted

  from_own : {seen : List ℕ} {n : Notes} {q j : ℕ} {cs : List ℕ} {t : Outcome Notes} (k : ℕ) → slice_get (program_of trees terminator).patterns k ≡ Some q → n.noted ≡ []
      → Walk (over_characters put_note first (program_of trees terminator).nodes h) seen n q j cs t → NotesOwn t
  from_own {n = n} {q = q} {t = t} k at none w =
      let has = programs_have_owners trees terminator in
      let own = walk_owns first h (program_of trees terminator) (owner_in trees) has k (OwnSlot trees k) (λ q' slot r got mine. program_notes_own trees terminator q' k slot r well got mine) w (has.starts k q at)
      (subst (λ xs. All (λ (x : ℕ × ℕ). OwnSlot trees k x.0) xs) (sym none) (All-nil (λ (x : ℕ × ℕ). OwnSlot trees k x.0))) in
      subst (λ m. All (λ (x : ℕ × ℕ). OwnSlot trees m x.0) t.notes.noted) (sym own.1) own.0

  -- from the node above all patterns
  from_above_own : {seen : List ℕ} {n : Notes} {q j : ℕ} {cs : List ℕ} {t : Outcome Notes} → slice_get (program_of trees terminator).nodes q ≡ Some (pass (program_of trees terminator).patterns) → n.noted ≡ []
      → Walk (over_characters put_note first (program_of trees terminator).nodes h) seen n q j cs t → NotesOwn t
  from_above_own above none (ended {q = q} {i = j} {p = m} new is) = absurd (cc (ends_by first h (program_of trees terminator).nodes q j m (Some (pass (program_of trees terminator).patterns)) above is))
  from_above_own above none (went {n = n} {q = q} {i = j} {k = c} rs r new is on w) =
      let edges = same_edges (program_of trees terminator).patterns rs (goes_by first h (program_of trees terminator).nodes q j rs c r (Some (pass (program_of trees terminator).patterns)) above is on) in
      from_own {n = note_at put_note j (slice_get (program_of trees terminator).nodes q) n} {q = r} {j = j} c (ap (λ xs. slice_get xs c) edges ∙ on) (ap (λ z. (note_at put_note j z n).noted) above ∙ none) w
  from_above_own above none (took {q = q} {i = j} r j' new is w) = absurd (cc (reads_by first h (program_of trees terminator).nodes q j r j' (Some (pass (program_of trees terminator).patterns)) above is))

abbrev WalksOwn : List Tree → ℕ → Type 0
WalksOwn trees terminator = (first : List Range → List ℕ → Option ℕ) (h : Haystack walks.Look) (i : ℕ) (cs : List ℕ) (t : Outcome Notes) (anchoring : Anchoring) (q : ℕ) → start_node (program_of trees terminator) anchoring ≡ Some q
    → Walk (over_characters put_note first (program_of trees terminator).nodes h) [] (fresh_notes i) q i cs t → All (λ (x : ℕ × ℕ). OwnSlot trees t.pattern x.0) t.notes.noted

walks_own : (trees : List Tree) (terminator : ℕ) → All IsWellFormed trees → WalksOwn trees terminator
walks_own trees terminator well first h i cs t (anchored_pattern c) q e w = from_own trees terminator well first h c e refl w
walks_own (tree ∷ []) terminator well first h i cs t unanchored q e w = from_own (tree ∷ []) terminator well first h 0 e refl w
walks_own (tree ∷ []) terminator well first h i cs t anchored q e w = from_own (tree ∷ []) terminator well first h 0 e refl w
walks_own [] terminator well first h i cs t unanchored q e w = from_above_own [] terminator well first h (ap (slice_get (program_of [] terminator).nodes) (sym (same_Some 0 q e))) refl w
walks_own [] terminator well first h i cs t anchored q e w = from_above_own [] terminator well first h (ap (slice_get (program_of [] terminator).nodes) (sym (same_Some 0 q e))) refl w
walks_own (tree ∷ other ∷ trees) terminator well first h i cs t unanchored q e w =
    from_above_own (tree ∷ other ∷ trees) terminator well first h (ap (slice_get (program_of (tree ∷ other ∷ trees) terminator).nodes) (sym (same_Some 0 q e))) refl w
walks_own (tree ∷ other ∷ trees) terminator well first h i cs t anchored q e w =
    from_above_own (tree ∷ other ∷ trees) terminator well first h (ap (slice_get (program_of (tree ∷ other ∷ trees) terminator).nodes) (sym (same_Some 0 q e))) refl w

module _ (trees : List Tree) (terminator : ℕ) (well : All IsWellFormed trees) (is_word : ℕ → Bool) (s : Search) where
  found_owns : (q : ℕ) (t : Outcome Notes) → start_node (program_of trees terminator) s.anchoring ≡ Some q → IsFind (machine_of is_in is_word (program_of trees terminator) s) fresh_notes s q (Some t)
      → All (λ (x : ℕ × ℕ). OwnSlot trees t.pattern x.0) t.notes.noted
  found_owns q t e (is_found {i = i} counts before_it) =
      walks_own trees terminator well (first_by is_in) (haystack_of (holds_in is_word (program_of trees terminator).line_terminator s) s) i counts.least.choices t s.anchoring q e counts.least.walk

  finds_own_slots : (t : Outcome Notes) → ProgramFinds is_in is_word (program_of trees terminator) s (Some t) → All (λ (x : ℕ × ℕ). OwnSlot trees t.pattern x.0) t.notes.noted
  finds_own_slots t finds = by_start (start_node (program_of trees terminator) s.anchoring) refl finds
    where
      by_start : (o : Option ℕ) → start_node (program_of trees terminator) s.anchoring ≡ o → IfStarts o (IsFind (machine_of is_in is_word (program_of trees terminator) s) fresh_notes s) (Some t) → All (λ (x : ℕ × ℕ). OwnSlot trees t.pattern x.0) t.notes.noted
      by_start None e none = absurd (cc none)
      by_start (Some q) e found = found_owns q t e found

pub finds_own : (trees : List Tree) (terminator : ℕ) → All IsWellFormed trees → (is_word : ℕ → Bool) (s : Search) (p : Program walks.Look (List Range)) (t : Outcome Notes) → p ≡ program_of trees terminator → ProgramFinds is_in is_word p s (Some t)
    → All (λ (x : ℕ × ℕ). OwnSlot trees t.pattern x.0) t.notes.noted
finds_own trees terminator well is_word s p t is finds = finds_own_slots trees terminator well is_word s t (subst (λ x. ProgramFinds is_in is_word x s (Some t)) is finds)
