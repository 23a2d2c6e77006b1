-- The paths through a pattern's program are what its tree matches.
use Rattle.std.proofs.Common.{◌≡◌, ℕ, zero, suc, ◌+◌, ◌-◌, ◌*◌, ◌<◌, ◌≤◌, ◌⊎◌, Bool, true, false, List, [], ◌∷◌, ◌++◌, map, length, Option, Some, None, slice_get, refl, sym, ap, subst, ◌∙◌, arith, inl, inr, length-append}
use Rattle.std.specs.Prelude.{IsTrue, ◌↔◌, nat_le}
use Rattle.std.specs.List.{All}
use Rattle.std.proofs.lemmas.Bool.Decides.{nat_tests}
use Rattle.std.proofs.lemmas.Bool.{and_from, and_parts, le-leb, leb-true}
use Rattle.std.proofs.lemmas.Option.{slice_get_within, get_or_from_slice_get}
use Rattle.std.proofs.lemmas.List.Elements.{All-cons, All-nil, All-head, All-tail, All-get_or}
use Rattle.rx_sets.specs.Sets.{Range}
use Rattle.rx_grammar.specs.Trees.{Tree, Trees, empty, one_of, look_at, group, concat, alternation, repeated, two, more, numbers_of}
use Rattle.rx_grammar.specs.Subtrees.{subtrees_of, all_subtrees_of, root_of, nodes_of, IsMost, IsBounded, IsWellFormed}
use Rattle.rx_grammar.specs.Weights.{may_be_empty, size_of, all_sizes_of, repeated_weight}
use Rattle.rx_walks.specs.Looks as walks
use Rattle.rx_walks.specs.Machines.{Move, Machine, ends, goes, reads}
use Rattle.rx_walks.specs.Paths.{Path, at_end, by_edge, by_read}
use Rattle.rx_walks.specs.Programs.{match, pass, note, look, set, Haystack, only_if, is_within, left_from, read_up_to, by_character, over_characters, Program, Notes, put_note}
use Rattle.rx_walks.specs.Finds.{Search, IsInside}
use Rattle.rx_walks.specs.ProgramFinds.{first_by, holds_in, haystack_of, lowest, highest}
use Rattle.rx_utf8.specs.Automata.{is_in}
use Rattle.rx_program.specs.Code.{Code, place_of, fork, entry_of, copies, optional, repetition_code, branch_starts, code_of, row_code, branches_code, pattern_code, patterns_code, pattern_starts, program_of}
use Rattle.rx_program.specs.Taking.{Times, IsUpTo, Takes, TakesInTurn, TakesOneOf, machine_by, PathsAreTaken, SearchesTakePaths}
use Rattle.rx_program.proofs.ClosedLaws.{copies_length, repetition_length, pattern_length, several}
use Rattle.rx_program.proofs.NoteLaws.{all_left, all_right, same_edges, only_edge, only_ends, only_reads, no_edge, read_not_ends, read_not_goes, ends_by, goes_by, reads_by}
use Rattle.rx_program.proofs.GroupLaws.{ANode, Stands, stands_left, stands_right, stands_first, stands_behind}

-- ---- times

abbrev IsGrowing : (ℕ → ℕ → Type 0) → Type 0
IsGrowing takes = (i j : ℕ) → takes i j → i ≤ j

times_grow : (takes : ℕ → ℕ → Type 0) → IsGrowing takes → (n i j : ℕ) → Times takes n i j → i ≤ j
times_grow takes grows zero i j e = omega (arith, e)
times_grow takes grows (suc n) i j on = omega (arith, grows i on.0 on.1, times_grow takes grows n on.0 j on.2)

times_more : (takes : ℕ → ℕ → Type 0) (n k i j l : ℕ) → Times takes n i j → Times takes k j l → Times takes (n + k) i l
times_more takes zero k i j l e on = let same : k ≡ 0 + k = omega arith in subst (λ x. Times takes x i l) same (subst (λ x. Times takes k x l) (sym e) on)
times_more takes (suc n) k i j l first on = let same : suc (n + k) ≡ suc n + k = omega arith in subst (λ x. Times takes x i l) same (first.0, first.1, times_more takes n k first.0 j l first.2 on)

times_cut : (takes : ℕ → ℕ → Type 0) (n k i l : ℕ) → Times takes (n + k) i l → (j : ℕ) × Times takes n i j × Times takes k j l
times_cut takes zero k i l on = let same : 0 + k ≡ k = omega arith in (i, refl, subst (λ x. Times takes x i l) same on)
times_cut takes (suc n) k i l on =
    let same : suc n + k ≡ suc (n + k) = omega arith in
    let one : Times takes (suc (n + k)) i l = subst (λ x. Times takes x i l) same on in
    let further = times_cut takes n k one.0 l one.2 in
    (further.0, (one.0, one.1, further.1), further.2)

-- ---- the repetitions of trees

abbrev pub AreBounded : List Tree → Type 0
AreBounded trees = All (λ tree. IsBounded (root_of tree)) trees

pub up_to : (k : ℕ) (most : Option ℕ) → IsMost k most → IsUpTo k most
up_to k None fits = tt
up_to k (Some most) fits = fits.0

pub below : (front : List Tree) (tree : Tree) → AreBounded (front ++ tree ∷ []) → AreBounded front
below front tree bounded = all_left (λ tree. IsBounded (root_of tree)) front (tree ∷ []) bounded

-- ---- paths at a node

abbrev path_size : {Q N : Type 0} {m : Machine Q N} {q : Q} {i p e : ℕ} → Path m q i p e → ℕ
path_size (at_end is) = 0
path_size (by_edge rs r k is at path) = suc (path_size path)
path_size (by_read r j is path) = suc (path_size path)

ends_within : {Q : Type 0} {p : ℕ} (b : Bool) (x : Move Q) → only_if b x ≡ ends p → b ≡ true
ends_within true x e = refl
ends_within false x e = absurd (cc e)

reads_within : {Q : Type 0} {j : ℕ} {r : Q} (b : Bool) (x : Move Q) → only_if b x ≡ reads r j → b ≡ true
reads_within true x e = refl
reads_within false x e = absurd (cc e)

goes_within : {r : ℕ} (b : Bool) (x : Move ℕ) (rs : List ℕ) (c : ℕ) → only_if b x ≡ goes rs → slice_get rs c ≡ Some r → b ≡ true
goes_within true x rs c e at = refl
goes_within false x rs c e at = absurd (no_edge rs c (same_edges rs [] (sym e)) at)

look_holds : {r : ℕ} (b : Bool) (to : ℕ) (rs : List ℕ) (c : ℕ) → only_if b (goes (to ∷ [])) ≡ goes rs → slice_get rs c ≡ Some r → (b ≡ true) × (r ≡ to)
look_holds {r} true to rs c e at = (refl, only_edge rs c r to e at)
look_holds false to rs c e at = absurd (no_edge rs c (same_edges rs [] (sym e)) at)

read_takes : {to j' : ℕ} (r j : ℕ) (o : Option ℕ) → read_up_to r j o ≡ reads to j' → (k : ℕ) × (o ≡ Some k) × (j' ≡ j + k) × (to ≡ r)
read_takes r j None e = absurd (cc e)
read_takes r j (Some k) e = (k, refl, cc e, cc e)

module _ (first : List Range → List ℕ → Option ℕ) (h : Haystack walks.Look) (nodes : Code) (p e : ℕ) where
  abbrev M : Machine ℕ Notes
  M = over_characters put_note first nodes h

  abbrev To : ℕ → ℕ → Type 0
  To q i = Path M q i p e

  -- such a path with fewer than `n` steps
  abbrev Short : ℕ → ℕ → ℕ → Type 0
  Short n q i = (w : Path M q i p e) × (path_size w < n)

  longer : (n q i : ℕ) → Short n q i → Short (suc n) q i
  longer n q i short = (short.0, omega (arith, short.1))

  never : (q i : ℕ) → Short 0 q i → ⊥
  never q i short = omega (arith, short.1)

  path_within : {q i : ℕ} → To q i → is_within h.low h.high i ≡ true
  path_within {q} {i} (at_end is) = ends_within (is_within h.low h.high i) (by_character first h i (slice_get nodes q)) is
  path_within {q} {i} (by_edge rs r k is at path) = goes_within (is_within h.low h.high i) (by_character first h i (slice_get nodes q)) rs k is at
  path_within {q} {i} (by_read r j is path) = reads_within (is_within h.low h.high i) (by_character first h i (slice_get nodes q)) is

  -- where a node leads
  pass_short : (n q i : ℕ) (rs : List ℕ) → slice_get nodes q ≡ Some (pass rs) → Short (suc n) q i → (c : ℕ) × (r : ℕ) × (slice_get rs c ≡ Some r) × Short n r i
  pass_short n q i rs at (at_end {p = k} is, small) = absurd (cc (ends_by first h nodes q i k (Some (pass rs)) at is))
  pass_short n q i rs at (by_edge rs' r c is on path, small) =
      let same = same_edges rs rs' (goes_by first h nodes q i rs' c r (Some (pass rs)) at is on) in
      (c, r, ap (λ xs. slice_get xs c) same ∙ on, (path, omega (arith, small)))
  pass_short n q i rs at (by_read r j is path, small) = absurd (cc (reads_by first h nodes q i r j (Some (pass rs)) at is))

  note_short : (n q i slot r : ℕ) → slice_get nodes q ≡ Some (note slot r) → Short (suc n) q i → Short n r i
  note_short n q i slot r at (at_end {p = k} is, small) = absurd (cc (ends_by first h nodes q i k (Some (note slot r)) at is))
  note_short n q i slot r at (by_edge rs to c is on path, small) =
      subst (λ x. Short n x i) (only_edge rs c to r (goes_by first h nodes q i rs c to (Some (note slot r)) at is on) on) (path, omega (arith, small))
  note_short n q i slot r at (by_read to j is path, small) = absurd (cc (reads_by first h nodes q i to j (Some (note slot r)) at is))

  look_short : (n q i : ℕ) (l : walks.Look) (r : ℕ) → slice_get nodes q ≡ Some (look l r) → Short (suc n) q i → (h.holds l i ≡ true) × Short n r i
  look_short n q i l r at (at_end {p = k} is, small) = absurd (cc (only_ends (h.holds l i) (goes (r ∷ [])) (ends_by first h nodes q i k (Some (look l r)) at is)))
  look_short n q i l r at (by_edge rs to c is on path, small) =
      let both = look_holds (h.holds l i) r rs c (goes_by first h nodes q i rs c to (Some (look l r)) at is on) on in
      (both.0, subst (λ x. Short n x i) both.1 (path, omega (arith, small)))
  look_short n q i l r at (by_read to j is path, small) = absurd (cc (only_reads (h.holds l i) (goes (r ∷ [])) (reads_by first h nodes q i to j (Some (look l r)) at is)))

  set_short : (n q i : ℕ) (x : List Range) (r : ℕ) → slice_get nodes q ≡ Some (set x r) → Short (suc n) q i → (j : ℕ) × ((k : ℕ) × (first x (left_from h i) ≡ Some k) × (j ≡ i + k)) × Short n r j
  set_short n q i x r at (at_end {p = k} is, small) = absurd (read_not_ends r i (first x (left_from h i)) (ends_by first h nodes q i k (Some (set x r)) at is))
  set_short n q i x r at (by_edge rs to c is on path, small) = absurd (read_not_goes r i (first x (left_from h i)) rs c (goes_by first h nodes q i rs c to (Some (set x r)) at is on) on)
  set_short n q i x r at (by_read to j is path, small) =
      let taken = read_takes r i (first x (left_from h i)) (reads_by first h nodes q i to j (Some (set x r)) at is) in
      (j, (taken.0, taken.1, taken.2), subst (λ y. Short n y j) taken.3 (path, omega (arith, small)))

  -- and from where it leads
  moves : (q i : ℕ) (x : ANode) → is_within h.low h.high i ≡ true → slice_get nodes q ≡ Some x → M.move i q ≡ by_character first h i (Some x)
  moves q i x inside at = ap (λ b. only_if b (by_character first h i (slice_get nodes q))) inside ∙ ap (λ z. by_character first h i z) at

  pass_to : (q i c r : ℕ) (rs : List ℕ) → slice_get nodes q ≡ Some (pass rs) → slice_get rs c ≡ Some r → To r i → To q i
  pass_to q i c r rs at on path = by_edge rs r c (moves q i (pass rs) (path_within path) at) on path

  note_to : (q i slot r : ℕ) → slice_get nodes q ≡ Some (note slot r) → To r i → To q i
  note_to q i slot r at path = by_edge (r ∷ []) r 0 (moves q i (note slot r) (path_within path) at) refl path

  look_to : (q i : ℕ) (l : walks.Look) (r : ℕ) → slice_get nodes q ≡ Some (look l r) → h.holds l i ≡ true → To r i → To q i
  look_to q i l r at holds path = by_edge (r ∷ []) r 0 (moves q i (look l r) (path_within path) at ∙ ap (λ b. only_if b (goes (r ∷ []))) holds) refl path

  is_inside : (low high i j : ℕ) → low ≤ i → i ≤ j → is_within low high j ≡ true → is_within low high i ≡ true
  is_inside low high i j from on inside = grind (arith, nat_tests)

  set_to : (q i k : ℕ) (x : List Range) (r : ℕ) → slice_get nodes q ≡ Some (set x r) → h.low ≤ i → first x (left_from h i) ≡ Some k → To r (i + k) → To q i
  set_to q i k x r at from is path =
      by_read r (i + k) (moves q i (set x r) (is_inside h.low h.high i (i + k) from (omega arith) (path_within path)) at ∙ ap (λ o. read_up_to r i o) is) path

  match_to : (q i : ℕ) → slice_get nodes q ≡ Some (match p) → is_within h.low h.high i ≡ true → Path M q i p i
  match_to q i at inside = at_end (moves q i (match p) inside at)

  fork_short : (g : Bool) (n q i into on : ℕ) → slice_get nodes q ≡ Some (fork g into on) → Short (suc n) q i → Short n into i ⊎ Short n on i
  fork_short g n q i into on at short = by g at
    where
      of_two : (a b c r : ℕ) → slice_get (a ∷ b ∷ []) c ≡ Some r → Short n r i → Short n a i ⊎ Short n b i
      of_two a b zero r is path = let same : r ≡ a = cc is in inl (subst (λ x. Short n x i) same path)
      of_two a b (suc zero) r is path = let same : r ≡ b = cc is in inr (subst (λ x. Short n x i) same path)
      of_two a b (suc (suc c)) r is path = absurd (cc is)

      turned : Short n on i ⊎ Short n into i → Short n into i ⊎ Short n on i
      turned (inl a) = inr a
      turned (inr b) = inl b

      by : (g : Bool) → slice_get nodes q ≡ Some (fork g into on) → Short n into i ⊎ Short n on i
      by true at = let one = pass_short n q i (into ∷ on ∷ []) at short in of_two into on one.0 one.1 one.2 one.3
      by false at = let one = pass_short n q i (on ∷ into ∷ []) at short in turned (of_two on into one.0 one.1 one.2 one.3)

  fork_into : (g : Bool) (q i into on : ℕ) → slice_get nodes q ≡ Some (fork g into on) → To into i → To q i
  fork_into true q i into on at path = pass_to q i 0 into (into ∷ on ∷ []) at refl path
  fork_into false q i into on at path = pass_to q i 1 into (on ∷ into ∷ []) at refl path

  fork_on : (g : Bool) (q i into on : ℕ) → slice_get nodes q ≡ Some (fork g into on) → To on i → To q i
  fork_on true q i into on at path = pass_to q i 1 on (into ∷ on ∷ []) at refl path
  fork_on false q i into on at path = pass_to q i 0 on (on ∷ into ∷ []) at refl path

  -- ---- parts

  -- a path through a part is a match of it, and goes on after it with fewer steps
  abbrev Splits : (ℕ → ℕ → Code) → (ℕ → ℕ → Type 0) → Type 0
  Splits code takes = (at next n i : ℕ) → Stands nodes at (code at next) → Short (suc n) at i → (j : ℕ) × takes i j × Short n next j

  -- if a part matches and a path goes on after it, a path goes through it
  abbrev Builds : (ℕ → ℕ → Code) → (ℕ → ℕ → Type 0) → Type 0
  Builds code takes = (at next i j : ℕ) → Stands nodes at (code at next) → h.low ≤ i → takes i j → To next j → To at i

  abbrev AnyTimes : (ℕ → ℕ → Type 0) → ℕ → ℕ → Type 0
  AnyTimes takes i j = (n : ℕ) × Times takes n i j

  abbrev AtMostTimes : (ℕ → ℕ → Type 0) → ℕ → ℕ → ℕ → Type 0
  AtMostTimes takes most i j = (n : ℕ) × (n ≤ most) × Times takes n i j

  module _ (takes : ℕ → ℕ → Type 0) (g : Bool) (q into on : ℕ) (at : slice_get nodes q ≡ Some (fork g into on)) where
    loop_splits : ((n i : ℕ) → Short (suc n) into i → (j : ℕ) × takes i j × Short n q j) → (n i : ℕ) → Short n q i → (j : ℕ) × AnyTimes takes i j × Short n on j
    loop_splits body zero i short = absurd (never q i short)
    loop_splits body (suc n) i short = elim (fork_short g n q i into on at short) [
      | inr out ↦ (i, (0, refl), longer n on i out)
      | inl inside ↦ (
          let one = body n i (longer n into i inside) in
          let others = loop_splits body n one.0 one.2 in
          (others.0, (suc others.1.0, (one.0, one.1, others.1.1)), longer n on others.0 others.2))
    ]

    loop_builds : ((i j : ℕ) → h.low ≤ i → takes i j → To q j → To into i) → IsGrowing takes → (n i j : ℕ) → h.low ≤ i → Times takes n i j → To on j → To q i
    loop_builds body grows zero i j from e path = fork_on g q i into on at (subst (To on) (sym e) path)
    loop_builds body grows (suc n) i j from times path =
        let rest = loop_builds body grows n times.0 j (omega (arith, from, grows i times.0 times.1)) times.2 path in
        fork_into g q i into on at (body i times.0 from times.1 rest)

  module _ (s : ℕ) (code : ℕ → ℕ → Code) (takes : ℕ → ℕ → Type 0) (size : (at next : ℕ) → length (code at next) ≡ s) (splits : Splits code takes) (builds : Builds code takes) (grows : IsGrowing takes) where
    copies_split : (k at next n i : ℕ) → Stands nodes at (copies s code k at next) → Short n (entry_of k at next) i → (j : ℕ) × Times takes k i j × Short n next j
    copies_split zero at next n i stands short = (i, refl, short)
    copies_split (suc k) at next n i stands short =
        let inner = entry_of k (at + s) next in
        let one = splits at inner n i (stands_left nodes at (code at inner) (copies s code k (at + s) next) stands) (longer n at i short) in
        let others = copies_split k (at + s) next n one.0 (stands_right nodes at s (code at inner) (copies s code k (at + s) next) (size at inner) stands) one.2 in
        (others.0, (one.0, one.1, others.1), others.2)

    some_copies_split : (k at next n i : ℕ) → Stands nodes at (copies s code (suc k) at next) → Short (suc n) at i → (j : ℕ) × Times takes (suc k) i j × Short n next j
    some_copies_split k at next n i stands short =
        let inner = entry_of k (at + s) next in
        let one = splits at inner n i (stands_left nodes at (code at inner) (copies s code k (at + s) next) stands) short in
        let others = copies_split k (at + s) next n one.0 (stands_right nodes at s (code at inner) (copies s code k (at + s) next) (size at inner) stands) one.2 in
        (others.0, (one.0, one.1, others.1), others.2)

    copies_build : (k at next i j : ℕ) → Stands nodes at (copies s code k at next) → h.low ≤ i → Times takes k i j → To next j → To (entry_of k at next) i
    copies_build zero at next i j stands from e path = subst (To next) (sym e) path
    copies_build (suc k) at next i j stands from times path =
        let inner = entry_of k (at + s) next in
        let rest = copies_build k (at + s) next times.0 j (stands_right nodes at s (code at inner) (copies s code k (at + s) next) (size at inner) stands) (omega (arith, from, grows i times.0 times.1)) times.2 path in
        builds at inner i times.0 (stands_left nodes at (code at inner) (copies s code k (at + s) next) stands) from times.1 rest

    -- the last copy
    last_stands : (k at next : ℕ) → Stands nodes at (copies s code (suc k) at next) → Stands nodes (at + k * s) (code (at + k * s) next)
    last_stands zero at next stands =
        let same : at ≡ at + zero * s = omega arith in
        subst (λ a. Stands nodes a (code a next)) same (stands_left nodes at (code at next) [] stands)
    last_stands (suc k) at next stands =
        let inner = entry_of (suc k) (at + s) next in
        let same : at + s + k * s ≡ at + suc k * s = omega arith in
        subst (λ a. Stands nodes a (code a next)) same (last_stands k (at + s) next (stands_right nodes at s (code at inner) (copies s code (suc k) (at + s) next) (size at inner) stands))

    -- optional copies
    optional_split : (g : Bool) (k at next n i : ℕ) → Stands nodes at (optional g s code k at next) → Short n (entry_of k at next) i → (j : ℕ) × AtMostTimes takes k i j × Short n next j
    optional_split g zero at next n i stands short = (i, (0, omega arith, refl), short)
    optional_split g (suc k) at next zero i stands short = absurd (never at i short)
    optional_split g (suc k) at next (suc n) i stands short =
        let inner = entry_of k (at + 1 + s) next in
        let part = code (at + 1) inner in
        let others = optional g s code k (at + 1 + s) next in
        let behind_it = stands_behind nodes at (fork g (at + 1) next) (part ++ others) stands in
        elim (fork_short g n at i (at + 1) next (stands_first nodes at (fork g (at + 1) next) (part ++ others) stands) short) [
          | inr out ↦ (i, (0, omega arith, refl), longer n next i out)
          | inl inside ↦ (
              let one = splits (at + 1) inner n i (stands_left nodes (at + 1) part others behind_it) (longer n (at + 1) i inside) in
              let rest = optional_split g k (at + 1 + s) next n one.0 (stands_right nodes (at + 1) s part others (size (at + 1) inner) behind_it) one.2 in
              (rest.0, (suc rest.1.0, omega (arith, rest.1.1), (one.0, one.1, rest.1.2)), longer n next rest.0 rest.2))
        ]

    some_optional_split : (g : Bool) (k at next n i : ℕ) → Stands nodes at (optional g s code (suc k) at next) → Short (suc n) at i → (j : ℕ) × AtMostTimes takes (suc k) i j × Short n next j
    some_optional_split g k at next n i stands short =
        let inner = entry_of k (at + 1 + s) next in
        let part = code (at + 1) inner in
        let others = optional g s code k (at + 1 + s) next in
        let behind_it = stands_behind nodes at (fork g (at + 1) next) (part ++ others) stands in
        elim (fork_short g n at i (at + 1) next (stands_first nodes at (fork g (at + 1) next) (part ++ others) stands) short) [
          | inr out ↦ (i, (0, omega arith, refl), out)
          | inl inside ↦ (
              let one = splits (at + 1) inner n i (stands_left nodes (at + 1) part others behind_it) (longer n (at + 1) i inside) in
              let rest = optional_split g k (at + 1 + s) next n one.0 (stands_right nodes (at + 1) s part others (size (at + 1) inner) behind_it) one.2 in
              (rest.0, (suc rest.1.0, omega (arith, rest.1.1), (one.0, one.1, rest.1.2)), rest.2))
        ]

    optional_build : (g : Bool) (k n at next i j : ℕ) → n ≤ k → Stands nodes at (optional g s code k at next) → h.low ≤ i → Times takes n i j → To next j → To (entry_of k at next) i
    optional_build g zero zero at next i j few stands from e path = subst (To next) (sym e) path
    optional_build g zero (suc n) at next i j few stands from times path = absurd (omega (arith, few))
    optional_build g (suc k) zero at next i j few stands from e path =
        let inner = entry_of k (at + 1 + s) next in
        fork_on g at i (at + 1) next (stands_first nodes at (fork g (at + 1) next) (code (at + 1) inner ++ optional g s code k (at + 1 + s) next) stands) (subst (To next) (sym e) path)
    optional_build g (suc k) (suc n) at next i j few stands from times path =
        let inner = entry_of k (at + 1 + s) next in
        let part = code (at + 1) inner in
        let others = optional g s code k (at + 1 + s) next in
        let behind_it = stands_behind nodes at (fork g (at + 1) next) (part ++ others) stands in
        let rest = optional_build g k n (at + 1 + s) next times.0 j (omega (arith, few)) (stands_right nodes (at + 1) s part others (size (at + 1) inner) behind_it) (omega (arith, from, grows i times.0 times.1)) times.2 path in
        fork_into g at i (at + 1) next (stands_first nodes at (fork g (at + 1) next) (part ++ others) stands) (builds (at + 1) inner i times.0 (stands_left nodes (at + 1) part others behind_it) from times.1 rest)

    -- a repetition
    abbrev Repeated : ℕ → Option ℕ → ℕ → ℕ → Type 0
    Repeated least most i j = (n : ℕ) × (least ≤ n) × IsUpTo n most × Times takes n i j

    repetition_splits : (g : Bool) (k : ℕ) (most : Option ℕ) (may : Bool) → IsUpTo k most → Splits (repetition_code g k most s may code) (Repeated k most)
    repetition_splits g k (Some zero) may fits at next n i stands short =
        let one = pass_short n at i (next ∷ []) (stands_first nodes at (pass (next ∷ [])) [] stands) short in
        (i, (0, fits, omega arith, refl), only_one one.0 one.1 one.2 one.3)
      where
        only_one : (c r : ℕ) → slice_get (next ∷ []) c ≡ Some r → Short n r i → Short n next i
        only_one zero r is path = let same : r ≡ next = cc is in subst (λ x. Short n x i) same path
        only_one (suc c) r is path = absurd (cc is)
    repetition_splits g zero (Some (suc m)) may fits at next n i stands short =
        let most : suc m - 0 ≡ suc m = omega arith in
        let same : at + 0 * s ≡ at = omega arith in
        let stands' : Stands nodes at (optional g s code (suc m) at next) = subst (λ a. Stands nodes at (optional g s code (suc m) a next)) same (subst (λ k. Stands nodes at (optional g s code k (at + 0 * s) next)) most stands) in
        let one = some_optional_split g m at next n i stands' short in
        (one.0, (one.1.0, omega arith, one.1.1, one.1.2), one.2)
    repetition_splits g (suc k) (Some (suc m)) may fits at next n i stands short =
        let on = entry_of (suc m - suc k) (at + suc k * s) next in
        let front = copies s code (suc k) at on in
        let back = optional g s code (suc m - suc k) (at + suc k * s) next in
        let one = some_copies_split k at on n i (stands_left nodes at front back stands) short in
        let others = optional_split g (suc m - suc k) (at + suc k * s) next n one.0 (stands_right nodes at (suc k * s) front back (copies_length s code size (suc k) at on) stands) one.2 in
        (others.0, (suc k + others.1.0, omega arith, omega (arith, fits, others.1.1), times_more takes (suc k) others.1.0 i one.0 others.0 one.1 others.1.2), others.2)
    repetition_splits g zero None false fits at next n i stands short =
        let part = code (at + 1) at in
        let a_fork = fork g (at + 1) next in
        let at_first = stands_first nodes at a_fork part stands in
        let body : (n i : ℕ) → Short (suc n) (at + 1) i → (j : ℕ) × takes i j × Short n at j = λ n i short. splits (at + 1) at n i (stands_behind nodes at a_fork part stands) short in
        elim (fork_short g n at i (at + 1) next at_first short) [
          | inr out ↦ (i, (0, omega arith, tt, refl), out)
          | inl inside ↦ (
              let one = body n i (longer n (at + 1) i inside) in
              let others = loop_splits takes g at (at + 1) next at_first body n one.0 one.2 in
              (others.0, (suc others.1.0, omega arith, tt, (one.0, one.1, others.1.1)), others.2))
        ]
    repetition_splits g zero None true fits at next n i stands short =
        let last = at + 1 + s in
        let a_fork = fork g (at + 1) next in
        let part = code (at + 1) last in
        let behind_it = stands_behind nodes at a_fork (part ++ a_fork ∷ []) stands in
        let inner = stands_left nodes (at + 1) part (a_fork ∷ []) behind_it in
        let at_last = stands_first nodes last a_fork [] (stands_right nodes (at + 1) s part (a_fork ∷ []) (size (at + 1) last) behind_it) in
        let body : (n i : ℕ) → Short (suc n) (at + 1) i → (j : ℕ) × takes i j × Short n last j = λ n i short. splits (at + 1) last n i inner short in
        elim (fork_short g n at i (at + 1) next (stands_first nodes at a_fork (part ++ a_fork ∷ []) stands) short) [
          | inr out ↦ (i, (0, omega arith, tt, refl), out)
          | inl inside ↦ (
              let one = body n i (longer n (at + 1) i inside) in
              let others = loop_splits takes g last (at + 1) next at_last body n one.0 one.2 in
              (others.0, (suc others.1.0, omega arith, tt, (one.0, one.1, others.1.1)), others.2))
        ]
    repetition_splits g (suc k) None may fits at next n i stands short =
        let last = at + suc k * s in
        let front = copies s code (suc k) at last in
        let a_fork = fork g (at + k * s) next in
        let at_last = stands_first nodes last a_fork [] (stands_right nodes at (suc k * s) front (a_fork ∷ []) (copies_length s code size (suc k) at last) stands) in
        let front_stands = stands_left nodes at front (a_fork ∷ []) stands in
        let body : (n i : ℕ) → Short (suc n) (at + k * s) i → (j : ℕ) × takes i j × Short n last j = λ n i short. splits (at + k * s) last n i (last_stands k at last front_stands) short in
        let one = some_copies_split k at last n i front_stands short in
        let others = loop_splits takes g last (at + k * s) next at_last body n one.0 one.2 in
        (others.0, (suc k + others.1.0, omega arith, tt, times_more takes (suc k) others.1.0 i one.0 others.0 one.1 others.1.1), others.2)

    none_more : (n i j : ℕ) → n ≤ 0 → Times takes n i j → i ≡ j
    none_more zero i j few e = e
    none_more (suc n) i j few times = absurd (omega (arith, few))

    repetition_builds : (g : Bool) (k : ℕ) (most : Option ℕ) (may : Bool) → IsUpTo k most → Builds (repetition_code g k most s may code) (Repeated k most)
    repetition_builds g k (Some zero) may fits at next i j stands from taken path =
        pass_to at i 0 next (next ∷ []) (stands_first nodes at (pass (next ∷ [])) [] stands) refl (subst (To next) (sym (none_more taken.0 i j taken.2 taken.3)) path)
    repetition_builds g zero (Some (suc m)) may fits at next i j stands from taken path =
        let most : suc m - 0 ≡ suc m = omega arith in
        let same : at + 0 * s ≡ at = omega arith in
        let stands' : Stands nodes at (optional g s code (suc m) at next) = subst (λ a. Stands nodes at (optional g s code (suc m) a next)) same (subst (λ k. Stands nodes at (optional g s code k (at + 0 * s) next)) most stands) in
        optional_build g (suc m) taken.0 at next i j taken.2 stands' from taken.3 path
    repetition_builds g (suc k) (Some (suc m)) may fits at next i j stands from taken path =
        let on = entry_of (suc m - suc k) (at + suc k * s) next in
        let front = copies s code (suc k) at on in
        let back = optional g s code (suc m - suc k) (at + suc k * s) next in
        let count : taken.0 ≡ suc k + (taken.0 - suc k) = omega (arith, taken.1) in
        let cut = times_cut takes (suc k) (taken.0 - suc k) i j (subst (λ n. Times takes n i j) count taken.3) in
        let rest = optional_build g (suc m - suc k) (taken.0 - suc k) (at + suc k * s) next cut.0 j (omega (arith, taken.1, taken.2, fits)) (stands_right nodes at (suc k * s) front back (copies_length s code size (suc k) at on) stands)
        (omega (arith, from, times_grow takes grows (suc k) i cut.0 cut.1)) cut.2 path in
        copies_build (suc k) at on i cut.0 (stands_left nodes at front back stands) from cut.1 rest
    repetition_builds g zero None false fits at next i j stands from taken path =
        let part = code (at + 1) at in
        let a_fork = fork g (at + 1) next in
        loop_builds takes g at (at + 1) next (stands_first nodes at a_fork part stands) (λ i j from once on. builds (at + 1) at i j (stands_behind nodes at a_fork part stands) from once on) grows taken.0 i j from taken.3 path
    repetition_builds g zero None true fits at next i j stands from taken path = by taken.0 taken.3
      where
        by : (n : ℕ) → Times takes n i j → To at i
        by zero e = fork_on g at i (at + 1) next (stands_first nodes at (fork g (at + 1) next) (code (at + 1) (at + 1 + s) ++ fork g (at + 1) next ∷ []) stands) (subst (To next) (sym e) path)
        by (suc n) times =
            let last = at + 1 + s in
            let a_fork = fork g (at + 1) next in
            let part = code (at + 1) last in
            let behind_it = stands_behind nodes at a_fork (part ++ a_fork ∷ []) stands in
            let inner = stands_left nodes (at + 1) part (a_fork ∷ []) behind_it in
            let at_last = stands_first nodes last a_fork [] (stands_right nodes (at + 1) s part (a_fork ∷ []) (size (at + 1) last) behind_it) in
            let rest = loop_builds takes g last (at + 1) next at_last (λ i j from once on. builds (at + 1) last i j inner from once on) grows n times.0 j (omega (arith, from, grows i times.0 times.1)) times.2 path in
            fork_into g at i (at + 1) next (stands_first nodes at a_fork (part ++ a_fork ∷ []) stands) (builds (at + 1) last i times.0 inner from times.1 rest)
    repetition_builds g (suc k) None may fits at next i j stands from taken path =
        let last = at + suc k * s in
        let front = copies s code (suc k) at last in
        let a_fork = fork g (at + k * s) next in
        let at_last = stands_first nodes last a_fork [] (stands_right nodes at (suc k * s) front (a_fork ∷ []) (copies_length s code size (suc k) at last) stands) in
        let front_stands = stands_left nodes at front (a_fork ∷ []) stands in
        let count : taken.0 ≡ suc k + (taken.0 - suc k) = omega (arith, taken.1) in
        let cut = times_cut takes (suc k) (taken.0 - suc k) i j (subst (λ n. Times takes n i j) count taken.3) in
        let rest = loop_builds takes g last (at + k * s) next at_last (λ i j from once on. builds (at + k * s) last i j (last_stands k at last front_stands) from once on) grows (taken.0 - suc k) cut.0 j
        (omega (arith, from, times_grow takes grows (suc k) i cut.0 cut.1)) cut.2 path in
        copies_build (suc k) at last i cut.0 front_stands from cut.1 rest

  -- a part of `s` nodes
  record IsPart (s : ℕ) (code : ℕ → ℕ → Code) (takes : ℕ → ℕ → Type 0) : Type 0 where
    size : (at next : ℕ) → length (code at next) ≡ s
    splits : Splits code takes
    builds : Builds code takes
    grows : IsGrowing takes

  one_short : (n at next i : ℕ) → slice_get nodes at ≡ Some (pass (next ∷ [])) → Short (suc n) at i → Short n next i
  one_short n at next i is short = let one = pass_short n at i (next ∷ []) is short in only one.0 one.1 one.2 one.3
    where
      only : (c r : ℕ) → slice_get (next ∷ []) c ≡ Some r → Short n r i → Short n next i
      only zero r is path = let same : r ≡ next = cc is in subst (λ x. Short n x i) same path
      only (suc c) r is path = absurd (cc is)

  empty_part : IsPart 1 (λ at next. pass (next ∷ []) ∷ []) (λ i j. i ≡ j)
  empty_part = record {
    size = λ at next. refl;
    splits = λ at next n i stands short. (i, refl, one_short n at next i (stands_first nodes at (pass (next ∷ [])) [] stands) short);
    builds = λ at next i j stands from same path. pass_to at i 0 next (next ∷ []) (stands_first nodes at (pass (next ∷ [])) [] stands) refl (subst (To next) (sym same) path);
    grows = λ i j same. omega (arith, same);
  }

  set_part : (x : List Range) → IsPart 1 (λ at next. set x next ∷ []) (λ i j. (k : ℕ) × (first x (left_from h i) ≡ Some k) × (j ≡ i + k))
  set_part x = record {
    size = λ at next. refl;
    splits = λ at next n i stands short. set_short n at i x next (stands_first nodes at (set x next) [] stands) short;
    builds = λ at next i j stands from taken path. set_to at i taken.0 x next (stands_first nodes at (set x next) [] stands) from taken.1 (subst (To next) taken.2 path);
    grows = λ i j taken. omega (arith, taken.2);
  }

  look_part : (l : walks.Look) → IsPart 1 (λ at next. look l next ∷ []) (λ i j. IsTrue (h.holds l i) × (i ≡ j))
  look_part l = record {
    size = λ at next. refl;
    splits = λ at next n i stands short. let one = look_short n at i l next (stands_first nodes at (look l next) [] stands) short in (i, (one.0, refl), one.1);
    builds = λ at next i j stands from taken path. look_to at i l next (stands_first nodes at (look l next) [] stands) taken.0 (subst (To next) (sym taken.1) path);
    grows = λ i j taken. omega (arith, taken.1);
  }

  group_part : (s : ℕ) (code : ℕ → ℕ → Code) (takes : ℕ → ℕ → Type 0) (slot slot' : ℕ) → IsPart s code takes → IsPart (2 + s) (λ at next. note slot (at + 1) ∷ (code (at + 1) (at + 1 + s) ++ note slot' next ∷ [])) takes
  group_part s code takes slot slot' part = record {
    size = λ at next. omega (arith, length-append (code (at + 1) (at + 1 + s)) (note slot' next ∷ []), part.size (at + 1) (at + 1 + s));
    splits = λ at next n i stands short.
        let start : ANode = note slot (at + 1) in
        let end : ANode = note slot' next in
        let inner = code (at + 1) (at + 1 + s) in
        let behind_it = stands_behind nodes at start (inner ++ end ∷ []) stands in
        let one = part.splits (at + 1) (at + 1 + s) n i (stands_left nodes (at + 1) inner (end ∷ []) behind_it) (longer n (at + 1) i (note_short n at i slot (at + 1) (stands_first nodes at start (inner ++ end ∷ []) stands) short)) in
        (one.0, one.1, note_short n (at + 1 + s) one.0 slot' next (stands_first nodes (at + 1 + s) end [] (stands_right nodes (at + 1) s inner (end ∷ []) (part.size (at + 1) (at + 1 + s)) behind_it)) (longer n (at + 1 + s) one.0 one.2));
    builds = λ at next i j stands from taken path.
        let start : ANode = note slot (at + 1) in
        let end : ANode = note slot' next in
        let inner = code (at + 1) (at + 1 + s) in
        let behind_it = stands_behind nodes at start (inner ++ end ∷ []) stands in
        let rest = note_to (at + 1 + s) j slot' next (stands_first nodes (at + 1 + s) end [] (stands_right nodes (at + 1) s inner (end ∷ []) (part.size (at + 1) (at + 1 + s)) behind_it)) path in
        note_to at i slot (at + 1) (stands_first nodes at start (inner ++ end ∷ []) stands) (part.builds (at + 1) (at + 1 + s) i j (stands_left nodes (at + 1) inner (end ∷ []) behind_it) from taken rest);
    grows = part.grows;
  }

  -- one part after the other
  turn_part : (s s' : ℕ) (code code' : ℕ → ℕ → Code) (takes takes' : ℕ → ℕ → Type 0) → IsPart s code takes → IsPart s' code' takes'
      → IsPart (s + s') (λ at next. code at (at + s) ++ code' (at + s) next) (λ i k. (j : ℕ) × takes i j × takes' j k)
  turn_part s s' code code' takes takes' one other = record {
    size = λ at next. omega (arith, length-append (code at (at + s)) (code' (at + s) next), one.size at (at + s), other.size (at + s) next);
    splits = λ at next n i stands short.
        let front = one.splits at (at + s) n i (stands_left nodes at (code at (at + s)) (code' (at + s) next) stands) short in
        let back = other.splits (at + s) next n front.0 (stands_right nodes at s (code at (at + s)) (code' (at + s) next) (one.size at (at + s)) stands) (longer n (at + s) front.0 front.2) in
        (back.0, (front.0, front.1, back.1), back.2);
    builds = λ at next i j stands from taken path.
        let back = other.builds (at + s) next taken.0 j (stands_right nodes at s (code at (at + s)) (code' (at + s) next) (one.size at (at + s)) stands) (omega (arith, from, one.grows i taken.0 taken.1)) taken.2 path in
        one.builds at (at + s) i taken.0 (stands_left nodes at (code at (at + s)) (code' (at + s) next) stands) from taken.1 back;
    grows = λ i k taken. omega (arith, one.grows i taken.0 taken.1, other.grows taken.0 k taken.2);
  }

  -- alternative parts, which start at these nodes
  record AreBranches (s : ℕ) (starts : ℕ → List ℕ) (code : ℕ → ℕ → Code) (takes : ℕ → ℕ → Type 0) : Type 0 where
    size : (at next : ℕ) → length (code at next) ≡ s
    splits : (at next n i c r : ℕ) → Stands nodes at (code at next) → slice_get (starts at) c ≡ Some r → Short n r i → (j : ℕ) × takes i j × Short n next j
    builds : (at next i j : ℕ) → Stands nodes at (code at next) → h.low ≤ i → takes i j → To next j → (c : ℕ) × (r : ℕ) × (slice_get (starts at) c ≡ Some r) × To r i
    grows : IsGrowing takes

  one_branch : (s : ℕ) (code : ℕ → ℕ → Code) (takes : ℕ → ℕ → Type 0) → IsPart s code takes → AreBranches s (λ at. at ∷ []) code takes
  one_branch s code takes part = record {
    size = part.size;
    splits = λ at next n i c r stands is short. by at next n i c r stands is short;
    builds = λ at next i j stands from taken path. (0, at, refl, part.builds at next i j stands from taken path);
    grows = part.grows;
  }
    where
      by : (at next n i c r : ℕ) → Stands nodes at (code at next) → slice_get (at ∷ []) c ≡ Some r → Short n r i → (j : ℕ) × takes i j × Short n next j
      by at next n i zero r stands is short = let same : r ≡ at = cc is in part.splits at next n i stands (longer n at i (subst (λ x. Short n x i) same short))
      by at next n i (suc c) r stands is short = absurd (cc is)

  more_branches : (s s' : ℕ) (starts : ℕ → List ℕ) (code code' : ℕ → ℕ → Code) (takes takes' : ℕ → ℕ → Type 0) → IsPart s code takes → AreBranches s' starts code' takes'
      → AreBranches (s + s') (λ at. at ∷ starts (at + s)) (λ at next. code at next ++ code' (at + s) next) (λ i j. takes i j ⊎ takes' i j)
  more_branches s s' starts code code' takes takes' one others = record {
    size = λ at next. omega (arith, length-append (code at next) (code' (at + s) next), one.size at next, others.size (at + s) next);
    splits = splits;
    builds = builds;
    grows = λ i j taken. elim taken [ inl a ↦ one.grows i j a | inr b ↦ others.grows i j b ];
  }
    where
      back : (at next : ℕ) → Stands nodes at (code at next ++ code' (at + s) next) → Stands nodes (at + s) (code' (at + s) next)
      back at next stands = stands_right nodes at s (code at next) (code' (at + s) next) (one.size at next) stands

      splits : (at next n i c r : ℕ) → Stands nodes at (code at next ++ code' (at + s) next) → slice_get (at ∷ starts (at + s)) c ≡ Some r → Short n r i → (j : ℕ) × (takes i j ⊎ takes' i j) × Short n next j
      splits at next n i zero r stands is short =
          let same : r ≡ at = cc is in
          let on = one.splits at next n i (stands_left nodes at (code at next) (code' (at + s) next) stands) (longer n at i (subst (λ x. Short n x i) same short)) in
          (on.0, inl on.1, on.2)
      splits at next n i (suc c) r stands is short = let on = others.splits (at + s) next n i c r (back at next stands) is short in (on.0, inr on.1, on.2)

      builds : (at next i j : ℕ) → Stands nodes at (code at next ++ code' (at + s) next) → h.low ≤ i → takes i j ⊎ takes' i j → To next j → (c : ℕ) × (r : ℕ) × (slice_get (at ∷ starts (at + s)) c ≡ Some r) × To r i
      builds at next i j stands from (inl a) path = (0, at, refl, one.builds at next i j (stands_left nodes at (code at next) (code' (at + s) next) stands) from a path)
      builds at next i j stands from (inr b) path = let on = others.builds (at + s) next i j (back at next stands) from b path in (suc on.0, on.1, on.2, on.3)

  choice_part : (s : ℕ) (starts : ℕ → List ℕ) (code : ℕ → ℕ → Code) (takes : ℕ → ℕ → Type 0) → AreBranches s starts code takes → IsPart (1 + s) (λ at next. pass (starts (at + 1)) ∷ code (at + 1) next) takes
  choice_part s starts code takes branches = record {
    size = λ at next. omega (arith, branches.size (at + 1) next);
    splits = λ at next n i stands short.
        let one = pass_short n at i (starts (at + 1)) (stands_first nodes at (pass (starts (at + 1))) (code (at + 1) next) stands) short in
        branches.splits (at + 1) next n i one.0 one.1 (stands_behind nodes at (pass (starts (at + 1))) (code (at + 1) next) stands) one.2 one.3;
    builds = λ at next i j stands from taken path.
        let one = branches.builds (at + 1) next i j (stands_behind nodes at (pass (starts (at + 1))) (code (at + 1) next) stands) from taken path in
        pass_to at i one.0 one.1 (starts (at + 1)) (stands_first nodes at (pass (starts (at + 1))) (code (at + 1) next) stands) one.2 one.3;
    grows = branches.grows;
  }

  repeated_part : (s : ℕ) (code : ℕ → ℕ → Code) (takes : ℕ → ℕ → Type 0) (g : Bool) (k : ℕ) (most : Option ℕ) (may : Bool) → IsUpTo k most → IsPart s code takes
      → IsPart (repeated_weight k most s may) (repetition_code g k most s may code) (λ i j. (n : ℕ) × (k ≤ n) × IsUpTo n most × Times takes n i j)
  repeated_part s code takes g k most may fits part = record {
    size = repetition_length g k most s may code part.size;
    splits = repetition_splits s code takes part.size part.splits part.builds part.grows g k most may fits;
    builds = repetition_builds s code takes part.size part.splits part.builds part.grows g k most may fits;
    grows = λ i j taken. times_grow takes part.grows taken.0 i j taken.3;
  }

  -- ---- trees

  module _ (slots : ℕ) where
    mutual
      tree_part : (tree : Tree) → AreBounded (subtrees_of tree) → IsPart (size_of tree) (code_of slots tree) (Takes first h tree)
      tree_part empty bounded = empty_part
      tree_part (one_of ranges) bounded = set_part ranges
      tree_part (look_at asked) bounded = look_part (place_of asked)
      tree_part (group number name tree) bounded = group_part (size_of tree) (code_of slots tree) (Takes first h tree) (slots + 2 * number) (slots + 2 * number + 1) (tree_part tree (below (subtrees_of tree) (group number name tree) bounded))
      tree_part (concat trees) bounded = row_part trees (below (all_subtrees_of trees) (concat trees) bounded)
      tree_part (alternation trees) bounded = choice_part (all_sizes_of trees) (branch_starts trees) (branches_code slots trees) (TakesOneOf first h trees) (branches trees (below (all_subtrees_of trees) (alternation trees) bounded))
      tree_part (repeated rep tree) bounded = repeated_part (size_of tree) (code_of slots tree) (Takes first h tree) rep.greedy rep.min rep.max (may_be_empty tree)
          (up_to rep.min rep.max (All-head (λ tree. IsBounded (root_of tree)) (repeated rep tree) [] (all_right (λ tree. IsBounded (root_of tree)) (subtrees_of tree) (repeated rep tree ∷ []) bounded)).1)
          (tree_part tree (below (subtrees_of tree) (repeated rep tree) bounded))

      row_part : (trees : Trees) → AreBounded (all_subtrees_of trees) → IsPart (all_sizes_of trees) (row_code slots trees) (TakesInTurn first h trees)
      row_part (two one other) bounded = turn_part (size_of one) (size_of other) (code_of slots one) (code_of slots other) (Takes first h one) (Takes first h other)
          (tree_part one (all_left (λ tree. IsBounded (root_of tree)) (subtrees_of one) (subtrees_of other) bounded)) (tree_part other (all_right (λ tree. IsBounded (root_of tree)) (subtrees_of one) (subtrees_of other) bounded))
      row_part (more one others) bounded = turn_part (size_of one) (all_sizes_of others) (code_of slots one) (row_code slots others) (Takes first h one) (TakesInTurn first h others)
          (tree_part one (all_left (λ tree. IsBounded (root_of tree)) (subtrees_of one) (all_subtrees_of others) bounded)) (row_part others (all_right (λ tree. IsBounded (root_of tree)) (subtrees_of one) (all_subtrees_of others) bounded))

      branches : (trees : Trees) → AreBounded (all_subtrees_of trees) → AreBranches (all_sizes_of trees) (branch_starts trees) (branches_code slots trees) (TakesOneOf first h trees)
      branches (two one other) bounded = more_branches (size_of one) (size_of other) (λ at. at ∷ []) (code_of slots one) (code_of slots other) (Takes first h one) (Takes first h other)
          (tree_part one (all_left (λ tree. IsBounded (root_of tree)) (subtrees_of one) (subtrees_of other) bounded))
          (one_branch (size_of other) (code_of slots other) (Takes first h other) (tree_part other (all_right (λ tree. IsBounded (root_of tree)) (subtrees_of one) (subtrees_of other) bounded)))
      branches (more one others) bounded = more_branches (size_of one) (all_sizes_of others) (branch_starts others) (code_of slots one) (branches_code slots others) (Takes first h one) (TakesOneOf first h others)
          (tree_part one (all_left (λ tree. IsBounded (root_of tree)) (subtrees_of one) (all_subtrees_of others) bounded))
          (branches others (all_right (λ tree. IsBounded (root_of tree)) (subtrees_of one) (all_subtrees_of others) bounded))

  -- ---- a whole pattern

  at_match : {q i : ℕ} (k : ℕ) → slice_get nodes q ≡ Some (match k) → To q i → (p ≡ k) × (i ≡ e)
  at_match {q = q} {i = i} k at (at_end is) = let same : p ≡ k = cc (ends_by first h nodes q i p (Some (match k)) at is) in (same, refl)
  at_match {q = q} {i = i} k at (by_edge rs r c is on path) = absurd (cc (goes_by first h nodes q i rs c r (Some (match k)) at is on))
  at_match {q = q} {i = i} k at (by_read r j is path) = absurd (cc (reads_by first h nodes q i r j (Some (match k)) at is))

  module _ (slots k : ℕ) (tree : Tree) (bounded : AreBounded (subtrees_of tree)) (at : ℕ) (stands : Stands nodes at (pattern_code slots k tree at)) where
    -- where the nodes of a pattern are
    record HasNodes : Type 0 where
      first_is : slice_get nodes at ≡ Some (note (2 * k) (at + 1))
      inner : Stands nodes (at + 1) (code_of slots tree (at + 1) (at + 1 + size_of tree))
      last_is : slice_get nodes (at + 1 + size_of tree) ≡ Some (note (2 * k + 1) (at + 2 + size_of tree))
      end_is : slice_get nodes (at + 2 + size_of tree) ≡ Some (match k)

    has_nodes : HasNodes
    has_nodes =
        let last = at + 1 + size_of tree in
        let code = code_of slots tree (at + 1) last in
        let start : ANode = note (2 * k) (at + 1) in
        let close : ANode = note (2 * k + 1) (at + 2 + size_of tree) in
        let end : ANode = match k in
        let behind_it = stands_behind nodes at start (code ++ close ∷ end ∷ []) stands in
        let back = stands_right nodes (at + 1) (size_of tree) code (close ∷ end ∷ []) ((tree_part slots tree bounded).size (at + 1) last) behind_it in
        let same : at + 2 + size_of tree ≡ last + 1 = omega arith in
        record {
          first_is = stands_first nodes at start (code ++ close ∷ end ∷ []) stands;
          inner = stands_left nodes (at + 1) code (close ∷ end ∷ []) behind_it;
          last_is = stands_first nodes last close (end ∷ []) back;
          end_is = ap (slice_get nodes) same ∙ stands_first nodes (last + 1) end [] (stands_behind nodes last close (end ∷ []) back);
        }

    pub path_takes : (i : ℕ) → To at i → (p ≡ k) × is_within h.low h.high e ≡ true × Takes first h tree i e
    path_takes i path =
        let n = path_size path in
        let last = at + 1 + size_of tree in
        let end = at + 2 + size_of tree in
        let within = note_short n at i (2 * k) (at + 1) has_nodes.first_is (path, omega arith) in
        let one = (tree_part slots tree bounded).splits (at + 1) last n i has_nodes.inner (longer n (at + 1) i within) in
        let out = note_short n last one.0 (2 * k + 1) end has_nodes.last_is (longer n last one.0 one.2) in
        let ended = at_match k has_nodes.end_is out.0 in
        (ended.0, subst (λ x. is_within h.low h.high x ≡ true) ended.1 (path_within out.0), subst (Takes first h tree i) ended.1 one.1)

    pub taken_path : (i : ℕ) → p ≡ k → h.low ≤ i → is_within h.low h.high e ≡ true → Takes first h tree i e → To at i
    taken_path i same from inside taken =
        let last = at + 1 + size_of tree in
        let end = at + 2 + size_of tree in
        let ended : To end e = match_to end e (has_nodes.end_is ∙ ap (λ x. Some (match x)) (sym same)) inside in
        let out : To last e = note_to last e (2 * k + 1) end has_nodes.last_is ended in
        note_to at i (2 * k) (at + 1) has_nodes.first_is ((tree_part slots tree bounded).builds (at + 1) last i e has_nodes.inner from taken out)

-- ---- where a program's patterns are

record HasCode (nodes : Code) (k : ℕ) (tree : Tree) (q : ℕ) : Type 0 where
  slots : ℕ
  stands : Stands nodes q (pattern_code slots k tree q)

same_one : {X : Type 0} {x y : X} → Some x ≡ Some y → x ≡ y
same_one e = cc e

code_in_row : (nodes : Code) (trees : List Tree) (slots k at c q : ℕ) (tree : Tree) → slice_get trees c ≡ Some tree → slice_get (pattern_starts trees at) c ≡ Some q → Stands nodes at (patterns_code slots k trees at) → HasCode nodes (k + c) tree q
code_in_row nodes [] slots k at c q tree is is' stands = absurd (cc is)
code_in_row nodes (first ∷ trees) slots k at zero q tree is is' stands =
    let others = patterns_code (slots + 2 * length (numbers_of first)) (k + 1) trees (at + 3 + size_of first) in
    let number : k ≡ k + 0 = omega arith in
    let front = stands_left nodes at (pattern_code slots k first at) others stands in
    record {
      slots = slots;
      stands = subst (λ x. Stands nodes q (pattern_code slots x tree q)) number (subst (λ x. Stands nodes q (pattern_code slots k x q)) (same_one is) (subst (λ x. Stands nodes x (pattern_code slots k first x)) (same_one is') front));
    }
code_in_row nodes (first ∷ trees) slots k at (suc c) q tree is is' stands =
    let s = size_of first in
    let slots' = slots + 2 * length (numbers_of first) in
    let others = patterns_code slots' (k + 1) trees (at + 3 + s) in
    let same : at + (3 + s) ≡ at + 3 + s = omega arith in
    let number : k + 1 + c ≡ k + suc c = omega arith in
    let behind_it = subst (λ a. Stands nodes a others) same (stands_right nodes at (3 + s) (pattern_code slots k first at) others (pattern_length slots k first at) stands) in
    subst (λ x. HasCode nodes x tree q) number (code_in_row nodes trees slots' (k + 1) (at + 3 + s) c q tree is is' behind_it)

code_among : (trees : List Tree) (terminator k q : ℕ) (tree : Tree) → slice_get trees k ≡ Some tree → slice_get (several trees terminator).patterns k ≡ Some q → HasCode (several trees terminator).nodes k tree q
code_among trees terminator k q tree is is' =
    let nodes = (several trees terminator).nodes in
    let stands : Stands nodes 1 (patterns_code (2 * length trees - 2) 0 trees 1) = λ c below. let same : 1 + c ≡ suc c = omega arith in ap (slice_get nodes) same in
    let number : 0 + k ≡ k = omega arith in
    subst (λ x. HasCode nodes x tree q) number (code_in_row nodes trees (2 * length trees - 2) 0 1 k q tree is is' stands)

code_alone : (one : Tree) (terminator k q : ℕ) (tree : Tree) → slice_get (one ∷ []) k ≡ Some tree → slice_get (0 ∷ []) k ≡ Some q → HasCode (pattern_code 0 0 one 0) k tree q
code_alone one terminator zero q tree is is' =
    let nodes = pattern_code 0 0 one 0 in
    let stands : Stands nodes 0 nodes = λ c below. let same : 0 + c ≡ c = omega arith in ap (slice_get nodes) same in
    record { slots = 0; stands = subst (λ x. Stands nodes q (pattern_code 0 0 x q)) (same_one is) (subst (λ x. Stands nodes x (pattern_code 0 0 one x)) (same_one is') stands) }
code_alone one terminator (suc k) q tree is is' = absurd (cc is)

code_of_pattern : (trees : List Tree) (terminator k q : ℕ) (tree : Tree) → slice_get trees k ≡ Some tree → slice_get (program_of trees terminator).patterns k ≡ Some q → HasCode (program_of trees terminator).nodes k tree q
code_of_pattern [] terminator k q tree is is' = code_among [] terminator k q tree is is'
code_of_pattern (one ∷ []) terminator k q tree is is' = code_alone one terminator k q tree is is'
code_of_pattern (one ∷ other ∷ trees) terminator k q tree is is' = code_among (one ∷ other ∷ trees) terminator k q tree is is'

-- ---- programs

unmapped : {X Y : Type 0} (P : Y → Type 0) (f : X → Y) (xs : List X) → All P (map f xs) → All (λ x. P (f x)) xs
unmapped P f [] all = All-nil (λ x. P (f x))
unmapped P f (x ∷ xs) all = All-cons (λ x. P (f x)) x xs (All-head P (f x) (map f xs) all) (unmapped P f xs (All-tail P (f x) (map f xs) all))

pub got : {X : Type 0} (P : X → Type 0) (xs : List X) (k : ℕ) (x : X) → All P xs → slice_get xs k ≡ Some x → P x
got P xs k x all at = subst P (get_or_from_slice_get xs k x x at) (All-get_or P xs k x (slice_get_within xs k x at) all)

pub parts_are_bounded : (tree : Tree) → All IsBounded (nodes_of tree) → All (λ part. IsBounded (root_of part)) (subtrees_of tree)
parts_are_bounded tree bounded = unmapped IsBounded root_of (subtrees_of tree) bounded

is_bounded : (tree : Tree) → IsWellFormed tree → All (λ part. IsBounded (root_of part)) (subtrees_of tree)
is_bounded tree well = parts_are_bounded tree well.repetitions

within_from : (s : Search) (i : ℕ) → IsInside s i → is_within (lowest s) (highest s) i ≡ true
within_from s i inside = and_from (nat_le (lowest s) i) (nat_le i (highest s)) (le-leb (lowest s) i (omega (arith, inside))) (le-leb i (highest s) (omega (arith, inside)))

inside_from : (s : Search) (i : ℕ) → is_within (lowest s) (highest s) i ≡ true → IsInside s i
inside_from s i within =
    let both = and_parts (nat_le (lowest s) i) (nat_le i (highest s)) within in
    let low = leb-true (lowest s) i both.0 in
    let high = leb-true i (highest s) both.1 in
    (omega (arith, low), omega (arith, high), omega (arith, low), omega (arith, high), omega (arith, high))

pub paths_are_taken : PathsAreTaken
paths_are_taken trees terminator well first h p same k q tree is is' i pattern e from = subst Holds (sym same) of_program is'
  where
    Holds : Program walks.Look (List Range) → Type 0
    Holds p = slice_get p.patterns k ≡ Some q → Path (machine_by first p h) q i pattern e ↔ ((pattern ≡ k) × IsTrue (is_within h.low h.high e) × Takes first h tree i e)

    of_program : Holds (program_of trees terminator)
    of_program is' =
        let program = program_of trees terminator in
        let code = code_of_pattern trees terminator k q tree is is' in
        let bounded = is_bounded tree (got IsWellFormed trees k tree well is) in (
          (λ path. path_takes first h program.nodes pattern e code.slots k tree bounded q code.stands i path),
          (λ all. taken_path first h program.nodes pattern e code.slots k tree bounded q code.stands i all.0 from all.1 all.2),
        )

pub searches_take_paths : SearchesTakePaths
searches_take_paths trees terminator well is_word p s same k q tree is is' i pattern e inside =
    let h = haystack_of (holds_in is_word p.line_terminator s) s in
    let both = paths_are_taken trees terminator well (first_by is_in) h p same k q tree is is' i pattern e (omega (arith, inside)) in (
      (λ path. let taken = both.0 path in (taken.0, inside_from s e taken.1, taken.2)),
      (λ all. both.1 (all.0, within_from s e all.1, all.2)),
    )
