-- A part may be empty exactly if it matches nothing when all assertions hold.
use Rattle.std.proofs.Common.{◌≡◌, ℕ, zero, suc, ◌≤◌, Bool, true, ◌||◌, ◌==◌, List, [], ◌∷◌, ◌++◌, refl, sym, subst, arith, inl, inr}
use Rattle.std.proofs.lemmas.Bool.{and_parts, and_from, or_cases, or_left, or_right, eq-eqb, eqb-true}
use Rattle.std.proofs.lemmas.List.Elements.{All-head}
use Rattle.rx_grammar.specs.Trees.{Tree, Trees, empty, one_of, look_at, group, concat, alternation, repeated, two, more}
use Rattle.rx_grammar.specs.Subtrees.{subtrees_of, all_subtrees_of, root_of, IsBounded, IsWellFormed}
use Rattle.rx_grammar.specs.Weights.{may_be_empty, all_may_be_empty, any_may_be_empty}
use Rattle.rx_program.specs.Taking.{Times, Takes, TakesInTurn, TakesOneOf, no_character, looks_hold, MayBeEmptyIsTold, EmptyPathsAreTold}
use Rattle.rx_program.proofs.NoteLaws.{all_left, all_right}
use Rattle.rx_program.proofs.TakingLaws.{AreBounded, up_to, below, parts_are_bounded, got, paths_are_taken}

abbrev Passes : Tree → ℕ → ℕ → Type 0
Passes tree i j = Takes no_character looks_hold tree i j

so_often : (takes : ℕ → ℕ → Type 0) (i n : ℕ) → takes i i → Times takes n i i
so_often takes i zero once = refl
so_often takes i (suc n) once = (i, once, so_often takes i n once)

front : (xs ys : List Tree) → AreBounded (xs ++ ys) → AreBounded xs
front xs ys bounded = all_left (λ tree. IsBounded (root_of tree)) xs ys bounded

back : (xs ys : List Tree) → AreBounded (xs ++ ys) → AreBounded ys
back xs ys bounded = all_right (λ tree. IsBounded (root_of tree)) xs ys bounded

no_times : (takes : ℕ → ℕ → Type 0) (i n : ℕ) → n ≡ 0 → Times takes n i i
no_times takes i n none = subst (λ n. Times takes n i i) (sym none) refl

-- if it may be empty, it matches nothing
mutual
  may_pass : (tree : Tree) → AreBounded (subtrees_of tree) → (i : ℕ) → may_be_empty tree ≡ true → Passes tree i i
  may_pass empty bounded i may = refl
  may_pass (one_of ranges) bounded i may = absurd (cc may)
  may_pass (look_at asked) bounded i may = (refl, refl)
  may_pass (group number name tree) bounded i may = may_pass tree (below (subtrees_of tree) (group number name tree) bounded) i may
  may_pass (concat trees) bounded i may = all_may_pass trees (below (all_subtrees_of trees) (concat trees) bounded) i may
  may_pass (alternation trees) bounded i may = any_may_pass trees (below (all_subtrees_of trees) (alternation trees) bounded) i may
  may_pass (repeated rep tree) bounded i may =
      let fits = up_to rep.min rep.max (All-head (λ tree. IsBounded (root_of tree)) (repeated rep tree) [] (back (subtrees_of tree) (repeated rep tree ∷ []) bounded)).1 in
      elim (or_cases (rep.min == 0) (may_be_empty tree) may) [
        | inl none ↦ (rep.min, omega arith, fits, no_times (Passes tree) i rep.min (eqb-true rep.min 0 none))
        | inr inner ↦ (rep.min, omega arith, fits, so_often (Passes tree) i rep.min (may_pass tree (below (subtrees_of tree) (repeated rep tree) bounded) i inner))
      ]

  all_may_pass : (trees : Trees) → AreBounded (all_subtrees_of trees) → (i : ℕ) → all_may_be_empty trees ≡ true → TakesInTurn no_character looks_hold trees i i
  all_may_pass (two one other) bounded i may =
      let both = and_parts (may_be_empty one) (may_be_empty other) may in
      (i, may_pass one (front (subtrees_of one) (subtrees_of other) bounded) i both.0, may_pass other (back (subtrees_of one) (subtrees_of other) bounded) i both.1)
  all_may_pass (more one others) bounded i may =
      let both = and_parts (may_be_empty one) (all_may_be_empty others) may in
      (i, may_pass one (front (subtrees_of one) (all_subtrees_of others) bounded) i both.0, all_may_pass others (back (subtrees_of one) (all_subtrees_of others) bounded) i both.1)

  any_may_pass : (trees : Trees) → AreBounded (all_subtrees_of trees) → (i : ℕ) → any_may_be_empty trees ≡ true → TakesOneOf no_character looks_hold trees i i
  any_may_pass (two one other) bounded i may = elim (or_cases (may_be_empty one) (may_be_empty other) may) [
    | inl a ↦ inl (may_pass one (front (subtrees_of one) (subtrees_of other) bounded) i a)
    | inr b ↦ inr (may_pass other (back (subtrees_of one) (subtrees_of other) bounded) i b)
  ]
  any_may_pass (more one others) bounded i may = elim (or_cases (may_be_empty one) (any_may_be_empty others) may) [
    | inl a ↦ inl (may_pass one (front (subtrees_of one) (all_subtrees_of others) bounded) i a)
    | inr b ↦ inr (any_may_pass others (back (subtrees_of one) (all_subtrees_of others) bounded) i b)
  ]

-- and if it matches anything, it may be empty
times_may : (takes : ℕ → ℕ → Type 0) (may : Bool) → ((i j : ℕ) → takes i j → may ≡ true) → (least n i j : ℕ) → least ≤ n → Times takes n i j → ((least == 0) || may) ≡ true
times_may takes may once least zero i j few times = or_left (least == 0) may (eq-eqb least 0 (omega (arith, few)))
times_may takes may once least (suc n) i j few times = or_right (least == 0) may (once i times.0 times.1)

mutual
  pass_may : (tree : Tree) (i j : ℕ) → Passes tree i j → may_be_empty tree ≡ true
  pass_may empty i j taken = refl
  pass_may (one_of ranges) i j taken = absurd (cc taken.1)
  pass_may (look_at asked) i j taken = refl
  pass_may (group number name tree) i j taken = pass_may tree i j taken
  pass_may (concat trees) i j taken = turn_may trees i j taken
  pass_may (alternation trees) i j taken = branch_may trees i j taken
  pass_may (repeated rep tree) i j taken = times_may (Passes tree) (may_be_empty tree) (λ i j once. pass_may tree i j once) rep.min taken.0 i j taken.1 taken.3

  turn_may : (trees : Trees) (i j : ℕ) → TakesInTurn no_character looks_hold trees i j → all_may_be_empty trees ≡ true
  turn_may (two one other) i j taken = and_from (may_be_empty one) (may_be_empty other) (pass_may one i taken.0 taken.1) (pass_may other taken.0 j taken.2)
  turn_may (more one others) i j taken = and_from (may_be_empty one) (all_may_be_empty others) (pass_may one i taken.0 taken.1) (turn_may others taken.0 j taken.2)

  branch_may : (trees : Trees) (i j : ℕ) → TakesOneOf no_character looks_hold trees i j → any_may_be_empty trees ≡ true
  branch_may (two one other) i j (inl a) = or_left (may_be_empty one) (may_be_empty other) (pass_may one i j a)
  branch_may (two one other) i j (inr b) = or_right (may_be_empty one) (may_be_empty other) (pass_may other i j b)
  branch_may (more one others) i j (inl a) = or_left (may_be_empty one) (any_may_be_empty others) (pass_may one i j a)
  branch_may (more one others) i j (inr b) = or_right (may_be_empty one) (any_may_be_empty others) (branch_may others i j b)

pub may_be_empty_is_told : MayBeEmptyIsTold
may_be_empty_is_told tree bounded = ((λ may. may_pass tree (parts_are_bounded tree bounded) 0 may), (λ taken. pass_may tree 0 0 taken))

pub empty_paths_are_told : EmptyPathsAreTold
empty_paths_are_told trees terminator well p same k q tree is is' =
    let whole = got IsWellFormed trees k tree well is in
    let told = may_be_empty_is_told tree whole.repetitions in
    let both = paths_are_taken trees terminator well no_character looks_hold p same k q tree is is' 0 k 0 (omega arith) in (
      (λ may. both.1 (refl, refl, told.0 may)),
      (λ path. told.1 (both.0 path).2),
    )
