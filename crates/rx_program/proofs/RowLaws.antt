-- Trees in a row: their code, up to the last one and with it.
use Rattle.std.proofs.Common.{◌≡◌, ℕ, suc, ◌+◌, List, [], ◌∷◌, ◌++◌, length, reverse, append_assoc, refl, sym, ap, ap₂, subst, ◌∙◌, arith, length-append}
use Rattle.std.proofs.lemmas.List.{reverse-append, append-nil}
use Rattle.rx_grammar.specs.Trees.{Tree, Trees, two, more}
use Rattle.rx_grammar.specs.Subtrees.{subtrees_of, all_subtrees_of, how_many}
use Rattle.rx_grammar.specs.Weights.{size_of, all_sizes_of}
use Rattle.rx_program.specs.Code.{entry_of, code_of, row_code, branches_code, branch_starts}
use Rattle.rx_program.specs.Jobs.{sizes_of, in_row, in_branches, starts_of, work_of, all_work_of, row_work}
use Rattle.rx_program.proofs.PartLaws.{Stands, IsRow, rev_subtrees, row_back}

pub sizes_of-append : (xs ys : List Tree) → sizes_of (xs ++ ys) ≡ sizes_of xs + sizes_of ys
sizes_of-append [] ys = omega arith
sizes_of-append (x ∷ xs) ys = omega (arith, sizes_of-append xs ys)

pub row_work-last : (xs : List Tree) (tree : Tree) → row_work (xs ++ tree ∷ []) ≡ row_work xs + work_of tree + 1
row_work-last [] tree = omega arith
row_work-last (x ∷ xs) tree = omega (arith, row_work-last xs tree)

last_length : (xs : List Tree) (tree : Tree) → length (xs ++ tree ∷ []) ≡ suc (length xs)
last_length [] tree = refl
last_length (x ∷ xs) tree = ap suc (last_length xs tree)

on_to : (xs : List Tree) (at s : ℕ) → entry_of (length xs) (at + s) (at + (s + sizes_of xs)) ≡ at + s
on_to [] at s = omega arith
on_to (x ∷ xs) at s = refl

pub in_row-last : (slots : ℕ) (xs : List Tree) (tree : Tree) (at next : ℕ) → in_row slots (xs ++ tree ∷ []) at next ≡ in_row slots xs at (at + sizes_of xs) ++ code_of slots tree (at + sizes_of xs) next
in_row-last slots [] tree at next = append-nil (code_of slots tree at next) ∙ ap (λ n. code_of slots tree n next) (omega arith)
in_row-last slots (x ∷ xs) tree at next =
    let s = size_of x in
    let end : (at + s) + sizes_of xs ≡ at + (s + sizes_of xs) = omega arith in
    ap₂ (λ k y. code_of slots x at (entry_of k (at + s) next) ++ y) (last_length xs tree) (in_row-last slots xs tree (at + s) next)
    ∙ ap (λ n. code_of slots x at (at + s) ++ (in_row slots xs (at + s) n ++ code_of slots tree n next)) end
    ∙ sym (append_assoc (code_of slots x at (at + s)) (in_row slots xs (at + s) (at + (s + sizes_of xs))) (code_of slots tree (at + (s + sizes_of xs)) next))
    ∙ ap (λ n. (code_of slots x at n ++ in_row slots xs (at + s) (at + (s + sizes_of xs))) ++ code_of slots tree (at + (s + sizes_of xs)) next) (sym (on_to xs at s))

pub in_branches-last : (slots : ℕ) (xs : List Tree) (tree : Tree) (at next : ℕ) → in_branches slots (xs ++ tree ∷ []) at next ≡ in_branches slots xs at next ++ code_of slots tree (at + sizes_of xs) next
in_branches-last slots [] tree at next = append-nil (code_of slots tree at next) ∙ ap (λ n. code_of slots tree n next) (omega arith)
in_branches-last slots (x ∷ xs) tree at next =
    let s = size_of x in
    let end : (at + s) + sizes_of xs ≡ at + (s + sizes_of xs) = omega arith in
    ap (λ y. code_of slots x at next ++ y) (in_branches-last slots xs tree (at + s) next ∙ ap (λ n. in_branches slots xs (at + s) next ++ code_of slots tree n next) end)
    ∙ sym (append_assoc (code_of slots x at next) (in_branches slots xs (at + s) next) (code_of slots tree (at + (s + sizes_of xs)) next))

pub starts_of-last : (xs : List Tree) (tree : Tree) (at : ℕ) → starts_of (xs ++ tree ∷ []) at ≡ starts_of xs at ++ (at + sizes_of xs) ∷ []
starts_of-last [] tree at = ap (λ n. n ∷ []) (omega arith)
starts_of-last (x ∷ xs) tree at =
    let end : (at + size_of x) + sizes_of xs ≡ at + (size_of x + sizes_of xs) = omega arith in
    ap (λ ys. at ∷ ys) (starts_of-last xs tree (at + size_of x) ∙ ap (λ n. starts_of xs (at + size_of x) ++ n ∷ []) end)

-- trees right below a node, as a list
abbrev pub trees_in : Trees → List Tree
trees_in (two first second) = first ∷ second ∷ []
trees_in (more first others) = first ∷ trees_in others

pub row_is : (slots : ℕ) (trees : Trees) (at next : ℕ) → row_code slots trees at next ≡ in_row slots (trees_in trees) at next
row_is slots (two first second) at next = ap (λ x. code_of slots first at (at + size_of first) ++ x) (sym (append-nil (code_of slots second (at + size_of first) next)))
row_is slots (more first others) at next = some others (row_is slots others (at + size_of first) next)
  where
    some : (others : Trees) → row_code slots others (at + size_of first) next ≡ in_row slots (trees_in others) (at + size_of first) next
        → code_of slots first at (at + size_of first) ++ row_code slots others (at + size_of first) next
        ≡ code_of slots first at (entry_of (length (trees_in others)) (at + size_of first) next) ++ in_row slots (trees_in others) (at + size_of first) next
    some (two a b) e = ap (λ x. code_of slots first at (at + size_of first) ++ x) e
    some (more a bs) e = ap (λ x. code_of slots first at (at + size_of first) ++ x) e

pub branches_are : (slots : ℕ) (trees : Trees) (at next : ℕ) → branches_code slots trees at next ≡ in_branches slots (trees_in trees) at next
branches_are slots (two first second) at next = ap (λ x. code_of slots first at next ++ x) (sym (append-nil (code_of slots second (at + size_of first) next)))
branches_are slots (more first others) at next = ap (λ x. code_of slots first at next ++ x) (branches_are slots others (at + size_of first) next)

pub starts_are : (trees : Trees) (at : ℕ) → branch_starts trees at ≡ starts_of (trees_in trees) at
starts_are (two first second) at = refl
starts_are (more first others) at = ap (λ xs. at ∷ xs) (starts_are others (at + size_of first))

pub sizes_are : (trees : Trees) → all_sizes_of trees ≡ sizes_of (trees_in trees)
sizes_are (two first second) = omega arith
sizes_are (more first others) = omega (arith, sizes_are others)

pub work_is : (trees : Trees) → all_work_of trees + 1 ≡ row_work (trees_in trees)
work_is (two first second) = omega arith
work_is (more first others) = omega (arith, work_is others)

pub many : (trees : Trees) → how_many trees ≡ length (trees_in trees)
many (two first second) = refl
many (more first others) = omega (arith, many others)

-- and where they are
rev_append : (xs ys : List Tree) → rev_subtrees (xs ++ ys) ≡ rev_subtrees ys ++ rev_subtrees xs
rev_append [] ys = sym (append-nil (rev_subtrees ys))
rev_append (x ∷ xs) ys = ap (λ z. z ++ subtrees_of x) (rev_append xs ys) ∙ append_assoc (rev_subtrees ys) (rev_subtrees xs) (subtrees_of x)

subtrees_are : (trees : Trees) → all_subtrees_of trees ≡ rev_subtrees (reverse (trees_in trees))
subtrees_are (two first second) = refl
subtrees_are (more first others) =
    ap (λ x. subtrees_of first ++ x) (subtrees_are others) ∙ sym (ap rev_subtrees (reverse-append (first ∷ []) (trees_in others)) ∙ rev_append (reverse (trees_in others)) (first ∷ []))

reverse_twice : {X : Type 0} (xs : List X) → reverse (reverse xs) ≡ xs
reverse_twice [] = refl
reverse_twice (x ∷ xs) = ap reverse (reverse-append (x ∷ []) xs) ∙ reverse-append (reverse xs) (x ∷ []) ∙ ap (λ ys. x ∷ ys) (reverse_twice xs)

length-reverse : {X : Type 0} (xs : List X) → length (reverse xs) ≡ length xs
length-reverse [] = refl
length-reverse (x ∷ xs) = omega (arith, ap length (reverse-append (x ∷ []) xs), length-append (reverse xs) (x ∷ []), length-reverse xs)

pub row_of : (parts : List Tree) (k : ℕ) (trees : Trees) → Stands parts k (all_subtrees_of trees) → IsRow parts (how_many trees) k (trees_in trees)
row_of parts k trees stands =
    let back = reverse (trees_in trees) in
    let row : IsRow parts (length back) k (reverse back) = row_back parts k back (subst (Stands parts k) (subtrees_are trees) stands) in
    let count : length back ≡ how_many trees = length-reverse (trees_in trees) ∙ sym (many trees) in
    subst (λ n. IsRow parts n k (trees_in trees)) count (subst (IsRow parts (length back) k) (reverse_twice (trees_in trees)) row)
