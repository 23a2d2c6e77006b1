-- One number of groups in each match, whichever pattern matches.
use Rattle.std.proofs.Common.{◌≡◌, ℕ, suc, zero, ◌<◌, true, false, not, List, [], ◌∷◌, ◌++◌, length, get_or, map, Option, Some, None, refl, sym, ap, subst, ◌∙◌, arith}
use Rattle.std.specs.Option.{option_eq}
use lib.Dec.{eqb}
use Rattle.rx_grammar.specs.Trees.{Tree}
use Rattle.rx_grammar.specs.StaticGroups.{common_groups, static_captures_of, static_captures_of_all}

common_left : (a b : Option ℕ) (n : ℕ) → common_groups a b ≡ Some n → a ≡ Some n
common_left None b n is = grind (arith, is)
common_left (Some a) None n is = grind (arith, is)
common_left (Some a) (Some b) n is = grind (arith, is)

common_right : (a b : Option ℕ) (n : ℕ) → common_groups a b ≡ Some n → b ≡ Some n
common_right None b n is = grind (arith, is)
common_right (Some a) None n is = grind (arith, is)
common_right (Some a) (Some b) n is = grind (arith, is)

common_self : (n : ℕ) → common_groups (Some n) (Some n) ≡ Some n
common_self n = grind arith

abbrev pub HasCaptures : ℕ → Tree → Type 0
HasCaptures n tree = static_captures_of tree ≡ Some n

-- so many stand in each match of each tree
abbrev pub Each : ℕ → List Tree → Type 0
Each n [] = Unit {0}
Each n (tree ∷ trees) = HasCaptures n tree × Each n trees

pub each-push : (n : ℕ) (trees : List Tree) (tree : Tree) → Each n trees → HasCaptures n tree → Each n (trees ++ tree ∷ [])
each-push n [] tree all one = (one, tt)
each-push n (first ∷ trees) tree all one = (all.0, each-push n trees tree all.1 one)

all_alike : (trees : List Tree) (n : ℕ) → static_captures_of_all trees ≡ Some n → Each n trees
all_alike [] n is = tt
all_alike (tree ∷ []) n is = (is, tt)
all_alike (tree ∷ second ∷ others) n is =
    let rest = static_captures_of_all (second ∷ others) in
    (common_left (static_captures_of tree) rest n is, all_alike (second ∷ others) n (common_right (static_captures_of tree) rest n is))

alike : (tree : Tree) (others : List Tree) (n : ℕ) → Each n (tree ∷ others) → static_captures_of_all (tree ∷ others) ≡ Some n
alike tree [] n all = all.0
alike tree (second ∷ others) n all =
    ap (λ a. common_groups a (static_captures_of_all (second ∷ others))) all.0 ∙ ap (common_groups (Some n)) (alike second others n all.1) ∙ common_self n

each_at : {X : Type 0} (n : ℕ) (f : X → Tree) (xs : List X) (k : ℕ) (x : X) → k < length xs → x ≡ get_or xs k x → Each n (map f xs) → HasCaptures n (f x)
each_at n f [] k x lt is all = absurd (omega (arith, lt))
each_at n f (y ∷ xs) zero x lt is all = subst (λ z. HasCaptures n (f z)) (sym is) all.0
each_at n f (y ∷ xs) (suc k) x lt is all = each_at n f xs k x (omega (arith, lt)) is all.1

none_or : (told : Option ℕ) → ((n : ℕ) → told ≡ Some n → ⊥) → told ≡ None
none_or None never = refl
none_or (Some n) never = absurd (never n refl)

-- the first has it, and all have it
pub all_have : {X : Type 0} (f : X → Tree) (xs : List X) (x : X) (n : ℕ) → 0 < length xs → Each n (map f xs) → static_captures_of_all (map f xs) ≡ Some n
all_have f [] x n some all = absurd (omega (arith, some))
all_have f (y ∷ xs) x n some all = alike (f y) (map f xs) n all

-- the first has another number than this one
pub one_differs : {X : Type 0} (f : X → Tree) (xs : List X) (first x : X) (n k : ℕ) → 0 < length xs → first ≡ get_or xs 0 first → static_captures_of (f first) ≡ Some n
    → k < length xs → x ≡ get_or xs k x → (static_captures_of (f x) ≡ Some n → ⊥) → static_captures_of_all (map f xs) ≡ None
one_differs f xs first x n k some begins has lt is other = none_or (static_captures_of_all (map f xs)) (λ m told.
    let all = all_alike (map f xs) m told in
    let same : Some m ≡ Some n = sym (each_at m f xs 0 first some begins all) ∙ has in
    other (each_at m f xs k x lt is all ∙ same))

-- what a comparison tells
pub told_same : (a : Option ℕ) (n : ℕ) → false ≡ not (option_eq eqb a (Some n)) → a ≡ Some n
told_same None n is = grind (arith, is)
told_same (Some a) n is = grind (arith, is)

pub told_other : (a : Option ℕ) (n : ℕ) → true ≡ not (option_eq eqb a (Some n)) → a ≡ Some n → ⊥
told_other None n is same = grind (arith, is, same)
told_other (Some a) n is same = grind (arith, is, same)
