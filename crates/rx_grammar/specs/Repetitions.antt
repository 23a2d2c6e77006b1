-- Postfixes of atoms, which say how often an atom is repeated.
use Rattle.std.specs.Prelude.{◌≡◌, ℕ, ◌+◌, ◌*◌, ◌≤◌, Bool, true, not, ◌==◌, ◌||◌, List, [], ◌∷◌, ◌++◌, length, Option, Some, None}
use Rattle.std.specs.Char.{is_ascii_digit, digit_value}
use Rattle.std.specs.List.{AllByRecursion}
use Rattle.rx_grammar.specs.declared.hir.Repetition.{Repetition}
use Rattle.rx_grammar.specs.Trees.{Tree, repeated}
use Rattle.rx_grammar.specs.Input.{Begins, Stops}

-- the number with the value n before these decimal digits
abbrev pub decimal_after : ℕ → List ℕ → ℕ
decimal_after n [] = n
decimal_after n (digit ∷ digits) = decimal_after (10 * n + digit_value digit) digits

-- a number in braces, and u after it: digits, possibly with leading zeros
pub record Number (t : List ℕ) (n : ℕ) (u : List ℕ) : Type 0 where
  pub digits : List ℕ
  pub whole : t ≡ digits ++ u
  pub decimal : AllByRecursion (λ c. is_ascii_digit c ≡ true) digits
  pub some : 1 ≤ length digits
  pub ends : Stops is_ascii_digit u
  pub value : decimal_after 0 digits ≡ n
  pub fits : n ≤ 65535

-- what follows a {: the least and the greatest number of times, and u after it
pub data CountInBraces : List ℕ → ℕ → Option ℕ → List ℕ → Type 0 where
  -- {n}
  exactly : {t u v : List ℕ} {n : ℕ} → Number t n v → v ≡ 125 ∷ u → CountInBraces t n (Some n) u
  -- {n,}
  at_least : {t u v w : List ℕ} {n : ℕ} → Number t n v → v ≡ 44 ∷ w → w ≡ 125 ∷ u → CountInBraces t n None u
  -- {n,m}
  between : {t u v w x : List ℕ} {n m : ℕ} → Number t n v → v ≡ 44 ∷ w → Number w m x → x ≡ 125 ∷ u → n ≤ m → CountInBraces t n (Some m) u

-- the least and the greatest number of times, and u after it
pub data Count : List ℕ → ℕ → Option ℕ → List ℕ → Type 0 where
  star : {t u : List ℕ} → t ≡ 42 ∷ u → Count t 0 None u
  plus : {t u : List ℕ} → t ≡ 43 ∷ u → Count t 1 None u
  question : {t u : List ℕ} → t ≡ 63 ∷ u → Count t 0 (Some 1) u
  in_braces : {t u v : List ℕ} {n : ℕ} {m : Option ℕ} → t ≡ 123 ∷ v → CountInBraces v n m u → Count t n m u

abbrev pub repetition : ℕ → Option ℕ → Bool → Repetition
repetition least most greedy = record { min = least; max = most; greedy = greedy }

-- a postfix, and u after it: a ? directly after the count makes it lazy; `U` swaps lazy and greedy
pub data Postfix : Bool → List ℕ → Repetition → List ℕ → Type 0 where
  alone : {swap : Bool} {t u : List ℕ} {n : ℕ} {m : Option ℕ} → Count t n m u → (Begins 63 u → ⊥) → Postfix swap t (repetition n m (not swap)) u
  marked : {swap : Bool} {t u v : List ℕ} {n : ℕ} {m : Option ℕ} → Count t n m v → v ≡ 63 ∷ u → Postfix swap t (repetition n m swap) u

-- * + ? or {
abbrev pub is_postfix_start : ℕ → Bool
is_postfix_start c = (c == 42) || (c == 43) || (c == 63) || (c == 123)

-- all postfixes after a tree of some depth: the tree and the depth with them, and u after them
pub data Postfixes : Bool → Tree → ℕ → List ℕ → Tree → ℕ → List ℕ → Type 0 where
  ended : {swap : Bool} {h : Tree} {d : ℕ} {t : List ℕ} → Stops is_postfix_start t → Postfixes swap h d t h d t
  further : {swap : Bool} {h g : Tree} {d e : ℕ} {t u v : List ℕ} {r : Repetition} → Postfix swap t r v → Postfixes swap (repeated r h) (d + 1) v g e u → Postfixes swap h d t g e u
