-- Patterns in sequence: their code, their first states, and their weight.
use Rattle.std.proofs.Common.{◌≡◌, ℕ, zero, suc, ◌+◌, ◌-◌, ◌*◌, ◌<◌, ◌≤◌, ◌^◌, List, [], ◌∷◌, ◌++◌, length, map, drop, min, get_or, refl, sym, ap, ap₂, ◌∙◌, arith, append_assoc, length-append}
use Rattle.std.proofs.lemmas.List.{length-map}
use Rattle.rx_sets.specs.Sets.{Range}
use Rattle.rx_grammar.specs.Trees.{Tree, numbers_of}
use Rattle.rx_grammar.specs.Weights.{held, pattern_weight, size_of}
use Rattle.rx_walks.specs.Looks as walks
use Rattle.rx_walks.specs.Programs.{Program}
use Rattle.rx_program.specs.declared.states.State.{State}
use Rattle.rx_program.specs.Code.{Code, pattern_code, patterns_code, pattern_starts, program_of}
use Rattle.rx_program.specs.Programs.{ByteProgram, character_program, node_of}
use Rattle.rx_program.specs.Sizes.{sum_of_weights}
use Rattle.rx_program.proofs.ClosedLaws.{pattern_length}
use Rattle.rx_program.proofs.SizeLaws.{size_le_weight}

-- ---- those that are left

-- the first of those that are left
first_from : {X : Type 0} (xs : List X) (f : X → Tree) (k : ℕ) (x : X) → k < length xs → x ≡ get_or xs k x → drop k (map f xs) ≡ f x ∷ drop (suc k) (map f xs)
first_from [] f k x lt e = absurd (omega (arith, lt))
first_from (y ∷ xs) f zero x lt e = ap (λ z. f z ∷ map f xs) (sym e)
first_from (y ∷ xs) f (suc k) x lt e = first_from xs f k x (omega (arith, lt)) e

pub first_left : {X : Type 0} (xs : List X) (f : X → Tree) (k : ℕ) (x : X) → k < length xs → x ≡ get_or xs k x → drop k (map f xs) ≡ f x ∷ drop (k + 1) (map f xs)
first_left xs f k x lt e =
    let more : suc k ≡ k + 1 = omega arith in
    first_from xs f k x lt e ∙ ap (λ n. f x ∷ drop n (map f xs)) more

-- ---- one more pattern

pub states_more : (slots p : ℕ) (states states' : List State) (tree : Tree) → map node_of states' ≡ map node_of states ++ pattern_code slots p tree (length states) → length states' ≡ length states + 3 + size_of tree
states_more slots p states states' tree code = omega (
  arith,
  length-map states' node_of,
  length-map states node_of,
  ap length code,
  length-append (map node_of states) (pattern_code slots p tree (length states)),
  pattern_length slots p tree (length states),
)

pub code_on : (slots slots' p : ℕ) (states states' : List State) (left rest : List Tree) (tree : Tree) (whole : Code) → left ≡ tree ∷ rest
    → map node_of states' ≡ map node_of states ++ pattern_code slots p tree (length states) → slots' ≡ slots + 2 * length (numbers_of tree)
    → map node_of states ++ patterns_code slots p left (length states) ≡ whole → map node_of states' ++ patterns_code slots' (p + 1) rest (length states') ≡ whole
code_on slots slots' p states states' left rest tree whole first code more so_far =
    let n = length states in
    let len = states_more slots p states states' tree code in
    let behind : ℕ → ℕ → Code = λ k at. patterns_code k (p + 1) rest at in
    ap₂ (λ xs at. xs ++ behind slots' at) code len
    ∙ ap (λ k. (map node_of states ++ pattern_code slots p tree n) ++ behind k (n + 3 + size_of tree)) more
    ∙ append_assoc (map node_of states) (pattern_code slots p tree n) (behind (slots + 2 * length (numbers_of tree)) (n + 3 + size_of tree))
    ∙ sym (ap (λ l. map node_of states ++ patterns_code slots p l n) first)
    ∙ so_far

pub starts_on : (at at' : ℕ) (starts : List ℕ) (left rest : List Tree) (tree : Tree) (whole : List ℕ) → left ≡ tree ∷ rest → at' ≡ at + (3 + size_of tree) → starts ++ pattern_starts left at ≡ whole
    → (starts ++ at ∷ []) ++ pattern_starts rest at' ≡ whole
starts_on at at' starts left rest tree whole first further so_far =
    let is : at' ≡ at + 3 + size_of tree = omega (arith, further) in
    append_assoc starts (at ∷ []) (pattern_starts rest at')
    ∙ ap (λ n. starts ++ (at ∷ pattern_starts rest n)) is
    ∙ sym (ap (λ l. starts ++ pattern_starts l at) first)
    ∙ so_far

-- ---- weights

pub weights_on : (left rest : List Tree) (tree : Tree) → left ≡ tree ∷ rest → sum_of_weights left ≡ pattern_weight tree + sum_of_weights rest
weights_on left rest tree first = ap sum_of_weights first

pub size_of_first : (tree : Tree) → 3 + size_of tree ≤ pattern_weight tree
size_of_first tree = omega (arith, size_le_weight tree)

pub weight_on : (weight weight' w : ℕ) (left rest : List Tree) (tree : Tree) (total : ℕ) → left ≡ tree ∷ rest → w ≡ held (pattern_weight tree) → weight' ≡ min (weight + w) (2 ^ 64 - 1) → held (weight + sum_of_weights left) ≡ held total
    → held (weight' + sum_of_weights rest) ≡ held total
weight_on weight weight' w left rest tree total first is more so_far = omega (arith, weights_on left rest tree first, is, more, so_far)

-- ---- the program

abbrev made : Code → List ℕ → ℕ → ℕ → Program walks.Look (List Range)
made nodes patterns start terminator = record { nodes = nodes; start = start; patterns = patterns; line_terminator = terminator }

made_whole : (trees : List Tree) (terminator : ℕ) → made (program_of trees terminator).nodes (program_of trees terminator).patterns 0 terminator ≡ program_of trees terminator
made_whole [] terminator = refl
made_whole (tree ∷ []) terminator = refl
made_whole (tree ∷ other ∷ trees) terminator = refl

-- states and starts make the program
pub program_is : (trees : List Tree) (terminator : ℕ) (p : ByteProgram) → map node_of p.states ≡ (program_of trees terminator).nodes → p.patterns ≡ (program_of trees terminator).patterns → p.start ≡ 0 → p.line_terminator ≡ terminator
    → character_program p ≡ program_of trees terminator
program_is trees terminator p nodes starts first ends =
    ap₂ (λ a b. made a b p.start p.line_terminator) nodes starts
    ∙ ap₂ (λ a b. made (program_of trees terminator).nodes (program_of trees terminator).patterns a b) first ends
    ∙ made_whole trees terminator

-- ---- what is not too large

-- the first of those left is one tree, however it is given
pub same_first : (a b : Tree) (left rest others : List Tree) → left ≡ a ∷ rest → left ≡ b ∷ others → a ≡ b
same_first a b left rest others e f = head_is (sym e ∙ f)
  where
    head_is : a ∷ rest ≡ b ∷ others → a ≡ b
    head_is g = cc g
