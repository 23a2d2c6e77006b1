-- The slots of a pattern's groups are those in which its code notes them.
use Rattle.std.proofs.Common.{◌≡◌, ℕ, zero, suc, ◌+◌, ◌-◌, ◌*◌, ◌<◌, List, [], ◌∷◌, ◌++◌, length, take, Option, Some, slice_get, refl, sym, ap, subst, ◌∙◌, arith}
use Rattle.std.proofs.lemmas.List.{append-nil}
use Rattle.std.proofs.lemmas.List.Sums.{sum_by-cons}
use Rattle.std.proofs.lemmas.Option.{none-some, same_Some, slice_get_within}
use Rattle.rx_grammar.specs.Trees.{Tree, Name, group, numbers_of}
use Rattle.rx_grammar.specs.Weights.{size_of}
use Rattle.rx_util.specs.Groups.{GroupNames, further_groups, group_len, slot_place}
use Rattle.rx_walks.specs.Programs.{pass, note}
use Rattle.rx_program.specs.Code.{Code, code_of, pattern_code, patterns_code, pattern_starts}
use Rattle.rx_program.proofs.ClosedLaws.{pattern_length}
use Rattle.rx_program.proofs.GroupLaws.{stands_left, stands_right}
use Rattle.rx_engine.specs.Engines.{AreGroupNamesOf}
use Rattle.rx_engine.proofs.GroupLaws.{group_count}
use Rattle.rx_chunk.specs.Owned.{GroupsHaveTheirSlots, NotesItsGroups, StandsAmong}
use Rattle.rx_chunk.proofs.PartNoteLaws.{notes_of_part}

-- ---- where the code of a pattern is

-- with `slots` slots before those of its groups
record HasCode (nodes : Code) (groups : GroupNames) (slots p k q : ℕ) (tree : Tree) : Type 0 where
  own : ℕ
  counted : own ≡ slots + 2 * further_groups (take k groups)
  stands : StandsAmong nodes q (pattern_code own (p + k) tree q)

code_stands : (nodes : Code) (trees : List Tree) (groups : GroupNames) (slots p at : ℕ) → AreGroupNamesOf trees groups → StandsAmong nodes at (patterns_code slots p trees at)
    → (k q : ℕ) (tree : Tree) → slice_get trees k ≡ Some tree → slice_get (pattern_starts trees at) k ≡ Some q → HasCode nodes groups slots p k q tree
code_stands nodes [] groups slots p at are stands k q tree is starts = absurd (none-some tree is)
code_stands nodes (own ∷ trees) [] slots p at are stands k q tree is starts = absurd are
code_stands nodes (own ∷ trees) (names ∷ groups) slots p at are stands zero q tree is starts =
    let first = pattern_code slots p own at in
    let others = patterns_code (slots + 2 * length (numbers_of own)) (p + 1) trees (at + 3 + size_of own) in
    let here : StandsAmong nodes at first = stands_left nodes at first others stands in
    let number : p ≡ p + 0 = omega arith in
    record {
      own = slots;
      counted = omega arith;
      stands = subst (λ t. StandsAmong nodes q (pattern_code slots (p + 0) t q)) (same_Some own tree is)
          (subst (λ a. StandsAmong nodes a (pattern_code slots (p + 0) own a)) (same_Some at q starts)
          (subst (λ n. StandsAmong nodes at (pattern_code slots n own at)) number here));
    }
code_stands nodes (own ∷ trees) (names ∷ groups) slots p at are stands (suc k) q tree is starts =
    let s = size_of own in
    let first = pattern_code slots p own at in
    let others = patterns_code (slots + 2 * length (numbers_of own)) (p + 1) trees (at + 3 + s) in
    let there : at + (3 + s) ≡ at + 3 + s = omega arith in
    let behind_it : StandsAmong nodes (at + 3 + s) others = subst (λ a. StandsAmong nodes a others) there (stands_right nodes at (3 + s) first others (pattern_length slots p own at) stands) in
    let rest = code_stands nodes trees groups (slots + 2 * length (numbers_of own)) (p + 1) (at + 3 + s) are.1 behind_it k q tree is starts in
    let sum : further_groups (take (suc k) (names ∷ groups)) ≡ length names + further_groups (take k groups) = sum_by-cons length names (take k groups) in
    let count : length names ≡ length (numbers_of own) = are.0.count in
    let number : p + 1 + k ≡ p + suc k = omega arith in
    record {
      own = rest.own;
      counted = omega (arith, rest.counted, sum, count);
      stands = subst (λ n. StandsAmong nodes q (pattern_code rest.own n tree q)) number rest.stands;
    }

-- ---- the slots of its groups

-- if its slots are counted like this, each group has those that it is given
noted : (nodes : Code) (trees : List Tree) (groups : GroupNames) (slots k q : ℕ) (tree : Tree) → length groups ≡ length trees → k < length trees → slots ≡ 2 * length trees - 2 + 2 * further_groups (take k groups)
    → StandsAmong nodes q (pattern_code slots k tree q) → NotesItsGroups nodes groups k q tree
noted nodes trees groups slots k q tree count known counted stands = record {
  slots = slots;
  stands = stands;
  whole = refl;
  further = each;
  parts = notes_of_part slots;
}
  where
    each : (number : ℕ) (name : Option Name) (inner : Tree) (at next : ℕ) → 0 < number → number < group_len groups k
        → code_of slots (group number name inner) at next
        ≡ note (slot_place groups k number) (at + 1) ∷ (code_of slots inner (at + 1) (at + 1 + size_of inner) ++ note (slot_place groups k number + 1) next ∷ [])
    each zero name inner at next some below = absurd (omega (arith, some))
    each (suc g) name inner at next some below =
        let place : slots + 2 * suc g ≡ slot_place groups k (suc g) = omega (arith, counted, count, known) in
        ap (λ slot. note slot (at + 1) ∷ (code_of slots inner (at + 1) (at + 1 + size_of inner) ++ note (slot + 1) next ∷ [])) place

-- patterns are numbered from 0
from_first : (nodes : Code) (slots k q : ℕ) (tree : Tree) → StandsAmong nodes q (pattern_code slots (0 + k) tree q) → StandsAmong nodes q (pattern_code slots k tree q)
from_first nodes slots k q tree stands = let number : 0 + k ≡ k = omega arith in subst (λ n. StandsAmong nodes q (pattern_code slots n tree q)) number stands

several : (trees : List Tree) (groups : GroupNames) (k q : ℕ) (tree : Tree) → AreGroupNamesOf trees groups → slice_get trees k ≡ Some tree → slice_get (pattern_starts trees 1) k ≡ Some q
    → NotesItsGroups (pass (pattern_starts trees 1) ∷ patterns_code (2 * length trees - 2) 0 trees 1) groups k q tree
several trees groups k q tree are is starts =
    let codes = patterns_code (2 * length trees - 2) 0 trees 1 in
    let nodes = pass (pattern_starts trees 1) ∷ codes in
    let stand : StandsAmong nodes 1 codes = λ c below. let same : 1 + c ≡ suc c = omega arith in ap (slice_get nodes) same in
    let code = code_stands nodes trees groups (2 * length trees - 2) 0 1 are stand k q tree is starts in
    noted nodes trees groups code.own k q tree (group_count trees groups are) (slice_get_within trees k tree is) code.counted (from_first nodes code.own k q tree code.stands)

pub groups_have_their_slots : GroupsHaveTheirSlots
groups_have_their_slots [] groups terminator are k q tree is starts = absurd (none-some tree is)
groups_have_their_slots (own ∷ []) groups terminator are k q tree is starts =
    let nodes = pattern_code 0 0 own 0 in
    let stand : StandsAmong nodes 0 (nodes ++ []) = λ c below. let same : 0 + c ≡ c = omega arith in ap (slice_get nodes) same ∙ ap (λ xs. slice_get xs c) (sym (append-nil nodes)) in
    let code = code_stands nodes (own ∷ []) groups 0 0 0 are stand k q tree is starts in
    noted nodes (own ∷ []) groups code.own k q tree (group_count (own ∷ []) groups are) (slice_get_within (own ∷ []) k tree is) code.counted (from_first nodes code.own k q tree code.stands)
groups_have_their_slots (own ∷ other ∷ trees) groups terminator are k q tree is starts = several (own ∷ other ∷ trees) groups k q tree are is starts
