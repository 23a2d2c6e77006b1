-- The code of a part of a pattern writes only the slots of the groups in that part.
use Rattle.std.proofs.Common.{ℕ, zero, suc, ◌+◌, ◌-◌, ◌*◌, Bool, true, false, List, [], ◌∷◌, ◌++◌, Option, Some, None, refl, inl, inr}
use Rattle.std.specs.List.{All, Contains}
use Rattle.std.proofs.lemmas.List.Elements.{All-append, All-cons, All-nil, All-weaker, Contains-append_left, Contains-append_right}
use Rattle.rx_sets.specs.Sets.{Range}
use Rattle.rx_grammar.specs.Trees.{Tree, Trees, empty, one_of, look_at, group, concat, alternation, repeated, two, more, numbers_of, all_numbers_of}
use Rattle.rx_grammar.specs.Weights.{may_be_empty, size_of}
use Rattle.rx_walks.specs.Looks as walks
use Rattle.rx_walks.specs.Programs.{Node, match, pass, note, look, set}
use Rattle.rx_walks.proofs.WalkLaws.{Contains-head, Contains-tail}
use Rattle.rx_program.specs.Code.{Code, place_of, fork, entry_of, copies, optional, repetition_code, branch_starts, code_of, row_code, branches_code}
use Rattle.rx_chunk.specs.Owned.{IsSlotAmong, NotesAmong}

module _ (slots : ℕ) where
  abbrev Notes : List ℕ → Code → Type 0
  Notes numbers nodes = All (NotesAmong slots numbers) nodes

  slot_among : (xs ys : List ℕ) → ((x : ℕ) → Contains xs x → Contains ys x) → (slot : ℕ) → IsSlotAmong slots xs slot → IsSlotAmong slots ys slot
  slot_among xs ys within slot among = record { number = among.number; one_of_them = within among.number among.one_of_them; one_of_two = among.one_of_two }

  node_among : (xs ys : List ℕ) → ((x : ℕ) → Contains xs x → Contains ys x) → (node : Node walks.Look (List Range)) → NotesAmong slots xs node → NotesAmong slots ys node
  node_among xs ys within (match k) among = among
  node_among xs ys within (pass rs) among = among
  node_among xs ys within (note slot r) among = slot_among xs ys within slot among
  node_among xs ys within (look l r) among = among
  node_among xs ys within (set x r) among = among

  among_more : (xs ys : List ℕ) → ((x : ℕ) → Contains xs x → Contains ys x) → (nodes : Code) → Notes xs nodes → Notes ys nodes
  among_more xs ys within nodes all = All-weaker (NotesAmong slots xs) (NotesAmong slots ys) (node_among xs ys within) nodes all

  left_more : (xs ys : List ℕ) (nodes : Code) → Notes xs nodes → Notes (xs ++ ys) nodes
  left_more xs ys nodes all = among_more xs (xs ++ ys) (λ x c. Contains-append_left xs ys x c) nodes all

  right_more : (xs ys : List ℕ) (nodes : Code) → Notes ys nodes → Notes (xs ++ ys) nodes
  right_more xs ys nodes all = among_more ys (xs ++ ys) (λ x c. Contains-append_right xs ys x c) nodes all

  own_start : (number : ℕ) (inner : List ℕ) → IsSlotAmong slots (number ∷ inner) (slots + 2 * number)
  own_start number inner = record { number = number; one_of_them = Contains-head inner number number refl; one_of_two = inl refl }

  own_end : (number : ℕ) (inner : List ℕ) → IsSlotAmong slots (number ∷ inner) (slots + 2 * number + 1)
  own_end number inner = record { number = number; one_of_them = Contains-head inner number number refl; one_of_two = inr refl }

  module _ (numbers : List ℕ) where
    none : Notes numbers []
    none = All-nil (NotesAmong slots numbers)

    before : (node : Node walks.Look (List Range)) (nodes : Code) → NotesAmong slots numbers node → Notes numbers nodes → Notes numbers (node ∷ nodes)
    before node nodes h all = All-cons (NotesAmong slots numbers) node nodes h all

    beside : (xs ys : Code) → Notes numbers xs → Notes numbers ys → Notes numbers (xs ++ ys)
    beside xs ys a b = All-append (NotesAmong slots numbers) xs ys a b

    fork_notes : (g : Bool) (into on : ℕ) → NotesAmong slots numbers (fork g into on)
    fork_notes true into on = tt
    fork_notes false into on = tt

    one_fork : (g : Bool) (into on : ℕ) → Notes numbers (fork g into on ∷ [])
    one_fork g into on = before (fork g into on) [] (fork_notes g into on) none

    module _ (s : ℕ) (h : ℕ → ℕ → Code) (part : (at next : ℕ) → Notes numbers (h at next)) where
      copies_note : (k at next : ℕ) → Notes numbers (copies s h k at next)
      copies_note zero at next = none
      copies_note (suc k) at next =
          beside (h at (entry_of k (at + s) next)) (copies s h k (at + s) next) (part at (entry_of k (at + s) next)) (copies_note k (at + s) next)

      optional_note : (g : Bool) (k at next : ℕ) → Notes numbers (optional g s h k at next)
      optional_note g zero at next = none
      optional_note g (suc k) at next = before (fork g (at + 1) next) _ (fork_notes g (at + 1) next)
          (beside (h (at + 1) (entry_of k (at + 1 + s) next)) (optional g s h k (at + 1 + s) next) (part (at + 1) (entry_of k (at + 1 + s) next)) (optional_note g k (at + 1 + s) next))

      repetition_notes : (g : Bool) (k : ℕ) (most : Option ℕ) (may : Bool) (at next : ℕ) → Notes numbers (repetition_code g k most s may h at next)
      repetition_notes g k (Some zero) may at next = before (pass (next ∷ [])) [] tt none
      repetition_notes g k (Some (suc m)) may at next =
          let on = entry_of (suc m - k) (at + k * s) next in
          beside (copies s h k at on) (optional g s h (suc m - k) (at + k * s) next) (copies_note k at on) (optional_note g (suc m - k) (at + k * s) next)
      repetition_notes g zero None false at next = before (fork g (at + 1) next) (h (at + 1) at) (fork_notes g (at + 1) next) (part (at + 1) at)
      repetition_notes g zero None true at next = before (fork g (at + 1) next) _ (fork_notes g (at + 1) next)
          (beside (h (at + 1) (at + 1 + s)) (fork g (at + 1) next ∷ []) (part (at + 1) (at + 1 + s)) (one_fork g (at + 1) next))
      repetition_notes g (suc k) None may at next =
          beside (copies s h (suc k) at (at + suc k * s)) (fork g (at + k * s) next ∷ []) (copies_note (suc k) at (at + suc k * s)) (one_fork g (at + k * s) next)

  mutual
    pub notes_of_part : (part : Tree) (at next : ℕ) → All (NotesAmong slots (numbers_of part)) (code_of slots part at next)
    notes_of_part empty at next = before [] (pass (next ∷ [])) [] tt (none [])
    notes_of_part (one_of ranges) at next = before [] (set ranges next) [] tt (none [])
    notes_of_part (look_at asked) at next = before [] (look (place_of asked) next) [] tt (none [])
    notes_of_part (group number name tree) at next =
        let inner = numbers_of tree in
        let own = number ∷ inner in
        let code = code_of slots tree (at + 1) (at + 1 + size_of tree) in
        before own (note (slots + 2 * number) (at + 1)) _ (own_start number inner)
        (beside own code (note (slots + 2 * number + 1) next ∷ [])
        (among_more inner own (λ x c. Contains-tail inner number x c) code (notes_of_part tree (at + 1) (at + 1 + size_of tree)))
        (before own (note (slots + 2 * number + 1) next) [] (own_end number inner) (none own)))
    notes_of_part (concat trees) at next = notes_of_row trees at next
    notes_of_part (alternation trees) at next = before (all_numbers_of trees) (pass (branch_starts trees (at + 1))) _ tt (notes_of_branches trees (at + 1) next)
    notes_of_part (repeated rep tree) at next =
        repetition_notes (numbers_of tree) (size_of tree) (code_of slots tree) (λ a b. notes_of_part tree a b) rep.greedy rep.min rep.max (may_be_empty tree) at next

    notes_of_row : (trees : Trees) (at next : ℕ) → All (NotesAmong slots (all_numbers_of trees)) (row_code slots trees at next)
    notes_of_row (two first second) at next =
        let xs = code_of slots first at (at + size_of first) in
        let ys = code_of slots second (at + size_of first) next in
        beside (numbers_of first ++ numbers_of second) xs ys
        (left_more (numbers_of first) (numbers_of second) xs (notes_of_part first at (at + size_of first)))
        (right_more (numbers_of first) (numbers_of second) ys (notes_of_part second (at + size_of first) next))
    notes_of_row (more first others) at next =
        let xs = code_of slots first at (at + size_of first) in
        let ys = row_code slots others (at + size_of first) next in
        beside (numbers_of first ++ all_numbers_of others) xs ys
        (left_more (numbers_of first) (all_numbers_of others) xs (notes_of_part first at (at + size_of first)))
        (right_more (numbers_of first) (all_numbers_of others) ys (notes_of_row others (at + size_of first) next))

    notes_of_branches : (trees : Trees) (at next : ℕ) → All (NotesAmong slots (all_numbers_of trees)) (branches_code slots trees at next)
    notes_of_branches (two first second) at next =
        let xs = code_of slots first at next in
        let ys = code_of slots second (at + size_of first) next in
        beside (numbers_of first ++ numbers_of second) xs ys
        (left_more (numbers_of first) (numbers_of second) xs (notes_of_part first at next))
        (right_more (numbers_of first) (numbers_of second) ys (notes_of_part second (at + size_of first) next))
    notes_of_branches (more first others) at next =
        let xs = code_of slots first at next in
        let ys = branches_code slots others (at + size_of first) next in
        beside (numbers_of first ++ all_numbers_of others) xs ys
        (left_more (numbers_of first) (all_numbers_of others) xs (notes_of_part first at next))
        (right_more (numbers_of first) (all_numbers_of others) ys (notes_of_branches others (at + size_of first) next))
