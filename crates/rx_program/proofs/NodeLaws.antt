-- What does parts, by their nodes.
use Rattle.std.proofs.Common.{◌≡◌, ℕ, ◌+◌, ◌-◌, ◌*◌, ◌≤◌, List, [], ◌∷◌, ◌++◌, length, Option, Some, None, refl, sym, ap, ap₂, subst, ◌∙◌, arith}
use Rattle.std.specs.Prelude.{String}
use Rattle.std.specs.declared.alloc.Global.{Global}
use Rattle.std.specs.String.{string_bytes}
use Rattle.rx_sets.specs.Sets.{Range}
use Rattle.rx_grammar.specs.declared.hir.Look.{Look}
use Rattle.rx_grammar.specs.declared.hir.Node.TheVariants as node
use Rattle.rx_grammar.specs.declared.hir.Repetition.{Repetition}
use Rattle.rx_grammar.specs.Trees.{Name, Tree, empty, one_of, look_at, repeated}
use Rattle.rx_grammar.specs.Subtrees.{an_empty, a_set, a_look, a_group, a_concat, an_alternation, a_repetition, root_of, subtrees_of}
use Rattle.rx_grammar.specs.Weights.{size_of}
use Rattle.rx_grammar.specs.Nodes.{kind_of}
use Rattle.rx_walks.specs.Looks as walks
use Rattle.rx_walks.specs.Programs as programs
use Rattle.rx_program.specs.declared.states.State.{State}
use Rattle.rx_program.specs.declared.states.State.TheVariants as state
use Rattle.rx_program.specs.declared.compiler.Job.{Job}
use Rattle.rx_program.specs.declared.compiler.Job.TheVariants as job
use Rattle.rx_program.specs.Code.{code_of, place_of, branch_starts, branches_code}
use Rattle.rx_program.specs.Programs.{node_of, ReadsItsSet}
use Rattle.rx_program.specs.Jobs.{part_at, trees_before, HasPartsBefore, sizes_of, starts_of, JobIsDone, DoesJob}
use Rattle.rx_program.proofs.PartLaws.{Stands, IsRow}
use Rattle.rx_program.proofs.RowLaws.{trees_in, starts_are, sizes_are}
use Rattle.rx_program.proofs.ShapeLaws.{empty_by, set_by, look_by, group_by, concat_by, alternation_by, repetition_by, group_child, repeated_child, concat_children, alternation_children}
use Rattle.rx_program.proofs.CaseLaws.{does_leaf, does_group, does_concat, does_alternation}
use Rattle.rx_program.proofs.DoneLaws.{done, pushed_two, no_more}

abbrev noted : ℕ → ℕ → programs.Node walks.Look (List Range)
noted slot next = programs.note slot next

pub group_kind : (number : ℕ) (name : Option (String Global)) → (nm : Option Name) × (kind_of (node.Group number name) ≡ a_group number nm)
group_kind number None = (None, refl)
group_kind number (Some name) = (Some (string_bytes name), refl)

module _ (parts : List Tree) (root : ℕ) (stands : Stands parts root (subtrees_of (part_at parts root))) where
  pub group_some : (number : ℕ) (nm : Option Name) → root_of (part_at parts root) ≡ a_group number nm → (1 ≤ root) × (1 ≤ size_of (part_at parts root)) × (size_of (part_at parts (root - 1)) + 2 ≡ size_of (part_at parts root))
  group_some number nm kind =
      let by = group_by (part_at parts root) number nm kind in
      let child = group_child parts root number nm by.0 by.1 stands in
      (child.some, omega (arith, ap size_of by.1), omega (arith, ap size_of by.1, ap size_of child.is))

  pub concat_some : (count : ℕ) → root_of (part_at parts root) ≡ a_concat count → 1 ≤ root
  concat_some count kind = let by = concat_by (part_at parts root) count kind in (concat_children parts root by.0 by.1 stands).some

  pub alternation_row : (count : ℕ) → root_of (part_at parts root) ≡ an_alternation count
      → (1 ≤ root) × HasPartsBefore parts count (root - 1) × (1 + sizes_of (trees_before parts count (root - 1)) ≡ size_of (part_at parts root))
  alternation_row count kind =
      let by = alternation_by (part_at parts root) count kind in
      let below = alternation_children parts root by.0 by.1 stands in
      let row : IsRow parts count (root - 1) (trees_in by.0) = subst (λ n. IsRow parts n (root - 1) (trees_in by.0)) by.2 below.row in
      (below.some, row.has, ap (λ n. 1 + n) (ap sizes_of row.is ∙ sym (sizes_are by.0)) ∙ sym (ap size_of by.1))

  pub repetition_child : (rep : Repetition) → root_of (part_at parts root) ≡ a_repetition rep → (1 ≤ root) × (part_at parts (root - 1 + 1) ≡ repeated rep (part_at parts (root - 1)))
  repetition_child rep kind =
      let by = repetition_by (part_at parts root) rep kind in
      let child = repeated_child parts root rep by.0 by.1 stands in
      let back : root - 1 + 1 ≡ root = omega (arith, child.some) in
      (child.some, ap (part_at parts) back ∙ by.1 ∙ ap (repeated rep) (sym child.is))

  module _ {slots : ℕ} (states more : List State) (jobs one two : List Job) (next on : ℕ) (on_is : on ≡ next) where
    pub empty_done : root_of (part_at parts root) ≡ an_empty → more ≡ states ++ state.Empty on ∷ [] → DoesJob slots parts (job.Part root next) states more jobs jobs
    empty_done kind more_is = done (state.Empty on ∷ []) [] more_is (no_more jobs)
        (does_leaf parts (length states) root next (state.Empty on) empty (empty_by (part_at parts root) kind) (ap (λ n. programs.pass (n ∷ []) ∷ []) (sym on_is)) refl (omega arith) tt)

    pub look_done : (asked : Look) → root_of (part_at parts root) ≡ a_look asked → more ≡ states ++ state.Look asked on ∷ [] → DoesJob slots parts (job.Part root next) states more jobs jobs
    look_done asked kind more_is = done (state.Look asked on ∷ []) [] more_is (no_more jobs)
        (does_leaf parts (length states) root next (state.Look asked on) (look_at asked) (look_by (part_at parts root) asked kind) (ap (λ n. programs.look (place_of asked) n ∷ []) (sym on_is)) refl (omega arith) tt)

    pub set_done : (ranges : List Range) (s : State) → root_of (part_at parts root) ≡ a_set ranges → node_of s ≡ programs.set ranges on → ReadsItsSet s → more ≡ states ++ s ∷ [] → DoesJob slots parts (job.Part root next) states more jobs jobs
    set_done ranges s kind node reads more_is = done (s ∷ []) [] more_is (no_more jobs)
        (does_leaf parts (length states) root next s (one_of ranges) (set_by (part_at parts root) ranges kind) (ap (λ n. n ∷ []) (ap (programs.set ranges) (sym on_is) ∙ sym node)) refl (omega arith) reads)

    pub group_done : (number slot slot' here inner : ℕ) (nm : Option Name) → root_of (part_at parts root) ≡ a_group number nm → slot ≡ slots + 2 * number → slot' ≡ slots + 2 * number + 1 → here ≡ length states + 1
        → inner + 1 ≡ length states + size_of (part_at parts root) → more ≡ states ++ state.Capture slot here ∷ [] → one ≡ jobs ++ job.State (state.Capture slot' on) ∷ [] → two ≡ one ++ job.Part (root - 1) inner ∷ []
        → DoesJob slots parts (job.Part root next) states more jobs two
    group_done number slot slot' here inner nm kind slot_is slot_is' here_is inner_is more_is f g =
        let by = group_by (part_at parts root) number nm kind in
        let tree = by.0 in
        let child = group_child parts root number nm tree by.1 stands in
        let at = length states in
        let first = state.Capture slot here in
        let last = state.Capture slot' on in
        let code = λ (n : ℕ). ap₂ (λ x y. x ∷ (code_of slots tree (at + 1) (at + 1 + size_of tree) ++ y ∷ [])) (ap₂ noted slot_is here_is) (ap₂ noted slot_is' on_is) in
        done (first ∷ []) (job.Part (root - 1) inner ∷ job.State last ∷ []) more_is (pushed_two jobs one two (job.State last) (job.Part (root - 1) inner) f g)
        (does_group parts at root (root - 1) number slot inner next nm tree first last by.1 child.is child.below code (omega (arith, inner_is, ap size_of by.1)) tt tt)

    pub concat_done : (count size : ℕ) → root_of (part_at parts root) ≡ a_concat count → size ≡ size_of (part_at parts root) → one ≡ jobs ++ job.Row count (root - 1) size next ∷ [] → DoesJob slots parts (job.Part root next) states states jobs one
    concat_done count size kind size_is f =
        let by = concat_by (part_at parts root) count kind in
        let below = concat_children parts root by.0 by.1 stands in
        let does = does_concat parts (length states) root (root - 1) size next by.0 by.1 below.row (size_is ∙ ap size_of by.1) in
        done [] (job.Row count (root - 1) size next ∷ []) (no_more states) f (subst (λ n. JobIsDone slots parts (length states) (job.Part root next) [] (job.Row n (root - 1) size next ∷ [])) by.2 does)

    pub alternation_done : (count base : ℕ) (s : State) (starts : List ℕ) → root_of (part_at parts root) ≡ an_alternation count → node_of s ≡ programs.pass starts → ReadsItsSet s
        → starts ≡ starts_of (trees_before parts count (root - 1)) base → base ≡ length states + 1 → more ≡ states ++ s ∷ [] → one ≡ jobs ++ job.Branches count (root - 1) next ∷ [] → DoesJob slots parts (job.Part root next) states more jobs one
    alternation_done count base s starts kind node reads starts_is base_is more_is f =
        let by = alternation_by (part_at parts root) count kind in
        let trees = by.0 in
        let at = length states in
        let below = alternation_children parts root trees by.1 stands in
        let same : trees_before parts count (root - 1) ≡ trees_in trees = ap (λ n. trees_before parts n (root - 1)) (sym by.2) ∙ below.row.is in
        let entries : starts ≡ branch_starts trees (at + 1) = starts_is ∙ ap₂ starts_of same base_is ∙ sym (starts_are trees (at + 1)) in
        let does = does_alternation parts at root (root - 1) next trees s by.1 below.row (ap (λ x. x ∷ branches_code slots trees (at + 1) next) (node ∙ ap programs.pass entries)) reads in
        done (s ∷ []) (job.Branches count (root - 1) next ∷ []) more_is f (subst (λ n. JobIsDone slots parts at (job.Part root next) (s ∷ []) (job.Branches n (root - 1) next ∷ [])) by.2 does)
