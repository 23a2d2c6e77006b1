-- What does each job.
use Rattle.std.proofs.Common.{◌≡◌, ℕ, suc, ◌+◌, ◌-◌, ◌<◌, Bool, List, [], ◌∷◌, ◌++◌, length, Option, refl, sym, ap, ap₂, subst, ◌∙◌, arith}
use Rattle.std.specs.List.{All}
use Rattle.std.proofs.lemmas.List.{append-nil}
use Rattle.std.proofs.lemmas.List.Elements.{All-cons, All-nil}
use Rattle.rx_grammar.specs.Trees.{Name, Tree, Trees, group, concat, alternation}
use Rattle.rx_grammar.specs.Subtrees.{subtrees_of, how_many}
use Rattle.rx_grammar.specs.Weights.{size_of}
use Rattle.rx_program.specs.declared.states.State.{State}
use Rattle.rx_program.specs.declared.compiler.Job.{Job}
use Rattle.rx_program.specs.declared.compiler.Job.TheVariants as job
use Rattle.rx_program.specs.Code.{entry_of, fork, copies, optional, code_of, branches_code}
use Rattle.rx_program.specs.Programs.{node_of, ReadsItsSet}
use Rattle.rx_program.specs.Jobs.{part_at, trees_before, HasPartsBefore, sizes_of, in_row, in_branches, IsJob, work_of, row_work, JobIsDone}
use Rattle.rx_program.proofs.RowLaws.{in_row-last, in_branches-last, sizes_of-append, row_work-last, trees_in, row_is, branches_are, sizes_are, work_is}
use Rattle.rx_program.proofs.PartLaws.{IsRow}

pub no_jobs : (parts : List Tree) → All (IsJob parts) []
no_jobs parts = All-nil (IsJob parts)

pub one_job : (parts : List Tree) (a : Job) → IsJob parts a → All (IsJob parts) (a ∷ [])
one_job parts a h = All-cons (IsJob parts) a [] h (no_jobs parts)

pub two_jobs : (parts : List Tree) (a b : Job) → IsJob parts a → IsJob parts b → All (IsJob parts) (a ∷ b ∷ [])
two_jobs parts a b h i = All-cons (IsJob parts) a (b ∷ []) h (one_job parts b i)

pub no_states : All ReadsItsSet []
no_states = All-nil ReadsItsSet

pub one_state : (s : State) → ReadsItsSet s → All ReadsItsSet (s ∷ [])
one_state s h = All-cons ReadsItsSet s [] h no_states

module _ {slots : ℕ} (parts : List Tree) (at : ℕ) where
  -- a row without parts
  pub does_no_row : (root size next : ℕ) → JobIsDone slots parts at (job.Row 0 root size next) [] []
  does_no_row root size next = record { code = refl; size = refl; work = omega arith; jobs = no_jobs parts; reads = no_states }

  pub does_no_branches : (root next : ℕ) → JobIsDone slots parts at (job.Branches 0 root next) [] []
  does_no_branches root next = record { code = refl; size = refl; work = omega arith; jobs = no_jobs parts; reads = no_states }

  pub does_no_copies : (root next : ℕ) → JobIsDone slots parts at (job.Copies 0 root next) [] []
  does_no_copies root next = record { code = refl; size = omega arith; work = omega arith; jobs = no_jobs parts; reads = no_states }

  pub does_no_optional : (greedy : Bool) (root next : ℕ) → JobIsDone slots parts at (job.Optional greedy 0 root next) [] []
  does_no_optional greedy root next = record { code = refl; size = omega arith; work = omega arith; jobs = no_jobs parts; reads = no_states }

  -- a row: its last part, and before it the others
  pub does_row : (count root root' size size' start next : ℕ) → root' ≡ root - length (subtrees_of (part_at parts root)) → size' ≡ size - size_of (part_at parts root) → start ≡ at + size'
      → IsJob parts (job.Row (suc count) root size next) → JobIsDone slots parts at (job.Row (suc count) root size next) [] (job.Row count root' size' start ∷ job.Part root next ∷ [])
  does_row count root root' size size' start next root_is size_is start_is is =
      let t = part_at parts root in
      let ts = trees_before parts count (root - length (subtrees_of t)) in
      let ts' = trees_before parts count root' in
      let same : ts ≡ ts' = ap (trees_before parts count) (sym root_is) in
      let total : size ≡ sizes_of ts + (size_of t + 0) = is.1 ∙ sizes_of-append ts (t ∷ []) in
      let here : at + sizes_of ts ≡ start = omega (arith, start_is, size_is, total) in
      let same_sizes : sizes_of ts ≡ sizes_of ts' = ap sizes_of same in
      let from : at ≡ at + 0 = omega arith in
      let end : at + sizes_of ts ≡ at + 0 + sizes_of ts' = omega (arith, same_sizes) in
      record {
        code = in_row-last slots ts t at next
            ∙ ap₂ (λ x y. x ++ y) (ap (λ xs. in_row slots xs at (at + sizes_of ts)) same ∙ ap₂ (λ m n. in_row slots ts' m n) from here)
            (ap (λ n. code_of slots t n next) end ∙ sym (append-nil (code_of slots t (at + 0 + sizes_of ts') next)));
        size = omega (arith, sizes_of-append ts (t ∷ []), same_sizes);
        work = omega (arith, row_work-last ts t, ap row_work same);
        jobs = two_jobs parts (job.Row count root' size' start) (job.Part root next)
            (subst (HasPartsBefore parts count) (sym root_is) is.0.1, omega (arith, size_is, total, same_sizes)) is.0.0;
        reads = no_states;
      }

  pub does_branches : (count root root' next : ℕ) → root' ≡ root - length (subtrees_of (part_at parts root)) → IsJob parts (job.Branches (suc count) root next)
      → JobIsDone slots parts at (job.Branches (suc count) root next) [] (job.Branches count root' next ∷ job.Part root next ∷ [])
  does_branches count root root' next root_is is =
      let t = part_at parts root in
      let ts = trees_before parts count (root - length (subtrees_of t)) in
      let ts' = trees_before parts count root' in
      let same : ts ≡ ts' = ap (trees_before parts count) (sym root_is) in
      let same_sizes : sizes_of ts ≡ sizes_of ts' = ap sizes_of same in
      let from : at ≡ at + 0 = omega arith in
      let end : at + sizes_of ts ≡ at + 0 + sizes_of ts' = omega (arith, same_sizes) in
      record {
        code = in_branches-last slots ts t at next
            ∙ ap₂ (λ x y. x ++ y) (ap₂ (λ xs n. in_branches slots xs n next) same from) (ap (λ n. code_of slots t n next) end ∙ sym (append-nil (code_of slots t (at + 0 + sizes_of ts') next)));
        size = omega (arith, sizes_of-append ts (t ∷ []), same_sizes);
        work = omega (arith, row_work-last ts t, ap row_work same);
        jobs = two_jobs parts (job.Branches count root' next) (job.Part root next) (subst (HasPartsBefore parts count) (sym root_is) is.1) is.0;
        reads = no_states;
      }

  -- copies: one, and then the others
  pub does_copies : (count root next on : ℕ) → on ≡ entry_of count (at + size_of (part_at parts root)) next → root < length parts
      → JobIsDone slots parts at (job.Copies (suc count) root next) [] (job.Part root on ∷ job.Copies count root next ∷ [])
  does_copies count root next on on_is below =
      let t = part_at parts root in
      let s = size_of t in
      let from : at ≡ at + 0 = omega arith in
      let end : at + s ≡ at + 0 + s = omega arith in
      record {
        code = ap₂ (λ x y. x ++ y) (ap₂ (λ m n. code_of slots t m n) from (sym on_is)) (ap (λ n. copies s (code_of slots t) count n next) end ∙ sym (append-nil (copies s (code_of slots t) count (at + 0 + s) next)));
        size = omega arith;
        work = omega arith;
        jobs = two_jobs parts (job.Part root on) (job.Copies count root next) below below;
        reads = no_states;
      }

  pub does_optional : (greedy : Bool) (count root next on : ℕ) (s : State) → node_of s ≡ fork greedy (at + 1) next → ReadsItsSet s → on ≡ entry_of count (at + 1 + size_of (part_at parts root)) next → root < length parts
      → JobIsDone slots parts at (job.Optional greedy (suc count) root next) (s ∷ []) (job.Part root on ∷ job.Optional greedy count root next ∷ [])
  does_optional greedy count root next on s node reads on_is below =
      let t = part_at parts root in
      let z = size_of t in
      record {
        code = ap₂ (λ x y. x ∷ y) (sym node) (ap₂ (λ x y. x ++ y) (ap (λ n. code_of slots t (at + 1) n) (sym on_is)) (sym (append-nil (optional greedy z (code_of slots t) count (at + 1 + z) next))));
        size = omega arith;
        work = omega arith;
        jobs = two_jobs parts (job.Part root on) (job.Optional greedy count root next) below below;
        reads = one_state s reads;
      }

  -- a part that is one state
  pub does_leaf : (root next : ℕ) (s : State) (tree : Tree) → part_at parts root ≡ tree → code_of slots tree at next ≡ node_of s ∷ [] → size_of tree ≡ 1 → 0 < work_of tree → ReadsItsSet s
      → JobIsDone slots parts at (job.Part root next) (s ∷ []) []
  does_leaf root next s tree is code size work reads = record {
    code = ap (λ t. code_of slots t at next) is ∙ code;
    size = ap size_of is ∙ size;
    work = omega (arith, ap work_of is, work);
    jobs = no_jobs parts;
    reads = one_state s reads;
  }

  -- a group: the note of its start, what is in it, and the note of its end
  pub does_group : (root child number slot on next : ℕ) (name : Option Name) (tree : Tree) (first last : State) → part_at parts root ≡ group number name tree → part_at parts child ≡ tree → child < length parts
      → ((n : ℕ) → node_of first ∷ (code_of slots tree (at + 1) (at + 1 + size_of tree) ++ node_of last ∷ []) ≡ code_of slots (group number name tree) at next)
      → on ≡ at + 1 + size_of tree → ReadsItsSet first → ReadsItsSet last
      → JobIsDone slots parts at (job.Part root next) (first ∷ []) (job.Part child on ∷ job.State last ∷ [])
  does_group root child number slot on next name tree first last is below_is below code on_is reads reads' = record {
    code = ap (λ t. code_of slots t at next) is ∙ sym (code 0) ∙ ap (λ x. node_of first ∷ (x ++ node_of last ∷ [])) (ap₂ (λ t n. code_of slots t (at + 1) n) (sym below_is) (sym on_is));
    size = omega (arith, ap size_of is, ap size_of below_is);
    work = omega (arith, ap work_of is, ap work_of below_is);
    jobs = two_jobs parts (job.Part child on) (job.State last) below reads';
    reads = one_state first reads;
  }

  -- trees in sequence
  pub does_concat : (root child size next : ℕ) (trees : Trees) → part_at parts root ≡ concat trees → IsRow parts (how_many trees) child (trees_in trees) → size ≡ size_of (concat trees)
      → JobIsDone slots parts at (job.Part root next) [] (job.Row (how_many trees) child size next ∷ [])
  does_concat root child size next trees is row size_is =
      let from : at ≡ at + 0 = omega arith in
      let sizes : size_of (concat trees) ≡ sizes_of (trees_before parts (how_many trees) child) = sizes_are trees ∙ ap sizes_of (sym row.is) in
      record {
        code = ap (λ t. code_of slots t at next) is ∙ row_is slots trees at next ∙ ap₂ (λ xs n. in_row slots xs n next) (sym row.is) from ∙ sym (append-nil (in_row slots (trees_before parts (how_many trees) child) (at + 0) next));
        size = omega (arith, ap size_of is, sizes);
        work = omega (arith, ap work_of is, work_is trees, ap row_work row.is);
        jobs = one_job parts (job.Row (how_many trees) child size next) (row.has, size_is ∙ sizes);
        reads = no_states;
      }

  -- alternative trees
  pub does_alternation : (root child next : ℕ) (trees : Trees) (s : State) → part_at parts root ≡ alternation trees → IsRow parts (how_many trees) child (trees_in trees)
      → node_of s ∷ branches_code slots trees (at + 1) next ≡ code_of slots (alternation trees) at next → ReadsItsSet s
      → JobIsDone slots parts at (job.Part root next) (s ∷ []) (job.Branches (how_many trees) child next ∷ [])
  does_alternation root child next trees s is row code reads =
      let sizes : size_of (alternation trees) ≡ 1 + sizes_of (trees_before parts (how_many trees) child) = ap (λ n. 1 + n) (sizes_are trees ∙ ap sizes_of (sym row.is)) in
      record {
        code = ap (λ t. code_of slots t at next) is ∙ sym code
            ∙ ap (λ x. node_of s ∷ x) (branches_are slots trees (at + 1) next ∙ ap (λ xs. in_branches slots xs (at + 1) next) (sym row.is) ∙ sym (append-nil (in_branches slots (trees_before parts (how_many trees) child) (at + 1) next)));
        size = omega (arith, ap size_of is, sizes);
        work = omega (arith, ap work_of is, work_is trees, ap row_work row.is);
        jobs = one_job parts (job.Branches (how_many trees) child next) row.has;
        reads = one_state s reads;
      }
