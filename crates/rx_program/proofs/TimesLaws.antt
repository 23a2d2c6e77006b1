-- What does a repetition.
use Rattle.std.proofs.Common.{◌≡◌, ℕ, zero, suc, ◌+◌, ◌-◌, ◌*◌, ◌<◌, true, false, List, [], ◌∷◌, ◌++◌, length, Option, Some, None, sym, ap, ap₂, ◌∙◌, arith}
use Rattle.std.proofs.lemmas.List.{append-nil}
use Rattle.rx_grammar.specs.declared.hir.Repetition.{Repetition}
use Rattle.rx_grammar.specs.Trees.{Tree, repeated}
use Rattle.rx_grammar.specs.Weights.{may_be_empty, size_of, repeated_weight}
use Rattle.rx_program.specs.declared.states.State.{State}
use Rattle.rx_program.specs.declared.compiler.Job.TheVariants as job
use Rattle.rx_program.specs.Code.{entry_of, fork, copies, optional, code_of, repetition_code}
use Rattle.rx_program.specs.Programs.{node_of, ReadsItsSet}
use Rattle.rx_program.specs.Jobs.{part_at, work_of, repetition_work, JobIsDone}
use Rattle.rx_program.proofs.CaseLaws.{one_job, two_jobs, no_states, one_state}

-- the weight and the code of a tree, by the numbers of a repetition
code_by : (slots : ℕ) (rep : Repetition) (tree : Tree) (most : Option ℕ) (at next : ℕ) → rep.max ≡ most
    → code_of slots (repeated rep tree) at next ≡ repetition_code rep.greedy rep.min most (size_of tree) (may_be_empty tree) (code_of slots tree) at next
code_by slots rep tree most at next e = ap (λ m. repetition_code rep.greedy rep.min m (size_of tree) (may_be_empty tree) (code_of slots tree) at next) e

size_by : (rep : Repetition) (tree : Tree) (most : Option ℕ) → rep.max ≡ most → size_of (repeated rep tree) ≡ repeated_weight rep.min most (size_of tree) (may_be_empty tree)
size_by rep tree most e = ap (λ m. repeated_weight rep.min m (size_of tree) (may_be_empty tree)) e

work_by : (rep : Repetition) (tree : Tree) (most : Option ℕ) → rep.max ≡ most → work_of (repeated rep tree) ≡ repetition_work rep.min most (work_of tree) (may_be_empty tree) + 1
work_by rep tree most e = ap (λ m. repetition_work rep.min m (work_of tree) (may_be_empty tree) + 1) e

module _ {slots : ℕ} (parts : List Tree) (at root child next : ℕ) (rep : Repetition) (tree : Tree) (is : part_at parts root ≡ repeated rep tree) (below_is : part_at parts child ≡ tree) (below : child < length parts) where
  -- h{n,m}
  pub does_times : (most on : ℕ) → rep.max ≡ Some most → 0 < most → on ≡ entry_of (most - rep.min) (at + rep.min * size_of tree) next
      → JobIsDone slots parts at (job.Part root next) [] (job.Copies rep.min child on ∷ job.Optional rep.greedy (most - rep.min) child next ∷ [])
  does_times zero on e some on_is = absurd (omega (arith, some))
  does_times (suc m) on e some on_is =
      let n = rep.min in
      let left = suc m - n in
      let s = size_of tree in
      let from : at ≡ at + 0 = omega arith in
      let same = ap size_of below_is in
      let end : at + n * s ≡ at + 0 + n * size_of (part_at parts child) = ap (λ z. at + n * z) (sym same) ∙ omega arith in
      record {
        code = ap (λ t. code_of slots t at next) is ∙ code_by slots rep tree (Some (suc m)) at next e
            ∙ ap₂ (λ x y. x ++ y)
            (ap₂ (λ t k. copies (size_of t) (code_of slots t) n at k) (sym below_is) (sym on_is) ∙ ap (λ k. copies (size_of (part_at parts child)) (code_of slots (part_at parts child)) n k on) from)
            (ap₂ (λ t k. optional rep.greedy (size_of t) (code_of slots t) left k next) (sym below_is) end
            ∙ sym (append-nil (optional rep.greedy (size_of (part_at parts child)) (code_of slots (part_at parts child)) left (at + 0 + n * size_of (part_at parts child)) next)));
        size = ap size_of is ∙ size_by rep tree (Some (suc m)) e ∙ ap (λ z. n * z + left * (1 + z)) (sym same) ∙ omega arith;
        work = omega (arith, ap work_of is ∙ work_by rep tree (Some (suc m)) e ∙ ap (λ w. repetition_work n (Some (suc m)) w (may_be_empty tree) + 1) (sym (ap work_of below_is)));
        jobs = two_jobs parts (job.Copies n child on) (job.Optional rep.greedy left child next) below below;
        reads = no_states;
      }

  -- h*, if h is never empty
  pub does_loop : (s : State) → rep.max ≡ None → rep.min ≡ 0 → may_be_empty tree ≡ false → node_of s ≡ fork rep.greedy (at + 1) next → ReadsItsSet s
      → JobIsDone slots parts at (job.Part root next) (s ∷ []) (job.Part child at ∷ [])
  does_loop s e none never node reads = record {
    code = ap (λ t. code_of slots t at next) is ∙ code_by slots rep tree None at next e ∙ ap₂ (λ n may. repetition_code rep.greedy n None (size_of tree) may (code_of slots tree) at next) none never
        ∙ ap₂ (λ x y. x ∷ y) (sym node) (ap (λ t. code_of slots t (at + 1) at) (sym below_is) ∙ sym (append-nil (code_of slots (part_at parts child) (at + 1) at)));
    size = ap size_of is ∙ size_by rep tree None e ∙ ap₂ (λ n may. repeated_weight n None (size_of tree) may) none never ∙ ap (λ z. 1 + z) (sym (ap size_of below_is)) ∙ omega arith;
    work = omega (arith, ap work_of is ∙ work_by rep tree None e ∙ ap₂ (λ n w. repetition_work n None w (may_be_empty tree) + 1) none (sym (ap work_of below_is)));
    jobs = one_job parts (job.Part child at) below;
    reads = one_state s reads;
  }

  -- h*, if h may be empty
  pub does_optional_loop : (s back : State) (on : ℕ) → rep.max ≡ None → rep.min ≡ 0 → may_be_empty tree ≡ true → node_of s ≡ fork rep.greedy (at + 1) next → node_of back ≡ fork rep.greedy (at + 1) next
      → on ≡ at + 1 + size_of tree → ReadsItsSet s → ReadsItsSet back → JobIsDone slots parts at (job.Part root next) (s ∷ []) (job.Part child on ∷ job.State back ∷ [])
  does_optional_loop s back on e none may node node' on_is reads reads' = record {
    code = ap (λ t. code_of slots t at next) is ∙ code_by slots rep tree None at next e ∙ ap₂ (λ n may. repetition_code rep.greedy n None (size_of tree) may (code_of slots tree) at next) none may
        ∙ ap₂ (λ x y. x ∷ y) (sym node) (ap₂ (λ x y. x ++ y ∷ []) (ap₂ (λ t k. code_of slots t (at + 1) k) (sym below_is) (sym on_is)) (sym node'));
    size = ap size_of is ∙ size_by rep tree None e ∙ ap₂ (λ n may. repeated_weight n None (size_of tree) may) none may ∙ ap (λ z. 2 + z) (sym (ap size_of below_is)) ∙ omega arith;
    work = omega (arith, ap work_of is ∙ work_by rep tree None e ∙ ap₂ (λ n w. repetition_work n None w (may_be_empty tree) + 1) none (sym (ap work_of below_is)));
    jobs = two_jobs parts (job.Part child on) (job.State back) below reads';
    reads = one_state s reads;
  }

  -- h{n,}, if n is above 0
  pub does_from : (n end : ℕ) (back : State) → rep.max ≡ None → rep.min ≡ suc n → node_of back ≡ fork rep.greedy (at + n * size_of tree) next → end ≡ at + suc n * size_of tree → ReadsItsSet back
      → JobIsDone slots parts at (job.Part root next) [] (job.Copies (suc n) child end ∷ job.State back ∷ [])
  does_from n end back e some node end_is reads =
      let from : at ≡ at + 0 = omega arith in
      record {
        code = ap (λ t. code_of slots t at next) is ∙ code_by slots rep tree None at next e ∙ ap (λ k. repetition_code rep.greedy k None (size_of tree) (may_be_empty tree) (code_of slots tree) at next) some
            ∙ ap₂ (λ x y. x ++ y ∷ [])
            (ap₂ (λ t k. copies (size_of t) (code_of slots t) (suc n) at k) (sym below_is) (sym end_is) ∙ ap (λ k. copies (size_of (part_at parts child)) (code_of slots (part_at parts child)) (suc n) k end) from)
            (sym node);
        size = ap size_of is ∙ size_by rep tree None e ∙ ap₂ (λ k z. repeated_weight k None z (may_be_empty tree)) some (sym (ap size_of below_is)) ∙ omega arith;
        work = omega (arith, ap work_of is ∙ work_by rep tree None e ∙ ap₂ (λ k w. repetition_work k None w (may_be_empty tree) + 1) some (sym (ap work_of below_is)));
        jobs = two_jobs parts (job.Copies (suc n) child end) (job.State back) below reads;
        reads = no_states;
      }
