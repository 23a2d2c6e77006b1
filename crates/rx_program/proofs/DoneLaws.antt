-- Jobs that functions of the compiler do.
use Rattle.std.proofs.Common.{◌≡◌, ℕ, zero, suc, ◌+◌, ◌-◌, ◌<◌, ◌≤◌, Bool, List, [], ◌∷◌, ◌++◌, length, reverse, append_assoc, refl, sym, ap, subst, ◌∙◌, arith}
use Rattle.std.proofs.lemmas.List.{append-nil}
use Rattle.rx_grammar.specs.Trees.{Tree}
use Rattle.rx_grammar.specs.Subtrees.{subtrees_of}
use Rattle.rx_grammar.specs.Weights.{size_of}
use Rattle.rx_program.specs.declared.states.State.{State}
use Rattle.rx_program.specs.declared.compiler.Job.{Job}
use Rattle.rx_program.specs.declared.compiler.Job.TheVariants as job
use Rattle.rx_program.specs.Code.{entry_of, fork}
use Rattle.rx_program.specs.Programs.{node_of, ReadsItsSet}
use Rattle.rx_program.specs.Jobs.{part_at, trees_before, IsJob, JobIsDone, DoesJob}
use Rattle.rx_program.proofs.RowLaws.{sizes_of-append}
use Rattle.rx_program.proofs.CaseLaws.{does_no_row, does_no_branches, does_no_copies, does_no_optional, does_row, does_branches, does_copies, does_optional}

pub done : {slots : ℕ} {parts : List Tree} {the_job : Job} {states more : List State} {jobs left : List Job} (emitted : List State) (pushed : List Job) → more ≡ states ++ emitted → left ≡ jobs ++ reverse pushed
    → JobIsDone slots parts (length states) the_job emitted pushed → DoesJob slots parts the_job states more jobs left
done emitted pushed states_are jobs_are does = record { emitted = emitted; pushed = pushed; states_are = states_are; jobs_are = jobs_are; does = does }

pub pushed_two : (jobs one two : List Job) (a b : Job) → one ≡ jobs ++ a ∷ [] → two ≡ one ++ b ∷ [] → two ≡ jobs ++ reverse (b ∷ a ∷ [])
pushed_two jobs one two a b e f = f ∙ ap (λ x. x ++ b ∷ []) e ∙ append_assoc jobs (a ∷ []) (b ∷ [])

pub no_more : {X : Type 0} (xs : List X) → xs ≡ xs ++ []
no_more xs = sym (append-nil xs)

pub one_less : (n : ℕ) → (n ≡ 0 → ⊥) → n ≡ suc (n - 1)
one_less zero some = absurd (some refl)
one_less (suc n) some = omega arith

module _ {slots : ℕ} (parts : List Tree) (states : List State) (jobs one two : List Job) (count root next : ℕ) (some : count ≡ suc (count - 1)) where
  pub row_done : (root' size size' start : ℕ) → root' ≡ root - length (subtrees_of (part_at parts root)) → size' ≡ size - size_of (part_at parts root) → start ≡ length states + size'
      → IsJob parts (job.Row count root size next) → one ≡ jobs ++ job.Part root next ∷ [] → two ≡ one ++ job.Row (count - 1) root' size' start ∷ []
      → DoesJob slots parts (job.Row count root size next) states states jobs two
  row_done root' size size' start root_is size_is start_is is e f =
      let a = job.Part root next in
      let b = job.Row (count - 1) root' size' start in
      let does : JobIsDone slots parts (length states) (job.Row (suc (count - 1)) root size next) [] (b ∷ a ∷ []) =
      does_row parts (length states) (count - 1) root root' size size' start next root_is size_is start_is (subst (λ n. IsJob parts (job.Row n root size next)) some is) in
      done [] (b ∷ a ∷ []) (no_more states) (pushed_two jobs one two a b e f) (subst (λ n. JobIsDone slots parts (length states) (job.Row n root size next) [] (b ∷ a ∷ [])) (sym some) does)

  pub row_done_from : (root' size' len : ℕ) → root' ≡ root - length (subtrees_of (part_at parts root)) → (size : ℕ) → size' ≡ size - size_of (part_at parts root) → len ≡ length states
      → IsJob parts (job.Row count root size next) → one ≡ jobs ++ job.Part root next ∷ [] → two ≡ one ++ job.Row (count - 1) root' size' (len + size') ∷ []
      → DoesJob slots parts (job.Row count root size next) states states jobs two
  row_done_from root' size' len root_is size size_is len_is is e f = row_done root' size size' (len + size') root_is size_is (ap (λ n. n + size') len_is) is e f

  pub branches_done : (root' : ℕ) → root' ≡ root - length (subtrees_of (part_at parts root)) → IsJob parts (job.Branches count root next) → one ≡ jobs ++ job.Part root next ∷ [] → two ≡ one ++ job.Branches (count - 1) root' next ∷ []
      → DoesJob slots parts (job.Branches count root next) states states jobs two
  branches_done root' root_is is e f =
      let a = job.Part root next in
      let b = job.Branches (count - 1) root' next in
      let does : JobIsDone slots parts (length states) (job.Branches (suc (count - 1)) root next) [] (b ∷ a ∷ []) =
      does_branches parts (length states) (count - 1) root root' next root_is (subst (λ n. IsJob parts (job.Branches n root next)) some is) in
      done [] (b ∷ a ∷ []) (no_more states) (pushed_two jobs one two a b e f) (subst (λ n. JobIsDone slots parts (length states) (job.Branches n root next) [] (b ∷ a ∷ [])) (sym some) does)

  pub copies_done : (on : ℕ) → on ≡ entry_of (count - 1) (length states + size_of (part_at parts root)) next → root < length parts → one ≡ jobs ++ job.Copies (count - 1) root next ∷ [] → two ≡ one ++ job.Part root on ∷ []
      → DoesJob slots parts (job.Copies count root next) states states jobs two
  copies_done on on_is below e f =
      let a = job.Copies (count - 1) root next in
      let b = job.Part root on in
      let does : JobIsDone slots parts (length states) (job.Copies (suc (count - 1)) root next) [] (b ∷ a ∷ []) = does_copies parts (length states) (count - 1) root next on on_is below in
      done [] (b ∷ a ∷ []) (no_more states) (pushed_two jobs one two a b e f) (subst (λ n. JobIsDone slots parts (length states) (job.Copies n root next) [] (b ∷ a ∷ [])) (sym some) does)

  pub optional_done : (greedy : Bool) (on : ℕ) (more : List State) (s : State) → more ≡ states ++ s ∷ [] → node_of s ≡ fork greedy (length states + 1) next → ReadsItsSet s
      → on ≡ entry_of (count - 1) (length states + 1 + size_of (part_at parts root)) next → root < length parts → one ≡ jobs ++ job.Optional greedy (count - 1) root next ∷ [] → two ≡ one ++ job.Part root on ∷ []
      → DoesJob slots parts (job.Optional greedy count root next) states more jobs two
  optional_done greedy on more s more_is node reads on_is below e f =
      let a = job.Optional greedy (count - 1) root next in
      let b = job.Part root on in
      let does : JobIsDone slots parts (length states) (job.Optional greedy (suc (count - 1)) root next) (s ∷ []) (b ∷ a ∷ []) =
      does_optional parts (length states) greedy (count - 1) root next on s node reads on_is below in
      done (s ∷ []) (b ∷ a ∷ []) more_is (pushed_two jobs one two a b e f) (subst (λ n. JobIsDone slots parts (length states) (job.Optional greedy n root next) (s ∷ []) (b ∷ a ∷ [])) (sym some) does)

-- without parts
pub no_row_done : {slots : ℕ} (parts : List Tree) (states : List State) (jobs : List Job) (count root size next : ℕ) → count ≡ 0 → DoesJob slots parts (job.Row count root size next) states states jobs jobs
no_row_done {slots = slots} parts states jobs count root size next none =
    done [] [] (no_more states) (no_more jobs) (subst (λ n. JobIsDone slots parts (length states) (job.Row n root size next) [] []) (sym none) (does_no_row parts (length states) root size next))

pub no_branches_done : {slots : ℕ} (parts : List Tree) (states : List State) (jobs : List Job) (count root next : ℕ) → count ≡ 0 → DoesJob slots parts (job.Branches count root next) states states jobs jobs
no_branches_done {slots = slots} parts states jobs count root next none =
    done [] [] (no_more states) (no_more jobs) (subst (λ n. JobIsDone slots parts (length states) (job.Branches n root next) [] []) (sym none) (does_no_branches parts (length states) root next))

pub no_copies_done : {slots : ℕ} (parts : List Tree) (states : List State) (jobs : List Job) (count root next : ℕ) → count ≡ 0 → DoesJob slots parts (job.Copies count root next) states states jobs jobs
no_copies_done {slots = slots} parts states jobs count root next none =
    done [] [] (no_more states) (no_more jobs) (subst (λ n. JobIsDone slots parts (length states) (job.Copies n root next) [] []) (sym none) (does_no_copies parts (length states) root next))

pub no_optional_done : {slots : ℕ} (parts : List Tree) (states : List State) (jobs : List Job) (greedy : Bool) (count root next : ℕ) → count ≡ 0 → DoesJob slots parts (job.Optional greedy count root next) states states jobs jobs
no_optional_done {slots = slots} parts states jobs greedy count root next none =
    done [] [] (no_more states) (no_more jobs) (subst (λ n. JobIsDone slots parts (length states) (job.Optional greedy n root next) [] []) (sym none) (does_no_optional parts (length states) greedy root next))

-- the numbers of states of a row's last part and the others
pub row_sizes : (parts : List Tree) (count root size next : ℕ) → count ≡ suc (count - 1) → IsJob parts (job.Row count root size next)
    → (root < length parts) × (size_of (part_at parts root) ≤ size)
row_sizes parts count root size next some is =
    let whole : IsJob parts (job.Row (suc (count - 1)) root size next) = subst (λ n. IsJob parts (job.Row n root size next)) some is in
    let t = part_at parts root in
    (whole.0.0, omega (arith, whole.1, sizes_of-append (trees_before parts (count - 1) (root - length (subtrees_of t))) (t ∷ [])))

pub branches_below : (parts : List Tree) (count root next : ℕ) → count ≡ suc (count - 1) → IsJob parts (job.Branches count root next) → root < length parts
branches_below parts count root next some is = (subst (λ n. IsJob parts (job.Branches n root next)) some is).0
