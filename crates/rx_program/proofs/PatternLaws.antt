-- A whole pattern.
use Rattle.std.proofs.Common.{◌≡◌, ℕ, ◌+◌, ◌-◌, ◌*◌, ◌<◌, ◌^◌, List, [], ◌∷◌, ◌++◌, length, map, append_assoc, sym, ap, ap₂, subst, ◌∙◌, arith, length-append}
use Rattle.std.specs.List.{All}
use Rattle.std.proofs.lemmas.List.{append-nil, length-map, map-append}
use Rattle.std.proofs.lemmas.List.Elements.{All-cons, All-nil, All-append}
use Rattle.rx_sets.specs.Sets.{Range}
use Rattle.rx_grammar.specs.declared.hir.Node.{Node}
use Rattle.rx_grammar.specs.Trees.{Tree}
use Rattle.rx_grammar.specs.Subtrees.{subtrees_of, root_of}
use Rattle.rx_grammar.specs.Weights.{size_of, pattern_weight}
use Rattle.rx_grammar.specs.Nodes.{kind_of}
use Rattle.rx_walks.specs.Looks as walks
use Rattle.rx_walks.specs.Programs as programs
use Rattle.rx_program.specs.declared.states.State.{State}
use Rattle.rx_program.specs.declared.states.State.TheVariants as state
use Rattle.rx_program.specs.declared.compiler.Job.{Job}
use Rattle.rx_program.specs.declared.compiler.Job.TheVariants as job
use Rattle.rx_program.specs.Code.{code_of, pattern_code}
use Rattle.rx_program.specs.Programs.{node_of, ReadsItsSet}
use Rattle.rx_program.specs.Jobs.{part_at, IsJob, jobs_code, jobs_size}
use Rattle.rx_program.proofs.PartLaws.{Stands, root_is, root_below, some_parts}
use Rattle.rx_program.proofs.SizeLaws.{size_le_weight}
use Rattle.rx_program.proofs.JobLaws.{whole_code}

abbrev noted : ℕ → ℕ → programs.Node walks.Look (List Range)
noted slot next = programs.note slot next

-- the last part is the tree
pub record Root (tree : Tree) (root : ℕ) : Type 0 where
  pub below : root < length (subtrees_of tree)
  pub is : part_at (subtrees_of tree) root ≡ tree
  pub small : size_of tree + 3 < 2 ^ 63

pub whole_root : (tree : Tree) (list : List Node) → map kind_of list ≡ map root_of (subtrees_of tree) → pattern_weight tree < 2 ^ 63 → Root tree (length list - 1)
whole_root tree list same light =
    let parts = subtrees_of tree in
    let count : length list ≡ length parts = omega (arith, ap length same, length-map list kind_of, length-map parts root_of) in
    let stands : Stands parts (length list - 1) parts = record { front = []; rest = []; whole = sym (append-nil parts); root = omega (arith, count, some_parts tree) } in
    record { below = root_below parts (length list - 1) parts stands; is = root_is parts (length list - 1) tree stands; small = omega (arith, light, size_le_weight tree) }

-- After the states before, the states and the code of the jobs that are left are the code of a
-- pattern, with number p.
pub record Begun (slots p : ℕ) (tree : Tree) (before states : List State) (jobs : List Job) : Type 0 where
  pub whole : whole_code slots (subtrees_of tree) states jobs ≡ map node_of before ++ pattern_code slots p tree (length before)
  pub size : length states + jobs_size (subtrees_of tree) jobs ≡ length before + 3 + size_of tree
  pub valid : All (IsJob (subtrees_of tree)) jobs
  pub reads : All ReadsItsSet states

pub begun : (slots p : ℕ) (tree : Tree) (before states : List State) (root one last end slot slot' p' : ℕ) (no_jobs jobs₁ jobs₂ jobs₃ : List Job) → Root tree root → All ReadsItsSet before
    → slot ≡ 2 * p → slot' ≡ 2 * p + 1 → p' ≡ p → one ≡ length before + 1 → last ≡ length before + 2 + size_of tree → end ≡ length before + 1 + size_of tree
    → no_jobs ≡ [] → states ≡ before ++ state.Capture slot one ∷ [] → jobs₁ ≡ no_jobs ++ job.State (state.Match p') ∷ [] → jobs₂ ≡ jobs₁ ++ job.State (state.Capture slot' last) ∷ [] → jobs₃ ≡ jobs₂ ++ job.Part root end ∷ []
    → Begun slots p tree before states jobs₃
begun slots p tree before states root one last end slot slot' p' no_jobs jobs₁ jobs₂ jobs₃ at before_reads slot_is slot_is' p_is one_is last_is end_is no_jobs_is states_is is₁ is₂ is₃ =
    let parts = subtrees_of tree in
    let s = state.Capture slot one ∷ [] in
    let j = job.State (state.Match p') ∷ job.State (state.Capture slot' last) ∷ job.Part root end ∷ [] in
    let back = job.Part root end ∷ job.State (state.Capture slot' last) ∷ job.State (state.Match p') ∷ [] in
    let jobs_are : jobs₃ ≡ j = is₃ ∙ ap (λ x. x ++ job.Part root end ∷ []) (is₂ ∙ ap (λ x. x ++ job.State (state.Capture slot' last) ∷ []) (is₁ ∙ ap (λ x. x ++ job.State (state.Match p') ∷ []) no_jobs_is)) in
    let len : length (before ++ s) ≡ length before + 1 = length-append before s in
    let first_reads : ReadsItsSet (state.Capture slot one) = tt in
    let end_valid : IsJob parts (job.State (state.Match p')) = tt in
    let last_valid : IsJob parts (job.State (state.Capture slot' last)) = tt in
    let all_valid : All (IsJob parts) j = All-cons (IsJob parts) (job.State (state.Match p')) (job.State (state.Capture slot' last) ∷ job.Part root end ∷ []) end_valid
    (All-cons (IsJob parts) (job.State (state.Capture slot' last)) (job.Part root end ∷ []) last_valid (All-cons (IsJob parts) (job.Part root end) [] at.below (All-nil (IsJob parts)))) in
    let code : map node_of s ++ jobs_code slots parts back (length before + 1) ≡ pattern_code slots p tree (length before) =
    ap₂ (λ x y. x ∷ y) (ap₂ noted slot_is one_is)
    (ap₂ (λ x y. x ++ y) (ap₂ (λ t n. code_of slots t (length before + 1) n) at.is end_is)
    (ap₂ (λ x k. x ∷ programs.match k ∷ []) (ap₂ noted slot_is' last_is) p_is)) in
    record {
      whole = ap₂ (whole_code slots parts) states_is jobs_are
          ∙ ap₂ (λ x n. x ++ jobs_code slots parts back n) (map-append node_of before s) len
          ∙ append_assoc (map node_of before) (map node_of s) (jobs_code slots parts back (length before + 1))
          ∙ ap (λ x. map node_of before ++ x) code;
      size = ap₂ (λ x y. length x + jobs_size parts y) states_is jobs_are ∙ omega (arith, ap size_of at.is, len);
      valid = subst (All (IsJob parts)) (sym jobs_are) all_valid;
      reads = subst (All ReadsItsSet) (sym states_is) (All-append ReadsItsSet before s before_reads (All-cons ReadsItsSet (state.Capture slot one) [] first_reads (All-nil ReadsItsSet)));
    }
