-- The jobs of repetitions.
use Rattle.std.proofs.Common.{◌≡◌, ℕ, zero, suc, ◌+◌, ◌-◌, ◌*◌, ◌<◌, ◌≤◌, Bool, true, false, List, [], ◌∷◌, ◌++◌, length, ◌⊎◌, inl, inr, Option, Some, None, refl, sym, ap, subst, ◌∙◌, arith}
use Rattle.rx_grammar.specs.declared.hir.Repetition.{Repetition}
use Rattle.rx_grammar.specs.Trees.{Tree, repeated}
use Rattle.rx_grammar.specs.Weights.{may_be_empty, size_of, repeated_weight}
use Rattle.rx_program.specs.declared.states.State.{State}
use Rattle.rx_program.specs.declared.compiler.Job.{Job}
use Rattle.rx_program.specs.declared.compiler.Job.TheVariants as job
use Rattle.rx_program.specs.Code.{entry_of, fork}
use Rattle.rx_program.specs.Programs.{node_of, ReadsItsSet}
use Rattle.rx_program.specs.Jobs.{part_at, JobIsDone, DoesJob}
use Rattle.rx_program.proofs.TimesLaws.{does_times, does_loop, does_optional_loop, does_from}
use Rattle.rx_program.proofs.DoneLaws.{done, pushed_two, no_more}

-- what is repeated has no more nodes than the repetition
some_least : (n : ℕ) (most : Option ℕ) (s : ℕ) (may : Bool) → (most ≡ Some 0) ⊎ (s ≤ repeated_weight n most s may)
some_least n (Some zero) s may = inl refl
some_least zero (Some (suc m)) s may = let e : suc m - 0 ≡ suc m = omega arith in inr (omega (arith, ap (λ k. k * (1 + s)) e))
some_least (suc n) (Some (suc m)) s may = inr (omega arith)
some_least zero None s false = inr (omega arith)
some_least zero None s true = inr (omega arith)
some_least (suc n) None s may = inr (omega arith)

pub part_fits : (rep : Repetition) (tree : Tree) (most : ℕ) → rep.max ≡ Some most → 0 < most → size_of tree ≤ size_of (repeated rep tree)
part_fits rep tree most e some = elim (some_least rep.min rep.max (size_of tree) (may_be_empty tree)) [
  | inl none ↦ let same : most ≡ 0 = cc (e, none) in absurd (omega (arith, some, same))
  | inr le ↦ le
]

pub part_fits_on : (rep : Repetition) (tree : Tree) → rep.max ≡ None → size_of tree ≤ size_of (repeated rep tree)
part_fits_on rep tree e = elim (some_least rep.min rep.max (size_of tree) (may_be_empty tree)) [
  | inl none ↦ absurd (cc (e, none))
  | inr le ↦ le
]

module _ {slots : ℕ} (parts : List Tree) (states : List State) (jobs one two : List Job) (root next : ℕ) (rep : Repetition) (is : part_at parts (root + 1) ≡ repeated rep (part_at parts root)) (below : root < length parts) where
  pub times_done : (most on further : ℕ) → rep.max ≡ Some most → 0 < most → further ≡ most - rep.min → on ≡ entry_of further (length states + rep.min * size_of (part_at parts root)) next
      → one ≡ jobs ++ job.Optional rep.greedy further root next ∷ [] → two ≡ one ++ job.Copies rep.min root on ∷ [] → DoesJob slots parts (job.Part (root + 1) next) states states jobs two
  times_done most on further e some further_is on_is f g =
      let t = part_at parts root in
      let on_is' : on ≡ entry_of (most - rep.min) (length states + rep.min * size_of t) next = on_is ∙ ap (λ n. entry_of n (length states + rep.min * size_of t) next) further_is in
      let does = does_times parts (length states) (root + 1) root next rep t is refl below most on e some on_is' in
      done [] (job.Copies rep.min root on ∷ job.Optional rep.greedy further root next ∷ []) (no_more states)
      (pushed_two jobs one two (job.Optional rep.greedy further root next) (job.Copies rep.min root on) f g)
      (subst (λ n. JobIsDone slots parts (length states) (job.Part (root + 1) next) [] (job.Copies rep.min root on ∷ job.Optional rep.greedy n root next ∷ [])) (sym further_is) does)

  pub from_done : (last end : ℕ) (back : State) → rep.max ≡ None → 0 < rep.min → last ≡ length states + (rep.min - 1) * size_of (part_at parts root) → end ≡ length states + rep.min * size_of (part_at parts root)
      → node_of back ≡ fork rep.greedy last next → ReadsItsSet back → one ≡ jobs ++ job.State back ∷ [] → two ≡ one ++ job.Copies rep.min root end ∷ [] → DoesJob slots parts (job.Part (root + 1) next) states states jobs two
  from_done last end back e some last_is end_is node reads f g =
      let t = part_at parts root in
      let n = rep.min - 1 in
      let min_is : rep.min ≡ suc n = omega (arith, some) in
      let end_is' : end ≡ length states + suc n * size_of t = end_is ∙ ap (λ k. length states + k * size_of t) min_is in
      let does = does_from parts (length states) (root + 1) root next rep t is refl below n end back e min_is (node ∙ ap (λ k. fork rep.greedy k next) last_is) end_is' reads in
      done [] (job.Copies rep.min root end ∷ job.State back ∷ []) (no_more states) (pushed_two jobs one two (job.State back) (job.Copies rep.min root end) f g)
      (subst (λ k. JobIsDone slots parts (length states) (job.Part (root + 1) next) [] (job.Copies k root end ∷ job.State back ∷ [])) (sym min_is) does)

  pub optional_loop_done : (more : List State) (s back : State) (on : ℕ) → rep.max ≡ None → rep.min ≡ 0 → may_be_empty (part_at parts root) ≡ true → node_of s ≡ fork rep.greedy (length states + 1) next
      → node_of back ≡ fork rep.greedy (length states + 1) next → on ≡ length states + 1 + size_of (part_at parts root) → ReadsItsSet s → ReadsItsSet back
      → more ≡ states ++ s ∷ [] → one ≡ jobs ++ job.State back ∷ [] → two ≡ one ++ job.Part root on ∷ [] → DoesJob slots parts (job.Part (root + 1) next) states more jobs two
  optional_loop_done more s back on e none may node node' on_is reads reads' more_is f g =
      done (s ∷ []) (job.Part root on ∷ job.State back ∷ []) more_is (pushed_two jobs one two (job.State back) (job.Part root on) f g)
      (does_optional_loop parts (length states) (root + 1) root next rep (part_at parts root) is refl below s back on e none may node node' on_is reads reads')

  pub loop_done : (more : List State) (s : State) (at : ℕ) → rep.max ≡ None → rep.min ≡ 0 → may_be_empty (part_at parts root) ≡ false → node_of s ≡ fork rep.greedy (length states + 1) next → ReadsItsSet s
      → at ≡ length states → more ≡ states ++ s ∷ [] → one ≡ jobs ++ job.Part root at ∷ [] → DoesJob slots parts (job.Part (root + 1) next) states more jobs one
  loop_done more s at e none never node reads at_is more_is f =
      done (s ∷ []) (job.Part root at ∷ []) more_is f
      (subst (λ k. JobIsDone slots parts (length states) (job.Part (root + 1) next) (s ∷ []) (job.Part root k ∷ [])) (sym at_is)
      (does_loop parts (length states) (root + 1) root next rep (part_at parts root) is refl below s e none never node reads))
