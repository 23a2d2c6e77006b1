-- Doing job after job.
use Rattle.std.proofs.Common.{◌≡◌, ℕ, ◌+◌, ◌<◌, List, [], ◌∷◌, ◌++◌, length, map, reverse, append_assoc, refl, sym, ap, ap₂, ◌∙◌, arith, length-append}
use Rattle.std.specs.List.{All}
use Rattle.std.proofs.lemmas.List.{reverse-append, map-append}
use Rattle.std.proofs.lemmas.List.Elements.{All-append, All-same, All-push, All-head, All-tail}
use Rattle.rx_grammar.specs.Trees.{Tree}
use Rattle.rx_program.specs.declared.states.State.{State}
use Rattle.rx_program.specs.declared.compiler.Job.{Job}
use Rattle.rx_program.specs.Code.{Code}
use Rattle.rx_program.specs.Programs.{node_of, ReadsItsSet}
use Rattle.rx_program.specs.Jobs.{IsJob, job_code, job_size, jobs_code, jobs_size, jobs_work, DoesJob}

-- concatenated jobs
pub jobs_code-append : (slots : ℕ) (parts : List Tree) (first second : List Job) (at : ℕ) → jobs_code slots parts (first ++ second) at ≡ jobs_code slots parts first at ++ jobs_code slots parts second (at + jobs_size parts first)
jobs_code-append slots parts [] second at = ap (jobs_code slots parts second) (omega arith)
jobs_code-append slots parts (job ∷ first) second at =
    let next = at + job_size parts job in
    let shifted : next + jobs_size parts first ≡ at + (job_size parts job + jobs_size parts first) = omega arith in
    ap (λ x. job_code slots parts job at ++ x) (jobs_code-append slots parts first second next ∙ ap (λ n. jobs_code slots parts first next ++ jobs_code slots parts second n) shifted)
    ∙ sym (append_assoc (job_code slots parts job at) (jobs_code slots parts first next) (jobs_code slots parts second (at + (job_size parts job + jobs_size parts first))))

pub jobs_size-append : (parts : List Tree) (first second : List Job) → jobs_size parts (first ++ second) ≡ jobs_size parts first + jobs_size parts second
jobs_size-append parts [] second = omega arith
jobs_size-append parts (job ∷ first) second = omega (arith, jobs_size-append parts first second)

pub jobs_work-append : (parts : List Tree) (first second : List Job) → jobs_work parts (first ++ second) ≡ jobs_work parts first + jobs_work parts second
jobs_work-append parts [] second = omega arith
jobs_work-append parts (job ∷ first) second = omega (arith, jobs_work-append parts first second)

pub jobs_work-reverse : (parts : List Tree) (jobs : List Job) → jobs_work parts (reverse jobs) ≡ jobs_work parts jobs
jobs_work-reverse parts [] = refl
jobs_work-reverse parts (job ∷ jobs) =
    let e = ap (jobs_work parts) (reverse-append (job ∷ []) jobs) ∙ jobs_work-append parts (reverse jobs) (job ∷ []) in
    omega (arith, e, jobs_work-reverse parts jobs)

-- the code of the states and of the jobs that are left, the last one of them first
abbrev pub whole_code : ℕ → List Tree → List State → List Job → Code
whole_code slots parts states jobs = map node_of states ++ jobs_code slots parts (reverse jobs) (length states)

reverse_twice : {X : Type 0} (xs : List X) → reverse (reverse xs) ≡ xs
reverse_twice [] = refl
reverse_twice (x ∷ xs) = ap reverse (reverse-append (x ∷ []) xs) ∙ reverse-append (reverse xs) (x ∷ []) ∙ ap (λ ys. x ∷ ys) (reverse_twice xs)

-- a job that is done doesn't change the whole
pub whole_kept : {slots : ℕ} (parts : List Tree) (job : Job) (states more : List State) (jobs left : List Job) → DoesJob slots parts job states more jobs left
    → whole_code slots parts more left ≡ whole_code slots parts states (jobs ++ job ∷ [])
whole_kept {slots = slots} parts job states more jobs left done =
    let e = done.emitted in
    let p = done.pushed in
    let at = length states in
    let on = length (states ++ e) in
    let len : on ≡ at + length e = length-append states e in
    let turned : reverse (jobs ++ reverse p) ≡ p ++ reverse jobs = reverse-append jobs (reverse p) ∙ ap (λ x. x ++ reverse jobs) (reverse_twice p) in
    let back : reverse (jobs ++ job ∷ []) ≡ job ∷ reverse jobs = reverse-append jobs (job ∷ []) in
    let end : (at + length e) + jobs_size parts p ≡ at + job_size parts job = omega (arith, done.does.size) in
    ap₂ (whole_code slots parts) done.states_are done.jobs_are
    ∙ ap₂ (λ x y. x ++ jobs_code slots parts y on) (map-append node_of states e) turned
    ∙ ap (λ n. (map node_of states ++ map node_of e) ++ jobs_code slots parts (p ++ reverse jobs) n) len
    ∙ ap (λ x. (map node_of states ++ map node_of e) ++ x) (jobs_code-append slots parts p (reverse jobs) (at + length e) ∙ ap (λ n. jobs_code slots parts p (at + length e) ++ jobs_code slots parts (reverse jobs) n) end)
    ∙ append_assoc (map node_of states) (map node_of e) _
    ∙ ap (λ x. map node_of states ++ x) (sym (append_assoc (map node_of e) (jobs_code slots parts p (at + length e)) _) ∙ ap (λ x. x ++ jobs_code slots parts (reverse jobs) (at + job_size parts job)) (sym done.does.code))
    ∙ ap (λ x. map node_of states ++ jobs_code slots parts x at) (sym back)

-- and is less work
pub work_falls : {slots : ℕ} (parts : List Tree) (job : Job) (states more : List State) (jobs left : List Job) → DoesJob slots parts job states more jobs left
    → jobs_work parts left < jobs_work parts (jobs ++ job ∷ [])
work_falls parts job states more jobs left done =
    let a = ap (jobs_work parts) done.jobs_are ∙ jobs_work-append parts jobs (reverse done.pushed) in
    let b = jobs_work-reverse parts done.pushed in
    let c = jobs_work-append parts jobs (job ∷ []) in
    omega (arith, a, b, c, done.does.work)

jobs_size-reverse : (parts : List Tree) (jobs : List Job) → jobs_size parts (reverse jobs) ≡ jobs_size parts jobs
jobs_size-reverse parts [] = refl
jobs_size-reverse parts (job ∷ jobs) =
    let e = ap (jobs_size parts) (reverse-append (job ∷ []) jobs) ∙ jobs_size-append parts (reverse jobs) (job ∷ []) in
    omega (arith, e, jobs_size-reverse parts jobs)

-- the size of the whole is kept
pub size_kept : {slots : ℕ} (parts : List Tree) (job : Job) (states more : List State) (jobs left : List Job) → DoesJob slots parts job states more jobs left
    → length more + jobs_size parts left ≡ length states + jobs_size parts (jobs ++ job ∷ [])
size_kept parts job states more jobs left done =
    let a = ap (jobs_size parts) done.jobs_are ∙ jobs_size-append parts jobs (reverse done.pushed) in
    let b = jobs_size-reverse parts done.pushed in
    let c = jobs_size-append parts jobs (job ∷ []) in
    let d = ap length done.states_are ∙ length-append states done.emitted in
    omega (arith, a, b, c, d, done.does.size)

All-reverse : {X : Type 0} (P : X → Type 0) (xs : List X) → All P xs → All P (reverse xs)
All-reverse P [] all = all
All-reverse P (x ∷ xs) all = All-same P (reverse (x ∷ xs)) (reverse xs ++ x ∷ []) (reverse-append (x ∷ []) xs) (All-push P (reverse xs) x (All-reverse P xs (All-tail P x xs all)) (All-head P x xs all))

pub valid_kept : {slots : ℕ} (parts : List Tree) (job : Job) (states more : List State) (jobs left : List Job) → DoesJob slots parts job states more jobs left → All (IsJob parts) jobs → All (IsJob parts) left
valid_kept parts job states more jobs left done all =
    All-same (IsJob parts) left (jobs ++ reverse done.pushed) done.jobs_are (All-append (IsJob parts) jobs (reverse done.pushed) all (All-reverse (IsJob parts) done.pushed done.does.jobs))

pub reads_kept : {slots : ℕ} (parts : List Tree) (job : Job) (states more : List State) (jobs left : List Job) → DoesJob slots parts job states more jobs left → All ReadsItsSet states → All ReadsItsSet more
reads_kept parts job states more jobs left done all =
    All-same ReadsItsSet more (states ++ done.emitted) done.states_are (All-append ReadsItsSet states done.emitted all done.does.reads)

-- the greatest number of states of a job
pub job_fits : (parts : List Tree) (job : Job) (jobs : List Job) → jobs_size parts (jobs ++ job ∷ []) ≡ jobs_size parts jobs + job_size parts job
job_fits parts job jobs = omega (arith, jobs_size-append parts jobs (job ∷ []))
