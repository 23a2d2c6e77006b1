-- The jobs of the compiler. `parts` are the parts of a tree, each after those below it; the slots
-- of its group k are `slots` + 2 k and the one after it.
use Rattle.std.specs.Prelude.{◌≡◌, ℕ, zero, suc, ◌+◌, ◌-◌, ◌*◌, ◌<◌, Bool, List, [], ◌∷◌, ◌++◌, length, map, reverse, get_or, All, Option, Some, None}
use Rattle.rx_grammar.specs.Trees.{Tree, Trees, empty, one_of, look_at, group, concat, alternation, repeated, two, more}
use Rattle.rx_grammar.specs.Subtrees.{subtrees_of}
use Rattle.rx_grammar.specs.Weights.{may_be_empty, size_of}
use Rattle.rx_program.specs.declared.states.State.{State}
use Rattle.rx_program.specs.declared.compiler.Job.{Job}
use Rattle.rx_program.specs.declared.compiler.Job.TheVariants as job
use Rattle.rx_program.specs.Code.{Code, entry_of, copies, optional, code_of}
use Rattle.rx_program.specs.Programs.{node_of, ReadsItsSet}

-- the part with this root
abbrev pub part_at : List Tree → ℕ → Tree
part_at parts root = get_or parts root empty

-- `count` parts in sequence, up to the one with this root
abbrev pub trees_before : List Tree → ℕ → ℕ → List Tree
trees_before parts zero root = []
trees_before parts (suc count) root =
    trees_before parts count (root - length (subtrees_of (part_at parts root)))
    ++ part_at parts root ∷ []

abbrev pub sizes_of : List Tree → ℕ
sizes_of [] = 0
sizes_of (tree ∷ trees) = size_of tree + sizes_of trees

-- trees in sequence, and alternative trees
abbrev pub in_row : ℕ → List Tree → ℕ → ℕ → Code
in_row slots [] at next = []
in_row slots (tree ∷ trees) at next =
    code_of slots tree at (entry_of (length trees) (at + size_of tree) next)
    ++ in_row slots trees (at + size_of tree) next

abbrev pub in_branches : ℕ → List Tree → ℕ → ℕ → Code
in_branches slots [] at next = []
in_branches slots (tree ∷ trees) at next =
    code_of slots tree at next ++ in_branches slots trees (at + size_of tree) next

abbrev pub starts_of : List Tree → ℕ → List ℕ
starts_of [] at = []
starts_of (tree ∷ trees) at = at ∷ starts_of trees (at + size_of tree)

-- the code of a job
abbrev pub job_code : ℕ → List Tree → Job → ℕ → Code
job_code slots parts (job.Part root next) at = code_of slots (part_at parts root) at next
job_code slots parts (job.State state) at = node_of state ∷ []
job_code slots parts (job.Row count root size next) at =
    in_row slots (trees_before parts count root) at next
job_code slots parts (job.Branches count root next) at =
    in_branches slots (trees_before parts count root) at next
job_code slots parts (job.Copies count root next) at =
    copies (size_of (part_at parts root)) (code_of slots (part_at parts root)) count at next
job_code slots parts (job.Optional greedy count root next) at =
    optional greedy (size_of (part_at parts root)) (code_of slots (part_at parts root)) count at
    next

-- its size
abbrev pub job_size : List Tree → Job → ℕ
job_size parts (job.Part root next) = size_of (part_at parts root)
job_size parts (job.State state) = 1
job_size parts (job.Row count root size next) = sizes_of (trees_before parts count root)
job_size parts (job.Branches count root next) = sizes_of (trees_before parts count root)
job_size parts (job.Copies count root next) = count * size_of (part_at parts root)
job_size parts (job.Optional greedy count root next) = count * (1 + size_of (part_at parts root))

-- the code of jobs, the first one of the list first
abbrev pub jobs_code : ℕ → List Tree → List Job → ℕ → Code
jobs_code slots parts [] at = []
jobs_code slots parts (job ∷ jobs) at =
    job_code slots parts job at ++ jobs_code slots parts jobs (at + job_size parts job)

abbrev pub jobs_size : List Tree → List Job → ℕ
jobs_size parts [] = 0
jobs_size parts (job ∷ jobs) = job_size parts job + jobs_size parts jobs

-- there are `count` parts in sequence before a root
abbrev pub HasPartsBefore : List Tree → ℕ → ℕ → Type 0
HasPartsBefore parts zero root = Unit {0}
HasPartsBefore parts (suc count) root = (root < length parts)
    × HasPartsBefore parts count (root - length (subtrees_of (part_at parts root)))

-- a job's root is one of the parts, and the size of a row is right
abbrev pub IsJob : List Tree → Job → Type 0
IsJob parts (job.Part root next) = root < length parts
IsJob parts (job.State state) = ReadsItsSet state
IsJob parts (job.Row count root size next) =
    HasPartsBefore parts count root × (size ≡ sizes_of (trees_before parts count root))
IsJob parts (job.Branches count root next) = HasPartsBefore parts count root
IsJob parts (job.Copies count root next) = root < length parts
IsJob parts (job.Optional greedy count root next) = root < length parts

-- an upper bound on the number of jobs for a tree
abbrev pub repetition_work : ℕ → Option ℕ → ℕ → Bool → ℕ
repetition_work n (Some zero) work may = 0
repetition_work n (Some (suc m)) work may =
    (n * (1 + work) + 1) + ((suc m - n) * (1 + work) + 1)
repetition_work zero None work may = work + 1
repetition_work (suc n) None work may = suc n * (1 + work) + 2

abbrev mutual
  pub work_of : Tree → ℕ
  work_of empty = 1
  work_of (one_of ranges) = 1
  work_of (look_at look) = 1
  work_of (group number name tree) = work_of tree + 2
  work_of (concat trees) = all_work_of trees + 2
  work_of (alternation trees) = all_work_of trees + 2
  work_of (repeated repetition tree) =
      repetition_work repetition.min repetition.max (work_of tree) (may_be_empty tree) + 1

  pub all_work_of : Trees → ℕ
  all_work_of (two first second) = work_of first + work_of second + 2
  all_work_of (more first others) = work_of first + all_work_of others + 1

abbrev pub row_work : List Tree → ℕ
row_work [] = 1
row_work (tree ∷ trees) = work_of tree + 1 + row_work trees

abbrev pub job_work : List Tree → Job → ℕ
job_work parts (job.Part root next) = work_of (part_at parts root)
job_work parts (job.State state) = 1
job_work parts (job.Row count root size next) = row_work (trees_before parts count root)
job_work parts (job.Branches count root next) = row_work (trees_before parts count root)
job_work parts (job.Copies count root next) = count * (1 + work_of (part_at parts root)) + 1
job_work parts (job.Optional greedy count root next) =
    count * (1 + work_of (part_at parts root)) + 1

abbrev pub jobs_work : List Tree → List Job → ℕ
jobs_work parts [] = 0
jobs_work parts (job ∷ jobs) = job_work parts job + jobs_work parts jobs

-- these emitted states and pushed jobs, the first one first, do a job: together they have its code,
-- and the jobs are less work
pub record JobIsDone (slots : ℕ) (parts : List Tree) (at : ℕ) (job : Job) (emitted : List State)
    (pushed : List Job) : Type 0 where
  pub code : job_code slots parts job at
      ≡ map node_of emitted ++ jobs_code slots parts pushed (at + length emitted)
  pub size : job_size parts job ≡ length emitted + jobs_size parts pushed
  pub work : jobs_work parts pushed < job_work parts job
  pub jobs : All (IsJob parts) pushed
  pub reads : All ReadsItsSet emitted

-- states and jobs were added that do a job
pub record DoesJob (slots : ℕ) (parts : List Tree) (job : Job) (states more : List State)
    (jobs left : List Job) : Type 0 where
  pub emitted : List State
  pub pushed : List Job
  pub states_are : more ≡ states ++ emitted
  pub jobs_are : left ≡ jobs ++ reverse pushed
  pub does : JobIsDone slots parts (length states) job emitted pushed
