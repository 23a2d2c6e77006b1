-- How far a search has got, from its start to its end.
use Rattle.std.proofs.Common.{◌≡◌, ℕ, zero, suc, ◌+◌, ◌≤◌, ◌<◌, List, [], ◌∷◌, ◌++◌, Option, None, refl, subst, arith}
use Rattle.rx_walks.specs.Machines.{Machine, Outcome, reads}
use Rattle.rx_walks.specs.Finds.{Search}
use Rattle.rx_walks.specs.Laws.{MayBegin}
use Rattle.rx_walks.specs.Steps.{Steps, done, passed, met, opened, read, Thins, thin_end, kept, either, Searches, over, started, stepped}
use Rattle.rx_steps.specs.Threads.{Slots, Thread}
use Rattle.rx_steps.specs.Coming.{HasCome}

all_kept : (seen : List (ℕ × ℕ)) (threads : List Thread) → Thins seen threads threads
all_kept seen [] = thin_end
all_kept seen ((n, q) ∷ threads) = kept (all_kept (q ∷ seen) threads)

pub begun : (m : Machine (ℕ × ℕ) Slots) (s : Search) (q : ℕ) (fresh : Slots) → HasCome m s q fresh s.start [] None
begun m s q fresh out rest = rest

-- there is no thread, and none starts
pub skipped : (m : Machine (ℕ × ℕ) Slots) (s : Search) (q : ℕ) (fresh : Slots) (i : ℕ) → (MayBegin s i → ⊥) → HasCome m s q fresh i [] None → HasCome m s q fresh (i + 1) [] None
skipped m s q fresh i never come out rest = come out (stepped (λ e b. never b) done thin_end rest)

-- no match begins at the next `k` offsets
pub skipped_all : (m : Machine (ℕ × ℕ) Slots) (s : Search) (q : ℕ) (fresh : Slots) (k i : ℕ) → ((j : ℕ) → i ≤ j → j < i + k → MayBegin s j → ⊥) → HasCome m s q fresh i [] None → HasCome m s q fresh (i + k) [] None
skipped_all m s q fresh zero i never come = subst (λ j. HasCome m s q fresh j [] None) (omega arith) come
skipped_all m s q fresh (suc k) i never come =
    let more : i + 1 + k ≡ i + suc k = omega arith in
    subst (λ j. HasCome m s q fresh j [] None) more
    (skipped_all m s q fresh k (i + 1) (λ j le lt. never j (omega (arith, le)) (omega (arith, lt))) (skipped m s q fresh i (never i (omega arith) (omega arith)) come))

-- a thread starts after the others, and all step
pub passed_with_start : (m : Machine (ℕ × ℕ) Slots) (s : Search) (q : ℕ) (fresh : Slots) (i : ℕ) (live next : List Thread) (ended : Option (Outcome Slots)) → MayBegin s i
    → Steps m i [] (live ++ (fresh, (q, 0)) ∷ []) next ended → HasCome m s q fresh i live None → HasCome m s q fresh (i + 1) next ended
passed_with_start m s q fresh i live next ended begins steps come out rest = come out (started begins steps (all_kept [] next) rest)

-- none starts
pub passed_on : (m : Machine (ℕ × ℕ) Slots) (s : Search) (q : ℕ) (fresh : Slots) (i : ℕ) (live next : List Thread) (before ended : Option (Outcome Slots)) → (before ≡ None → MayBegin s i → ⊥)
    → Steps m i [] live next ended → HasCome m s q fresh i live before → HasCome m s q fresh (i + 1) next (either ended before)
passed_on m s q fresh i live next before ended never steps come out rest = come out (stepped never steps (all_kept [] next) rest)

-- there is no thread, and none will start
pub is_over : (m : Machine (ℕ × ℕ) Slots) (s : Search) (q : ℕ) (fresh : Slots) (i : ℕ) (before : Option (Outcome Slots)) → (before ≡ None → (j : ℕ) → i ≤ j → MayBegin s j → ⊥) → HasCome m s q fresh i [] before
    → Searches m (MayBegin s) (λ j. fresh) (q, 0) s.start [] None before
is_over m s q fresh i before never come = come before (over never)

-- if no node reads, there is no thread at the next offset
pub none_read : {m : Machine (ℕ × ℕ) Slots} {i : ℕ} {seen : List (ℕ × ℕ)} {threads next : List Thread} {ended : Option (Outcome Slots)} → ((q r : ℕ × ℕ) → m.move i q ≡ reads r (i + 1) → ⊥) → Steps m i seen threads next ended → next ≡ []
none_read never done = refl
none_read never (passed c rest) = none_read never rest
none_read never (met new is) = refl
none_read never (opened rs new is rest) = none_read never rest
none_read never (read {q = q} r new is rest) = absurd (never q r is)
