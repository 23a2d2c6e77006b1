-- Threads one after another, and slots that are restored.
use Rattle.std.proofs.Common.{◌≡◌, ℕ, zero, suc, ◌+◌, ◌*◌, ◌<◌, ◌≤◌, List, [], ◌∷◌, ◌++◌, length, take, drop, set, get_or, Option, Some, None, slice_get, IsSomeAnd, refl, sym, ap, ap₂, subst, ◌∙◌, arith}
use Rattle.std.proofs.Math.Nat.{suc-mul}
use Rattle.std.proofs.lemmas.List.{drop-drop}
use Rattle.std.proofs.lemmas.Option.{slice_get-get_or}
use Rattle.rx_steps.specs.Threads.{Slots, Thread, no_slots, threads_of}
use Rattle.rx_steps.specs.Alike.{AreBare}

take_whole : (xs : Slots) (n : ℕ) → length xs ≡ n → take n xs ≡ xs
take_whole [] zero e = refl
take_whole [] (suc n) e = refl
take_whole (x ∷ xs) zero e = absurd (omega (arith, e))
take_whole (x ∷ xs) (suc n) e = ap (λ ys. x ∷ ys) (take_whole xs n (omega (arith, e)))

take_first : (xs ys : Slots) (n : ℕ) → n ≤ length xs → take n (xs ++ ys) ≡ take n xs
take_first xs ys zero le = refl
take_first [] ys (suc n) le = absurd (omega (arith, le))
take_first (x ∷ xs) ys (suc n) le = ap (λ zs. x ∷ zs) (take_first xs ys n (omega (arith, le)))

drop_first : (xs ys : Slots) (n : ℕ) → n ≤ length xs → drop n (xs ++ ys) ≡ drop n xs ++ ys
drop_first xs ys zero le = refl
drop_first [] ys (suc n) le = absurd (omega (arith, le))
drop_first (x ∷ xs) ys (suc n) le = drop_first xs ys n (omega (arith, le))

drop_len : (xs : Slots) (n m : ℕ) → length xs ≡ n + m → length (drop n xs) ≡ m
drop_len xs zero m e = omega (arith, e)
drop_len [] (suc n) m e = omega (arith, e)
drop_len (x ∷ xs) (suc n) m e = drop_len xs n m (omega (arith, e))

none_left : (xs : Slots) → length xs ≡ 0 → xs ≡ []
none_left [] e = refl
none_left (x ∷ xs) e = absurd (omega (arith, e))

pub thread_put : (n : ℕ) (nodes : List (ℕ × ℕ)) (slots own : Slots) (q : ℕ × ℕ) → length slots ≡ length nodes * n → length own ≡ n
    → threads_of n (nodes ++ q ∷ []) (slots ++ own) ≡ threads_of n nodes slots ++ (own, q) ∷ []
thread_put n [] slots own q e f =
    let none : slots ≡ [] = none_left slots (omega (arith, e)) in
    ap (λ xs. (take n (xs ++ own), q) ∷ []) none ∙ ap (λ xs. (xs, q) ∷ []) (take_whole own n f)
thread_put n (y ∷ nodes) slots own q e f =
    let more : length slots ≡ n + length nodes * n = omega (arith, e, suc-mul (length nodes) n) in
    let le : n ≤ length slots = omega (arith, more) in
    ap₂ (λ xs ts. (xs, y) ∷ ts) (take_first slots own n le)
    (ap (λ xs. threads_of n (nodes ++ q ∷ []) xs) (drop_first slots own n le)
    ∙ thread_put n nodes (drop n slots) own q (drop_len slots n (length nodes * n) more) f)

pub thread_len : (n : ℕ) (nodes : List (ℕ × ℕ)) (slots : Slots) → length (threads_of n nodes slots) ≡ length nodes
thread_len n [] slots = refl
thread_len n (y ∷ nodes) slots = ap (λ x. suc x) (thread_len n nodes (drop n slots))

pub thread_node : (n : ℕ) (nodes : List (ℕ × ℕ)) (slots : Slots) (k : ℕ) (x : Thread) (q : ℕ × ℕ) → k < length nodes → (get_or (threads_of n nodes slots) k x).1 ≡ get_or nodes k q
thread_node n [] slots k x q lt = absurd (omega (arith, lt))
thread_node n (y ∷ nodes) slots zero x q lt = refl
thread_node n (y ∷ nodes) slots (suc k) x q lt = thread_node n nodes (drop n slots) k x q (omega (arith, lt))

pub thread_slots : (n : ℕ) (nodes : List (ℕ × ℕ)) (slots : Slots) (k : ℕ) (x : Thread) → k < length nodes → (get_or (threads_of n nodes slots) k x).0 ≡ take n (drop (k * n) slots)
thread_slots n [] slots k x lt = absurd (omega (arith, lt))
thread_slots n (y ∷ nodes) slots zero x lt =
    let first : 0 ≡ 0 * n = omega arith in
    ap (λ j. take n (drop j slots)) first
thread_slots n (y ∷ nodes) slots (suc k) x lt =
    let further : n + k * n ≡ suc k * n = omega (arith, suc-mul k n) in
    thread_slots n nodes (drop n slots) k x (omega (arith, lt)) ∙ ap (λ xs. take n xs) (drop-drop (k * n) n slots ∙ ap (λ j. drop j slots) further)

-- the slots of a thread are inside the list
pub thread_room : (k n len : ℕ) → k < len → k * n + n ≤ len * n
thread_room k n zero lt = absurd (omega (arith, lt))
thread_room zero n (suc len) lt = omega (arith, suc-mul len n)
thread_room (suc k) n (suc len) lt = omega (arith, suc-mul k n, suc-mul len n, thread_room k n len (omega (arith, lt)))

pub more_slots : (len n slots own : ℕ) → slots ≡ len * n → own ≡ n → slots + own ≡ (len + 1) * n
more_slots len n slots own e f =
    let more : len + 1 ≡ suc len = omega arith in
    omega (arith, e, f, suc-mul len n) ∙ ap (λ m. m * n) (sym more)

-- a slot that is written and restored is unchanged
pub put_back : (slots : Slots) (slot : ℕ) (old new : Option ℕ) → slice_get slots slot ≡ Some old → set (set slots slot new) slot old ≡ slots
put_back [] slot old new e = absurd (cc e)
put_back (x ∷ slots) zero old new e = ap (λ y. y ∷ slots) (was e)
  where
    was : Some x ≡ Some old → old ≡ x
    was g = cc g
put_back (x ∷ slots) (suc slot) old new e = ap (λ ys. x ∷ ys) (put_back slots slot old new e)

one_more : (n : ℕ) → no_slots n ++ None ∷ [] ≡ no_slots (suc n)
one_more zero = refl
one_more (suc n) = ap (λ xs. None ∷ xs) (one_more n)

pub no_slots_more : (n : ℕ) → no_slots n ++ None ∷ [] ≡ no_slots (n + 1)
no_slots_more n =
    let more : suc n ≡ n + 1 = omega arith in
    one_more n ∙ ap no_slots more

-- without slots no thread has one
bare_threads : (nodes : List (ℕ × ℕ)) (slots : Slots) → AreBare (threads_of 0 nodes slots)
bare_threads [] slots = tt
bare_threads (q ∷ nodes) slots = (refl, bare_threads nodes slots)

pub none_has_slots : (n : ℕ) (nodes : List (ℕ × ℕ)) (slots : Slots) → n ≡ 0 → AreBare (threads_of n nodes slots)
none_has_slots n nodes slots e = subst (λ k. AreBare (threads_of k nodes slots)) (sym e) (bare_threads nodes slots)

-- no threads after the last
pub none_after : (xs : List Thread) (n : ℕ) → length xs ≤ n → drop n xs ≡ []
none_after [] zero le = refl
none_after [] (suc n) le = refl
none_after (x ∷ xs) zero le = absurd (omega (arith, le))
none_after (x ∷ xs) (suc n) le = none_after xs n (omega (arith, le))

one_left : (xs : List Thread) (n : ℕ) (x d : Thread) → n < length xs → get_or xs n d ≡ x → drop n xs ≡ x ∷ drop (suc n) xs
one_left [] n x d lt e = absurd (omega (arith, lt))
one_left (y ∷ xs) zero x d lt e = ap (λ z. z ∷ xs) e
one_left (y ∷ xs) (suc n) x d lt e = one_left xs n x d (omega (arith, lt)) e

-- a thread from its slots and its node
this : (x d : Thread) (slots : Slots) (q : ℕ × ℕ) → slots ≡ x.0 → q ≡ x.1 → x ≡ (slots, q)
this x d slots q e f = sym (ap₂ (λ s r. (s, r)) e f)

-- the slots and the node of the thread at an index
slots_of : (xs : List Thread) (n : ℕ) (slots : Slots) → n < length xs → IsSomeAnd (slice_get xs n) (λ t. slots ≡ t.0) → (d : Thread) → slots ≡ (get_or xs n d).0
slots_of xs n slots lt h d = subst (λ o. IsSomeAnd o (λ t. slots ≡ t.0)) (slice_get-get_or xs n d lt) h

pub node_of : (xs : List Thread) (n : ℕ) (q : ℕ × ℕ) → n < length xs → IsSomeAnd (slice_get xs n) (λ t. q ≡ t.1) → (d : Thread) → q ≡ (get_or xs n d).1
node_of xs n q lt h d = subst (λ o. IsSomeAnd o (λ t. q ≡ t.1)) (slice_get-get_or xs n d lt) h

pub has_slots : (xs : List Thread) (n : ℕ) (slots : Slots) → n < length xs → ((d : Thread) → slots ≡ (get_or xs n d).0) → IsSomeAnd (slice_get xs n) (λ t. slots ≡ t.0)
has_slots xs n slots lt e =
    let d : Thread = (slots, (0, 0)) in
    subst (λ o. IsSomeAnd o (λ t. slots ≡ t.0)) (sym (slice_get-get_or xs n d lt)) (e d)

pub has_node : (xs : List Thread) (n : ℕ) (q : ℕ × ℕ) → n < length xs → ((d : Thread) → q ≡ (get_or xs n d).1) → IsSomeAnd (slice_get xs n) (λ t. q ≡ t.1)
has_node xs n q lt e =
    let d : Thread = ([], q) in
    subst (λ o. IsSomeAnd o (λ t. q ≡ t.1)) (sym (slice_get-get_or xs n d lt)) (e d)

-- the first of the threads from an index on
pub first_after : (xs : List Thread) (n : ℕ) (slots : Slots) (q : ℕ × ℕ) → n < length xs → IsSomeAnd (slice_get xs n) (λ t. slots ≡ t.0) → IsSomeAnd (slice_get xs n) (λ t. q ≡ t.1)
    → drop n xs ≡ (slots, q) ∷ drop (n + 1) xs
first_after xs n slots q lt e f =
    let d : Thread = (slots, q) in
    let more : suc n ≡ n + 1 = omega arith in
    one_left xs n (slots, q) d lt (this (get_or xs n d) d slots q (slots_of xs n slots lt e d) (node_of xs n q lt f d)) ∙ ap (λ k. (slots, q) ∷ drop k xs) more
