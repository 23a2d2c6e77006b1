-- Thinned threads.
use Rattle.std.proofs.Common.{◌≡◌, ℕ, ◌+◌, ◌≤◌, length, arith, List, [], ◌∷◌, ◌++◌, Option, Some, None, Bool, true, false, refl, sym, ap, subst}
use Rattle.std.proofs.lemmas.List.{append_assoc, append-nil, length-append}
use Rattle.rx_walks.specs.Steps.{Thins, thin_end, kept, left_out}
use Rattle.rx_steps.specs.Nodes.{index_from, IsInserted, IsMember}
use Rattle.rx_steps.specs.Threads.{Slots, Thread}
use Rattle.rx_steps.specs.Lists.{IsThinning, Tells}
use Rattle.rx_steps.proofs.FollowLaws.{tells_more, tells_outside}

-- there was one at its node before
pub thin_passed : (threads : List Thread) (widths ids : List ℕ) (slots : Slots) (q : ℕ × ℕ) (others out : List Thread) (o : Option ℕ) → index_from 0 widths q.0 q.1 ≡ o → IsMember o true ids
    → IsThinning threads widths ids ((slots, q) ∷ others) out → IsThinning threads widths ids others out
thin_passed threads widths ids slots q others out None at is way = absurd (cc is)
thin_passed threads widths ids slots q others out (Some k) at is way = record {
  seen = way.seen;
  tells = way.tells;
  so_far = λ rest thins. way.so_far rest (left_out ((way.tells q k at).1 (is.0 refl)) thins);
}

-- there was none: the node is seen from now on
told_more : (widths ids ids' : List ℕ) (seen : List (ℕ × ℕ)) (q : ℕ × ℕ) (o : Option ℕ) (is_new : Bool) → index_from 0 widths q.0 q.1 ≡ o → IsMember o false ids → IsInserted o is_new ids ids' → Tells widths ids seen → Tells widths ids' (q ∷ seen)
told_more widths ids ids' seen q None is_new at is put tells = subst (λ xs. Tells widths xs (q ∷ seen)) (sym put.1) (tells_outside widths ids seen q at tells)
told_more widths ids ids' seen q (Some k) true at is put tells = subst (λ xs. Tells widths xs (q ∷ seen)) (sym put.1) (tells_more widths ids seen q k at tells)
told_more widths ids ids' seen q (Some k) false at is put tells = absurd (cc (is.1 put.0))

pub thin_kept : (threads : List Thread) (widths ids ids' : List ℕ) (slots : Slots) (q : ℕ × ℕ) (others out : List Thread) (is_new : Bool) → IsMember (index_from 0 widths q.0 q.1) false ids
    → IsInserted (index_from 0 widths q.0 q.1) is_new ids ids' → IsThinning threads widths ids ((slots, q) ∷ others) out → IsThinning threads widths ids' others (out ++ (slots, q) ∷ [])
thin_kept threads widths ids ids' slots q others out is_new is put way = record {
  seen = q ∷ way.seen;
  tells = told_more widths ids ids' way.seen q (index_from 0 widths q.0 q.1) is_new refl is put way.tells;
  so_far = λ rest thins. subst (λ xs. Thins [] threads xs) (sym (append_assoc out ((slots, q) ∷ []) rest)) (way.so_far ((slots, q) ∷ rest) (kept thins));
}

pub thin_done : (threads : List Thread) (widths ids : List ℕ) (out : List Thread) → IsThinning threads widths ids [] out → Thins [] threads out
thin_done threads widths ids out way = subst (λ xs. Thins [] threads xs) (append-nil out) (way.so_far [] thin_end)

pub few_more : (o : Option ℕ) (is_new : Bool) (ids ids' : List ℕ) → IsInserted o is_new ids ids' → length ids' ≤ length ids + 1
few_more None is_new ids ids' put = omega (arith, ap length put.1)
few_more (Some k) true ids ids' put = omega (arith, ap length put.1, length-append ids (k ∷ []))
few_more (Some k) false ids ids' put = omega (arith, ap length put.1)
