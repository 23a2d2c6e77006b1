-- The threads that wait on a stack, from its top.
use Rattle.std.proofs.Common.{◌≡◌, ℕ, List, [], ◌∷◌, ◌++◌, set, reverse, Option, Some, slice_get, ap, ◌∙◌}
use Rattle.std.proofs.lemmas.List.{reverse-append}
use Rattle.rx_steps.specs.declared.pending.FollowEpsilon.{FollowEpsilon}
use Rattle.rx_steps.specs.declared.pending.FollowEpsilon.TheVariants.{RestoreCapture}
use Rattle.rx_steps.specs.Threads.{Slots}
use Rattle.rx_steps.specs.Frames.{waiting}
use Rattle.rx_steps.proofs.ThreadLaws.{put_back}

pub on_top : (slots : Slots) (stack : List FollowEpsilon) (frame : FollowEpsilon) → waiting slots (reverse (stack ++ frame ∷ [])) ≡ waiting slots (frame ∷ reverse stack)
on_top slots stack frame = ap (λ xs. waiting slots xs) (reverse-append stack (frame ∷ []))

-- a written slot gets its value back before the threads that wait
pub noted : (slots : Slots) (stack : List FollowEpsilon) (slot : ℕ) (held new : Option ℕ) → slice_get slots slot ≡ Some held
    → waiting (set slots slot new) (reverse (stack ++ RestoreCapture slot held ∷ [])) ≡ waiting slots (reverse stack)
noted slots stack slot held new e = on_top (set slots slot new) stack (RestoreCapture slot held) ∙ ap (λ xs. waiting xs (reverse stack)) (put_back slots slot held new e)
