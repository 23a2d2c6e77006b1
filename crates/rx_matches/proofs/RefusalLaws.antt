-- The errors of the searches for the halves are those of the whole search.
use Rattle.std.proofs.Common.{◌≡◌, ℕ, false, Result, Ok, Err, IfErr, refl}
use Rattle.rx_util.specs.declared.search.MatchError.{MatchError}
use Rattle.rx_util.specs.declared.search.MatchError.TheVariants as error
use Rattle.rx_walks.specs.Backward.{anchored_as, back_from}
use Rattle.rx_walks.specs.Finds.{Anchoring, Search, unanchored, anchored, anchored_pattern, is_anchored}
use Rattle.rx_steps.specs.Reversed.{IsRefusalBack}

pub if_err : {A E : Type 0} {P Q : E → Type 0} (r : Result A E) → ((e : E) → P e → Q e) → IfErr r P → IfErr r Q
if_err (Ok x) f h = h
if_err (Err e) f h = f e h

as_anchored : (a : Anchoring) → is_anchored (anchored_as a) ≡ false → ⊥
as_anchored unanchored e = cc e
as_anchored anchored e = cc e
as_anchored (anchored_pattern k) e = cc e

-- a backward search from the end of a find fails only out of memory
pub back_memory : (s : Search) (end : ℕ) (e : MatchError) → IsRefusalBack (back_from s end) e → e ≡ error.Memory
back_memory s end error.Memory why = refl
back_memory s end (error.Quit b i) why = absurd why
back_memory s end (error.GaveUp i) why = absurd why
back_memory s end (error.UnsupportedAnchored mode) why = absurd (as_anchored s.anchoring why.1)
