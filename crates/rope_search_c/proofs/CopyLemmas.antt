-- Converted elements of a list, written to the start of a buffer, as many as fit.
use Rattle.std.proofs.Common.{◌≡◌, ℕ, ◌+◌, ◌<◌, ◌≤◌, List, [], ◌∷◌, ◌++◌, length, take, map, set, get_or, ap, sym, ◌∙◌, arith}
use Rattle.std.proofs.lemmas.List.{take_more, length-take-le, map-append, length-map}
use Rattle.rope_search_c.specs.Reading.{with_front}
use Rattle.rope_search_c.proofs.SpanLemmas.{with_front-in, with_front-out, length-with_front}

-- one more converted element, which fits
pub put-told-in : {A X : Type 0} (told : A → X) (from : List A) (i : ℕ) (d : A) (first out : List X) (x : X) → i < length from → x ≡ told (get_or from i d)
    → out ≡ with_front (map told (take i from)) first → i < length out → set out i x ≡ with_front (map told (take (i + 1) from)) first
put-told-in told from i d first out x inside is so fits =
    let done = map told (take i from) in
    let len : length done ≡ i = length-map (take i from) told ∙ length-take-le i from (omega (arith, inside)) in
    let more : done ++ x ∷ [] ≡ map told (take (i + 1) from) =
    ap (λ y. done ++ y ∷ []) is ∙ sym (ap (map told) (take_more from i d inside) ∙ map-append told (take i from) (get_or from i d ∷ [])) in
    ap (λ l. set l i x) so ∙ ap (λ n. set (with_front done first) n x) (sym len)
    ∙ with_front-in done first x (omega (arith, len, fits, ap length so, length-with_front done first)) ∙ ap (λ l. with_front l first) more

-- one for which there is no room
pub put-told-out : {A X : Type 0} (told : A → X) (from : List A) (i : ℕ) (d : A) (first out : List X) → i < length from
    → out ≡ with_front (map told (take i from)) first → length out ≤ i → out ≡ with_front (map told (take (i + 1) from)) first
put-told-out told from i d first out inside so full =
    let done = map told (take i from) in
    let len : length done ≡ i = length-map (take i from) told ∙ length-take-le i from (omega (arith, inside)) in
    let more : done ++ told (get_or from i d) ∷ [] ≡ map told (take (i + 1) from) =
    sym (ap (map told) (take_more from i d inside) ∙ map-append told (take i from) (get_or from i d ∷ [])) in
    so ∙ with_front-out done first (told (get_or from i d)) (omega (arith, len, full, ap length so, length-with_front done first)) ∙ ap (λ l. with_front l first) more
