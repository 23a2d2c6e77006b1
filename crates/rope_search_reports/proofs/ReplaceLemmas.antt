-- A list in which a part is replaced.
use Rattle.std.proofs.Common.{◌≡◌, ℕ, ◌+◌, ◌-◌, ◌<◌, ◌≤◌, List, ◌++◌, length, take, drop, ap, ◌∙◌, arith, length-append, length-take, length-drop}
use Rattle.std.proofs.Math.Seq.{take-append_seam, drop-append_seam, drop-append-add}
use Rattle.std.proofs.lemmas.List.{take_all, take-append-le, drop-append-le, drop-drop}

-- the rows after the index go after the inserted ones
pub inserted : {A : Type 0} (rows made all : List A) (at behind : ℕ) → at ≤ length rows → all ≡ rows ++ made → behind ≡ length rows - at
    → take at all ++ drop (at + behind) all ++ take behind (drop at all) ≡ take at rows ++ made ++ drop at rows
inserted rows made all at behind within joined behind-is =
    let first : take at all ≡ take at rows = ap (take at) joined ∙ take-append-le at rows made within in
    let place : at + behind ≡ length rows = omega (arith, behind-is, within) in
    let second : drop (at + behind) all ≡ made = ap (λ n. drop n all) place ∙ ap (drop (length rows)) joined ∙ drop-append_seam rows made in
    let rest : drop at all ≡ drop at rows ++ made = ap (drop at) joined ∙ drop-append-le at rows made within in
    let count : behind ≡ length (drop at rows) = omega (arith, behind-is, length-drop at rows) in
    let third : take behind (drop at all) ≡ drop at rows =
    ap (λ n. take n (drop at all)) count ∙ ap (take (length (drop at rows))) rest ∙ take-append_seam (drop at rows) made in
    ap (λ t. t ++ drop (at + behind) all ++ take behind (drop at all)) first ∙ ap (λ t. take at rows ++ t ++ take behind (drop at all)) second
    ∙ ap (λ t. take at rows ++ made ++ t) third

-- the inserted rows, and the rows after the removed ones
pub removed : {A : Type 0} (rows made all : List A) (first end count : ℕ) → first ≤ end → end ≤ length rows → count ≡ length made → count < end - first
    → all ≡ take first rows ++ take count made ++ drop (first + count) rows
    → take (first + count) all ++ drop (first + count + (end - first - count)) all ≡ take first rows ++ made ++ drop end rows
removed rows made all first end count ordered within counted less swapped =
    let front = take first rows ++ made in
    let behind = drop (first + count) rows in
    let own : take count made ≡ made = take_all count made (omega (arith, counted)) in
    let joined : all ≡ front ++ behind = swapped ∙ ap (λ t. take first rows ++ t ++ behind) own in
    let long : first + count ≡ length front = omega (arith, ordered, within, counted, length-append (take first rows) made, length-take first rows) in
    let begins : take (first + count) all ≡ front =
    ap (λ n. take n all) long ∙ ap (take (length front)) joined ∙ take-append_seam front behind in
    let place : first + count + (end - first - count) ≡ length front + (end - first - count) = omega (arith, long) in
    let to : first + count + (end - first - count) ≡ end = omega (arith, ordered, less) in
    let ends : drop (first + count + (end - first - count)) all ≡ drop end rows =
    ap (λ n. drop n all) place ∙ ap (drop (length front + (end - first - count))) joined ∙ drop-append-add front behind (end - first - count)
    ∙ drop-drop (end - first - count) (first + count) rows ∙ ap (λ n. drop n rows) to in
    ap (λ t. t ++ drop (first + count + (end - first - count)) all) begins ∙ ap (λ t. front ++ t) ends
