-- Ends behind a place between two characters.
use Rattle.std.proofs.Common.{◌≡◌, ℕ, ◌+◌, ◌-◌, ◌≤◌, List, [], ◌∷◌, ◌++◌, ap, arith}
use Rattle.std.specs.Char.{len_utf8}
use Rattle.str_indices.specs.Text.{byte_len, ends_from, ends_up_to}
use Rattle.str_indices.specs.Laws.{EndsBehind}
use Rattle.str_indices.proofs.Spread.{up_to-start}
use Rattle.str_indices.proofs.Places.{bytes-cons, up_to-cons}
use Rattle.str_indices.proofs.Parts.{up_to-moved}

up_to-behind : (count : ℕ → List ℕ → ℕ) (at seam place : ℕ) (before rest : List ℕ) → seam ≡ at + byte_len before → seam ≤ place
    → ends_up_to place (ends_from count at (before ++ rest)) ≡ ends_up_to seam (ends_from count at (before ++ rest)) + ends_up_to place (ends_from count seam rest)
up_to-behind count at seam place [] rest e h =
    let same : seam ≡ at = omega (arith, e) in
    omega (arith, up_to-start count at seam rest (omega (arith, same)), ap (λ n. ends_up_to place (ends_from count n rest)) same)
up_to-behind count at seam place (c ∷ cs) rest e h =
    let n = len_utf8 c in
    let w = count c (cs ++ rest) in
    let E = ends_from count (at + n) (cs ++ rest) in
    let room : seam ≡ at + n + byte_len cs = omega (arith, e, bytes-cons c cs) in
    omega (arith, up_to-cons w (at + n) place E (omega (arith, room, h)), up_to-cons w (at + n) seam E (omega (arith, room)), up_to-behind count (at + n) seam place cs rest room h)

pub ends-behind : (count : ℕ → List ℕ → ℕ) → EndsBehind (λ text. ends_from count 0 text)
ends-behind count before rest place h =
    let d = byte_len before in
    let moved = up_to-moved count d 0 (place - d) d place rest (omega arith) (omega (arith, h)) in
    omega (arith, up_to-behind count 0 d place before rest (omega arith) h, moved)
