-- The bytes of joined texts, and the pieces of a cutting.
use Rattle.std.proofs.Common.{◌≡◌, ℕ, ◌+◌, ◌^◌, ◌<◌, List, [], ◌∷◌, ◌++◌, length, refl, ap, arith, sym, ◌∙◌, length-append}
use Rattle.std.specs.List.{concat}
use Rattle.std.proofs.lemmas.List.Sums.{sum_by-cons}
use Rattle.std.proofs.lemmas.Str.{encodes-append}
use Rattle.str_indices.specs.Text.{byte_len}
use Rattle.ropey_tree.specs.Counts.{total}
use Rattle.ropey_tree.specs.Cutting.{IsPiece, IsCutting, IsRopeText}

pub byte_len-append : (s t : List ℕ) → byte_len (s ++ t) ≡ byte_len s + byte_len t
byte_len-append s t = ap length (encodes-append s t) ∙ length-append _ _

pub first_piece : (p : List ℕ) (ps : List (List ℕ)) → IsCutting (p ∷ ps) → IsPiece p
first_piece p [] cut = cut
first_piece p (q ∷ ps) cut = cut.0

pub rest_cut : (p : List ℕ) (ps : List (List ℕ)) → IsCutting (p ∷ ps) → IsCutting ps
rest_cut p [] cut = tt
rest_cut p (q ∷ ps) cut = cut.2

-- what the pieces have in bytes is what their text has
pub bytes-concat : (ps : List (List ℕ)) → (total ps).bytes ≡ byte_len (concat ps)
bytes-concat [] = refl
bytes-concat (p ∷ ps) = sum_by-cons byte_len p ps ∙ ap (λ n. byte_len p + n) (bytes-concat ps) ∙ sym (byte_len-append p (concat ps))

pub text_fits : (ps : List (List ℕ)) → IsRopeText ps → byte_len (concat ps) < 2 ^ 63
text_fits ps text = omega (arith, bytes-concat ps, text.fits)
