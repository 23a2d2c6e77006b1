-- Rows of chunks, and the texts of their parts.
use Rattle.std.proofs.Common.{◌≡◌, ℕ, ◌+◌, ◌^◌, ◌<◌, ◌≤◌, Bool, true, false, ◌&&◌, List, [], ◌∷◌, ◌++◌, length, refl, ap, arith, sym, ◌∙◌, length-append}
use Rattle.std.specs.List.{concat}
use Rattle.std.proofs.lemmas.List.{append-nil}
use Rattle.std.proofs.lemmas.List.Sums.{sum_by-cons}
use Rattle.std.proofs.lemmas.Str.{encodes-append}
use Rattle.str_indices.specs.Text.{starts_with_lf, byte_len, ends_with_cr}
use Rattle.ropey_tree.specs.Counts.{total}
use Rattle.ropey_tree.specs.Cutting.{IsPiece, IsCutting, IsRopeText, cuts_cr_lf}
use Rattle.ropey_walk.specs.Chunks.{text_of}
use Rattle.ropey_walk.specs.Laws.{NoCuttingCutsCrLf}

pub byte_len-append : (s t : List ℕ) → byte_len (s ++ t) ≡ byte_len s + byte_len t
byte_len-append s t = ap length (encodes-append s t) ∙ length-append _ _

pub first_piece : (p : List ℕ) (ps : List (List ℕ)) → IsCutting (p ∷ ps) → IsPiece p
first_piece p [] h = h
first_piece p (q ∷ ps) h = h.0

pub rest_cut : (p : List ℕ) (ps : List (List ℕ)) → IsCutting (p ∷ ps) → IsCutting ps
rest_cut p [] h = tt
rest_cut p (q ∷ ps) h = h.2

pub cut-left : (ps qs : List (List ℕ)) → IsCutting (ps ++ qs) → IsCutting ps
cut-left [] qs h = tt
cut-left (p ∷ []) qs h = first_piece p qs h
cut-left (p ∷ q ∷ ps) qs h = (h.0, h.1, cut-left (q ∷ ps) qs h.2)

pub cut-right : (ps qs : List (List ℕ)) → IsCutting (ps ++ qs) → IsCutting qs
cut-right [] qs h = h
cut-right (p ∷ ps) qs h = cut-right ps qs (rest_cut p (ps ++ qs) h)

starts-append : (s t : List ℕ) → 1 ≤ byte_len s → starts_with_lf (s ++ t) ≡ starts_with_lf s
starts-append [] t h = absurd (omega arith)
starts-append (c ∷ cs) t h = refl

ends-append : (s t : List ℕ) → 1 ≤ byte_len t → ends_with_cr (s ++ t) ≡ ends_with_cr t
ends-append [] t h = refl
ends-append (c ∷ []) [] h = absurd (omega arith)
ends-append (c ∷ []) (d ∷ t) h = refl
ends-append (c ∷ d ∷ s) t h = ends-append (d ∷ s) t h

some_bytes : (p : List ℕ) (ps : List (List ℕ)) → IsCutting (p ∷ ps) → 1 ≤ byte_len (concat (p ∷ ps))
some_bytes p ps h = omega (arith, (first_piece p ps h).not_empty, byte_len-append p (concat ps))

nothing_after : (s : List ℕ) → cuts_cr_lf s [] ≡ false
nothing_after s = none (ends_with_cr s)
  where
    none : (b : Bool) → (b && false) ≡ false
    none true = refl
    none false = refl

-- no CR LF spans two parts of a row of chunks
pub whole_seams : NoCuttingCutsCrLf
whole_seams [] rest h = refl
whole_seams (p ∷ []) [] h = nothing_after (concat (p ∷ []))
whole_seams (p ∷ []) (q ∷ rest) h =
    ap (λ s. cuts_cr_lf s (q ++ concat rest)) (append-nil p)
    ∙ ap (λ b. ends_with_cr p && b) (starts-append q (concat rest) (first_piece q rest h.2).not_empty)
    ∙ h.1
whole_seams (p ∷ q ∷ front) rest h =
    ap (λ b. b && starts_with_lf (concat rest)) (ends-append p (concat (q ∷ front)) (some_bytes q front (cut-left (q ∷ front) rest h.2)))
    ∙ whole_seams (q ∷ front) rest h.2

-- the bytes of chunks are those of their text
pub bytes-concat : (ps : List (List ℕ)) → (total ps).bytes ≡ byte_len (concat ps)
bytes-concat [] = refl
bytes-concat (p ∷ ps) = sum_by-cons byte_len p ps ∙ ap (λ n. byte_len p + n) (bytes-concat ps) ∙ sym (byte_len-append p (concat ps))

pub text_fits : (ps : List (List ℕ)) → IsRopeText ps → byte_len (text_of ps) < 2 ^ 63
text_fits ps h = omega (arith, bytes-concat ps, h.fits)
