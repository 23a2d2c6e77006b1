-- Parts of leaf texts and of texts.
use Rattle.std.proofs.Common.{◌≡◌, ℕ, ◌+◌, List, [], ◌∷◌, ◌++◌, ap, arith}
use Rattle.ropey_tree.specs.Counts.{total}
use Rattle.ropey_tree.specs.Cutting.{IsPiece, IsCutting, IsRopeText}
use Rattle.ropey_tree.proofs.Totals.{total-append}

pub first_piece : (p : List ℕ) (ps : List (List ℕ)) → IsCutting (p ∷ ps) → IsPiece p
first_piece p [] h = h
first_piece p (q ∷ ps) h = h.0

pub rest_cut : (p : List ℕ) (ps : List (List ℕ)) → IsCutting (p ∷ ps) → IsCutting ps
rest_cut p [] h = tt
rest_cut p (q ∷ ps) h = h.2

pub cut-left : (ps qs : List (List ℕ)) → IsCutting (ps ++ qs) → IsCutting ps
cut-left [] qs h = tt
cut-left (p ∷ []) qs h = first_piece p qs h
cut-left (p ∷ q ∷ ps) qs h = (h.0, h.1, cut-left (q ∷ ps) qs h.2)

pub cut-right : (ps qs : List (List ℕ)) → IsCutting (ps ++ qs) → IsCutting qs
cut-right [] qs h = h
cut-right (p ∷ ps) qs h = cut-right ps qs (rest_cut p (ps ++ qs) h)

pub bytes-append : (ps qs : List (List ℕ)) → (total (ps ++ qs)).bytes ≡ (total ps).bytes + (total qs).bytes
bytes-append ps qs = ap (λ c. c.bytes) (total-append ps qs)

pub text-left : (ps qs : List (List ℕ)) → IsRopeText (ps ++ qs) → IsRopeText ps
text-left ps qs h = record { cut = cut-left ps qs h.cut; fits = omega (arith, bytes-append ps qs, h.fits) }

pub text-right : (ps qs : List (List ℕ)) → IsRopeText (ps ++ qs) → IsRopeText qs
text-right ps qs h = record { cut = cut-right ps qs h.cut; fits = omega (arith, bytes-append ps qs, h.fits) }
