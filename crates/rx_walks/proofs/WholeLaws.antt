-- A program over characters reads only before whole characters.
use Rattle.std.proofs.Common.{◌≡◌, ℕ, zero, suc, ◌<◌, Bool, List, [], ◌∷◌, ◌++◌, take, drop, length, get_or, ap, ◌∙◌, arith}
use Rattle.std.specs.Str.{IsCharBoundary}
use Rattle.rx_walks.specs.Machines.{reads}
use Rattle.rx_walks.specs.Programs.{Node, Haystack, left_from, over_characters}
use Rattle.rx_walks.specs.ProgramFinds.{first_by}
use Rattle.rx_walks.proofs.ProgramLaws.{read_is}
use Rattle.rx_walks.proofs.CharacterLaws.{member_stands, first_byte}

at_head : (i high b : ℕ) (xs bs : List ℕ) → drop i (take high xs) ≡ b ∷ bs → (i < length xs) × (get_or xs i 0 ≡ b)
at_head zero zero b xs bs e = absurd (cc e)
at_head zero (suc high) b [] bs e = absurd (cc e)
at_head zero (suc high) b (x ∷ xs) bs e = (omega arith, cc e)
at_head (suc i) zero b xs bs e = absurd (cc e)
at_head (suc i) (suc high) b [] bs e = absurd (cc e)
at_head (suc i) (suc high) b (x ∷ xs) bs e = let on = at_head i high b xs bs e in (omega (arith, on.0), on.1)

pub reads_whole : {L S N : Type 0} (put : ℕ → ℕ → N → N) (member : S → ℕ → Bool) (nodes : List (Node L S)) (p : Haystack L) (i j : ℕ) (q r : ℕ) → (over_characters put (first_by member) nodes p).move i q ≡ reads r j
    → IsCharBoundary p.content i
reads_whole put member nodes p i j q r e =
    let one = read_is put (first_by member) nodes p i j q r e in
    let here = member_stands (member one.0) (left_from p i) one.1 one.2 in
    let byte = first_byte here.0 in
    let at = at_head i p.high byte.0 p.content (byte.1 ++ here.1.rest) (here.1.stands ∙ ap (λ x. x ++ here.1.rest) byte.2) in
    (omega (arith, at.0), λ below high. omega (arith, at.1, high, byte.3 (omega (arith, at.1, high))))
