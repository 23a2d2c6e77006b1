-- Texts of at most one chunk.
use Rattle.std.proofs.Common.{◌≡◌, ℕ, ◌<◌, ◌≤◌, List, [], ◌∷◌, ◌++◌, length, refl, ap, arith, sym, ◌∙◌, subst}
use Rattle.std.specs.List.{concat}
use Rattle.std.proofs.lemmas.List.{append-nil, append_assoc}
use Rattle.str_indices.specs.Text.{byte_len}
use Rattle.ropey_tree.specs.declared.counts.Counts.{Counts}
use Rattle.ropey_tree.specs.declared.counts.By.TheVariants.{Bytes}
use Rattle.ropey_tree.specs.Cutting.{IsCutting}
use Rattle.ropey_walk.specs.Chunks.{text_of, lone_piece}
use Rattle.ropey_walk.specs.Standing.{StandsAt}
use Rattle.ropey_walk.proofs.Cuts.{byte_len-append, first_piece, rest_cut}

-- the first chunk is the text if there is no other, and else is shorter
pub record OneOrMore (pieces : List (List ℕ)) (chunk : List ℕ) : Type 0 where
  pub all : length pieces ≤ 1 → chunk ≡ text_of pieces
  pub some : 1 < length pieces → byte_len chunk < byte_len (text_of pieces)

first_is : (pieces : List (List ℕ)) (chunk : List ℕ) (after : List (List ℕ)) → pieces ≡ lone_piece chunk ++ after → (chunk ≡ [] → pieces ≡ []) → IsCutting pieces → OneOrMore pieces chunk
first_is pieces [] after parts some cut =
    let none = some refl in
    record { all = λ _. ap concat (sym none); some = λ more. absurd (omega (arith, more, ap length none)) }
first_is pieces (c ∷ cs) [] parts some cut =
    record { all = λ _. sym (append-nil (c ∷ cs)) ∙ ap concat (sym parts); some = λ more. absurd (omega (arith, more, ap length parts)) }
first_is pieces (c ∷ cs) (p ∷ after) parts some cut =
    let rest : IsCutting (p ∷ after) = rest_cut (c ∷ cs) (p ∷ after) (subst IsCutting parts cut) in
    let next = (first_piece p after rest).not_empty in
    record {
      all = λ few. absurd (omega (arith, few, ap length parts));
      some = λ _. omega (arith, next, ap (λ ps. byte_len (concat ps)) parts, byte_len-append (c ∷ cs) (concat (p ∷ after)), byte_len-append p (concat after));
    }

front_cut : (front rest : List (List ℕ)) → IsCutting (front ++ rest) → byte_len (concat front) ≤ 0 → front ≡ []
front_cut [] rest cut h = refl
front_cut (p ∷ front) rest cut h = absurd (omega (arith, h, (first_piece p (front ++ rest) cut).not_empty, byte_len-append p (concat front)))

pub one_or_more : (pieces : List (List ℕ)) (chunk : List ℕ) (start : Counts) → StandsAt pieces Bytes 0 chunk start → IsCutting pieces → OneOrMore pieces chunk
one_or_more pieces chunk start h cut =
    let assoc : pieces ≡ h.before ++ (lone_piece chunk ++ h.after) = h.parts ∙ append_assoc h.before (lone_piece chunk) h.after in
    let none = front_cut h.before (lone_piece chunk ++ h.after) (subst IsCutting assoc cut) (omega (arith, h.not_past)) in
    first_is pieces chunk h.after (assoc ∙ ap (λ ps. ps ++ (lone_piece chunk ++ h.after)) none) h.some cut
