-- Laws of leaf texts, for proofs here and in the crates above.
use Rattle.std.proofs.Common.{◌≡◌, ℕ, List, [], ◌∷◌, ◌++◌, ap, sym, ◌∙◌}
use Rattle.std.proofs.lemmas.List.{append-nil}
use Rattle.std.specs.List.{concat}
use Rattle.str_indices.proofs.TextLaws.{breaks_of_joined_texts-lines_crlf, counts_of_joined_texts-units}
use Rattle.ropey_tree.specs.Laws.{CountsAreOfTheText}
use Rattle.ropey_tree.specs.Counts.{counts_of, total, plus, minus}
use Rattle.ropey_tree.specs.Cutting.{IsCutting}
use Rattle.ropey_tree.proofs.Texts.{total-concat, total-one}
use Rattle.ropey_tree.proofs.Totals.{total-append, less}

pub counts_of_a_cutting : CountsAreOfTheText
counts_of_a_cutting = total-concat breaks_of_joined_texts-lines_crlf counts_of_joined_texts-units

-- the counts of the second of two leaf texts
pub counts-second : (a b whole : List ℕ) → IsCutting (a ∷ b ∷ []) → a ++ b ≡ whole → minus (counts_of whole) (counts_of a) ≡ counts_of b
counts-second a b whole cut is =
    let both : concat (a ∷ b ∷ []) ≡ whole = ap (λ t. a ++ t) (append-nil b) ∙ is in
    let sums : counts_of whole ≡ plus (total (a ∷ [])) (total (b ∷ [])) = ap counts_of (sym both) ∙ sym (counts_of_a_cutting (a ∷ b ∷ []) cut) ∙ total-append (a ∷ []) (b ∷ []) in
    ap (λ c. minus c (counts_of a)) sums ∙ ap (minus (plus (total (a ∷ [])) (total (b ∷ [])))) (sym (total-one a)) ∙ less (total (a ∷ [])) (b ∷ []) ∙ total-one b
