-- A text built from its start on, with matches replaced one after the other.
use Rattle.std.proofs.Common.{◌≡◌, ℕ, List, [], ◌∷◌, ◌++◌, length, get_or, drop, subst, ◌+◌, ◌<◌, ◌∙◌, append_assoc}
use Rattle.std.proofs.lemmas.List.{drop_more}
use Rattle.rope_search_changes.specs.Replacement.{Groups, whole, between, expand, replaced}
use Rattle.rope_search_templates.proofs.ContentLemmas.{AreLeft, left-behind}

-- the built text, followed by the rest after an offset with the remaining matches replaced, is the
-- whole text
pub record IsBuilt (content template : List ℕ) (at : ℕ) (matches : List Groups) (built all : List ℕ) : Type 0 where
  pub left : AreLeft content at matches
  pub text_is : built ++ replaced content template at matches ≡ all

-- at the next of them
pub built-next : (content template : List ℕ) (at : ℕ) (matches : List Groups) (k : ℕ) (built all : List ℕ) → k < length matches
    → IsBuilt content template at (drop k matches) built all → IsBuilt content template at (get_or matches k [] ∷ drop (k + 1) matches) built all
built-next content template at matches k built all inside is = subst (λ ms. IsBuilt content template at ms built all) (drop_more matches k [] inside) is

pub built-more : (content template : List ℕ) (at : ℕ) (match : Groups) (matches : List Groups) (built all : List ℕ) → IsBuilt content template at (match ∷ matches) built all
    → IsBuilt content template (whole match).1 matches ((built ++ between content at (whole match).0) ++ expand content match template) all
built-more content template at match matches built all is = record {
  left = left-behind content at match matches is.left;
  text_is = regroup built (between content at (whole match).0) (expand content match template) (replaced content template (whole match).1 matches) ∙ is.text_is;
}
  where
    regroup : (a b c d : List ℕ) → ((a ++ b) ++ c) ++ d ≡ a ++ ((b ++ c) ++ d)
    regroup a b c d = simp append_assoc
