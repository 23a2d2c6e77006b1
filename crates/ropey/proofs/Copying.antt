-- A text that is copied chunk by chunk.
use Rattle.std.proofs.Common.{◌≡◌, ℕ, ◌⊎◌, inl, inr, List, ◌++◌, ap, sym, ◌∙◌, append_assoc}
use Rattle.std.specs.Prelude.{Result, Ok, Err, IfErr}
use Rattle.ropey_tree.specs.declared.error.Error.{Error}
use Rattle.ropey_tree.specs.declared.error.Error.TheVariants.{Size, Memory}

-- of two, the one that is left
pub other_of : {A B : Type 0} → A ⊎ B → (A → ⊥) → B
other_of (inl a) none = absurd (none a)
other_of (inr b) none = b

-- a front of a text stands behind what was there, and what is ahead is its rest
pub record IsCopied (old new ahead text : List ℕ) : Type 0 where
  pub front : List ℕ
  pub new_is : new ≡ old ++ front
  pub parts : front ++ ahead ≡ text

module _ (old new ahead text : List ℕ) (h : IsCopied old new ahead text) where
  pub copied_next : (chunk new' after : List ℕ) → ahead ≡ chunk ++ after → new' ≡ new ++ chunk → IsCopied old new' after text
  copied_next chunk new' after next appended = record {
    front = h.front ++ chunk;
    new_is = appended ∙ ap (λ t. t ++ chunk) h.new_is ∙ append_assoc old h.front chunk;
    parts = append_assoc h.front chunk after ∙ ap (λ t. h.front ++ t) (sym next) ∙ h.parts;
  }

-- a refusal that isn't for the size
pub only_memory : {T : Type 0} (r : Result T Error) → IfErr r (λ error. (error ≡ Size) ⊎ (error ≡ Memory)) → (r ≡ Err Size → ⊥) → IfErr r (λ error. error ≡ Memory)
only_memory (Ok x) refused fits = tt
only_memory (Err error) refused fits = other_of refused (λ same. fits (ap Err same))
