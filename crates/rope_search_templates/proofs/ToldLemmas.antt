-- The changes of matches that are expanded one after the other.
use Rattle.std.proofs.Common.{◌≡◌, ℕ, ◌+◌, ◌<◌, List, [], ◌∷◌, ◌++◌, length, drop, get_or, ap, sym, subst, ◌∙◌, arith, append_assoc, vec_len, vec_capacity, IsUtf8}
use Rattle.std.proofs.lemmas.List.{drop_more}
use Rattle.str_indices.specs.Text.{byte_len}
use Rattle.rope_search_changes.specs.Replacement.{Groups, replaced, changes_of}
use Rattle.rope_search_changes.specs.declared.Change.{Change}
use Rattle.rope_search_templates.specs.declared.told.Told.{Told}
use Rattle.rope_search_templates.specs.Told.{IsToldOf, IsToldOfNone, IsToldNext, change_at}
use Rattle.rope_search_templates.proofs.ContentLemmas.{AreLeft, left-behind}
use Rattle.rope_search_templates.proofs.LengthLemmas.{len-more}

-- the changes so far, and those of the remaining matches, are all
pub record AreTold (content template : List ℕ) (at at_new : ℕ) (matches : List Groups) (told all : List Change) (len : ℕ) : Type 0 where
  pub left : AreLeft content at matches
  pub changes_are : told ++ changes_of content template at at_new matches ≡ all
  pub len_is : at_new + byte_len (replaced content template at matches) ≡ len

told-more : (content template : List ℕ) (at at_new : ℕ) (match : Groups) (matches : List Groups) (told all : List Change) (len : ℕ) → IsUtf8 content
    → AreTold content template at at_new (match ∷ matches) told all len
    → let change = change_at content template at at_new match in
    AreTold content template change.old_end change.new_end matches (told ++ change ∷ []) all len
told-more content template at at_new match matches told all len utf8 is =
    let change = change_at content template at at_new match in
    record {
      left = left-behind content at match matches is.left;
      changes_are = append_assoc told (change ∷ []) (changes_of content template change.old_end change.new_end matches) ∙ is.changes_are;
      len_is = omega (arith, len-more content template at match matches utf8 is.left, is.len_is);
    }

-- this number of matches is expanded
pub record AreToldUpTo (content template : List ℕ) (matches : List Groups) (count : ℕ) (told : Told) : Type 0 where
  pub same : IsToldOf template told
  pub are : AreTold content template told.at told.at_new (drop count matches) told.changes.items (changes_of content template 0 0 matches) (byte_len (replaced content template 0 matches))
  pub len : vec_len told.changes ≡ count
  pub capacity : vec_capacity told.changes ≡ length matches

module _ (content template : List ℕ) (matches : List Groups) where
  pub told-none : (told : Told) → AreLeft content 0 matches → IsToldOfNone (length matches) told → AreToldUpTo content template matches 0 told
  told-none told left none = record {
    same = none.same template;
    are = record {
      left = subst (λ n. AreLeft content n matches) (sym none.at) left;
      changes_are =
          ap (λ cs. cs ++ changes_of content template told.at told.at_new matches) none.changes
          ∙ ap (λ n. changes_of content template n told.at_new matches) none.at
          ∙ ap (λ n. changes_of content template 0 n matches) none.at_new;
      len_is = omega (arith, none.at_new, ap (λ n. byte_len (replaced content template n matches)) none.at);
    };
    len = none.len;
    capacity = none.capacity;
  }

  -- the next of them is after those
  told-next : (count : ℕ) (told : Told) → count < length matches → AreToldUpTo content template matches count told
      → AreTold content template told.at told.at_new (get_or matches count [] ∷ drop (count + 1) matches) told.changes.items (changes_of content template 0 0 matches) (byte_len (replaced content template 0 matches))
  told-next count told inside is =
      subst (λ ms. AreTold content template told.at told.at_new ms told.changes.items (changes_of content template 0 0 matches) (byte_len (replaced content template 0 matches)))
      (drop_more matches count [] inside) is.are

  -- and it fits
  pub told-fits : (count limit : ℕ) (told : Told) → IsUtf8 content → count < length matches → AreToldUpTo content template matches count told
      → byte_len (replaced content template 0 matches) < limit → (change_at content template told.at told.at_new (get_or matches count [])).new_end < limit
  told-fits count limit told utf8 inside is fits =
      let here = told-next count told inside is in
      omega (arith, len-more content template told.at (get_or matches count []) (drop (count + 1) matches) utf8 here.left, here.len_is, fits)

  pub told-step : (count : ℕ) (old new : Told) (change : Change) → IsUtf8 content → count < length matches → AreToldUpTo content template matches count old
      → IsToldNext content template (get_or matches count []) old new change → AreToldUpTo content template matches (count + 1) new
  told-step count old new change utf8 inside is next =
      let match = get_or matches count [] in
      let rest = drop (count + 1) matches in
      let all = changes_of content template 0 0 matches in
      let len = byte_len (replaced content template 0 matches) in
      let more = told-more content template old.at old.at_new match rest old.changes.items all len utf8 (told-next count old inside is) in
      let own = subst (λ (c : Change). AreTold content template c.old_end c.new_end rest (old.changes.items ++ c ∷ []) all len) (sym next.change_is) more in
      record {
        same = next.same;
        are =
            subst (λ n. AreTold content template n new.at_new rest new.changes.items all len) (sym next.at)
            (subst (λ n. AreTold content template change.old_end n rest new.changes.items all len) (sym next.at_new)
            (subst (λ cs. AreTold content template change.old_end change.new_end rest cs all len) (sym next.changes) own));
        len = next.len ∙ ap (λ n. n + 1) is.len;
        capacity = next.capacity ∙ is.capacity;
      }
