-- Walks that start at an offset or after it are the same if the span starts there.
use Rattle.std.proofs.Common.{◌≡◌, ℕ, ◌≤◌, Bool, List, [], Option, Some, None, slice_get, refl, ap, ◌∙◌, arith}
use Rattle.std.proofs.lemmas.Bool.Decides.{nat_tests}
use Rattle.rx_walks.specs.Machines.{Machine, Outcome, IsForward}
use Rattle.rx_walks.specs.Walks.{Walk, ended, went, took, IsLeast}
use Rattle.rx_walks.specs.Looks.{Look}
use Rattle.rx_walks.specs.Programs.{Node, match, pass, note, look, set, Haystack, Notes, put_note, only_if, is_within, by_character, over_characters}
use Rattle.rx_walks.specs.ProgramFinds.{first_by}
use Rattle.rx_walks.proofs.ForwardLaws.{characters_forward}

module _ {S : Type 0} (member : S → ℕ → Bool) (nodes : List (Node Look S)) (h : Haystack Look) (low : ℕ) where
  abbrev From : ℕ → Machine ℕ Notes
  From start = over_characters put_note (first_by member) nodes (record h { low = start })

  at_node : (a b i : ℕ) (o : Option (Node Look S)) → by_character (first_by member) (record h { low = a }) i o ≡ by_character (first_by member) (record h { low = b }) i o
  at_node a b i None = refl
  at_node a b i (Some (match k)) = refl
  at_node a b i (Some (pass rs)) = refl
  at_node a b i (Some (note slot r)) = refl
  at_node a b i (Some (look l r)) = refl
  at_node a b i (Some (set x r)) = refl

  within_both : (a b i : ℕ) → a ≤ i → b ≤ i → is_within a h.high i ≡ is_within b h.high i
  within_both a b i from from' = grind (arith, nat_tests)

  same_move : (a b i q : ℕ) → a ≤ i → b ≤ i → (From a).move i q ≡ (From b).move i q
  same_move a b i q from from' =
      ap (λ x. only_if x (by_character (first_by member) (record h { low = a }) i (slice_get nodes q))) (within_both a b i from from')
      ∙ ap (λ y. only_if (is_within b h.high i) y) (at_node a b i (slice_get nodes q))

  forward : (a : ℕ) → IsForward (From a)
  forward a = characters_forward put_note member nodes (record h { low = a })

  pub walk_from : (a b : ℕ) {seen : List ℕ} {n : Notes} {q i : ℕ} {cs : List ℕ} {t : Outcome Notes} → a ≤ i → b ≤ i → Walk (From a) seen n q i cs t → Walk (From b) seen n q i cs t
  walk_from a b from from' (ended {q = q} {i = i} new is) = ended new (same_move b a i q from' from ∙ is)
  walk_from a b from from' (went {q = q} {i = i} rs r new is at w) = went rs r new (same_move b a i q from' from ∙ is) at (walk_from a b from from' w)
  walk_from a b from from' (took {q = q} {i = i} r j new is w) =
      let on = forward a i j q r is in
      took r j new (same_move b a i q from' from ∙ is) (walk_from a b (omega (arith, on, from)) (omega (arith, on, from')) w)

  pub least_from : {n : Notes} {q i : ℕ} {t : Outcome Notes} (a b : ℕ) → a ≤ i → b ≤ i → IsLeast (From a) [] n q i t → IsLeast (From b) [] n q i t
  least_from a b from from' one = record { choices = one.choices; walk = walk_from a b from from' one.walk; least = λ ds u w. one.least ds u (walk_from b a from' from w) }
