-- Paths of a program over characters, edge by edge.
use Rattle.std.proofs.Common.{◌≡◌, ℕ, zero, suc, ◌≤◌, Bool, true, false, List, [], ◌∷◌, Option, Some, None, slice_get, refl, sym, ap, subst, ◌∙◌, arith}
use Rattle.std.proofs.lemmas.Bool.Decides.{nat_tests}
use Rattle.rx_walks.specs.Machines.{ends, goes, reads}
use Rattle.rx_walks.specs.Paths.{Path, at_end, by_edge, by_read}
use Rattle.rx_walks.specs.Programs.{Node, match, pass, note, look, set, Haystack, only_if, is_within, left_from, read_up_to, by_character, over_characters}
use Rattle.rx_walks.specs.Trails.{Within, Edge, by_pass, by_note, by_look, by_set, Trail, trail_end, trail_on}
use Rattle.rx_walks.proofs.WalkLaws.{same_some, same_end, same_read, same_open}

module _ {L S N : Type 0} (put : ℕ → ℕ → N → N) (first : S → List ℕ → Option ℕ) (nodes : List (Node L S)) (h : Haystack L) where
  within_is : (i : ℕ) → is_within h.low h.high i ≡ true → Within h.low h.high i
  within_is i e = record { above = grind (arith, nat_tests); below = grind (arith, nat_tests) }

  is_inside : (i : ℕ) → Within h.low h.high i → is_within h.low h.high i ≡ true
  is_inside i within = inside h.low h.high within.above within.below
    where
      inside : (low high : ℕ) → low ≤ i → i ≤ high → is_within low high i ≡ true
      inside low high below above = grind (arith, nat_tests)

  pub moves : (q i : ℕ) (o : Option (Node L S)) → Within h.low h.high i → slice_get nodes q ≡ o → (over_characters put first nodes h).move i q ≡ by_character first h i o
  moves q i o within at = ap (λ z. only_if z (by_character first h i (slice_get nodes q))) (is_inside i within) ∙ ap (λ z. by_character first h i z) at

  ended_is : (q i p : ℕ) (b : Bool) (o : Option (Node L S)) → is_within h.low h.high i ≡ b → slice_get nodes q ≡ o → only_if b (by_character first h i o) ≡ ends p
      → Within h.low h.high i × (slice_get nodes q ≡ Some (match p))
  ended_is q i p false o is at e = absurd (cc e)
  ended_is q i p true None is at e = absurd (cc e)
  ended_is q i p true (Some (match k)) is at e = (within_is i is, at ∙ ap (λ z. Some (match z)) (same_end refl e))
  ended_is q i p true (Some (pass rs)) is at e = absurd (cc e)
  ended_is q i p true (Some (note slot r)) is at e = absurd (cc e)
  ended_is q i p true (Some (look l r)) is at e = looks (h.holds l i) e
    where
      looks : (b : Bool) → only_if b (goes (r ∷ [])) ≡ ends p → Within h.low h.high i × (slice_get nodes q ≡ Some (match p))
      looks false e = absurd (cc e)
      looks true e = absurd (cc e)
  ended_is q i p true (Some (set x r)) is at e = sets (first x (left_from h i)) e
    where
      sets : (o : Option ℕ) → read_up_to r i o ≡ ends p → Within h.low h.high i × (slice_get nodes q ≡ Some (match p))
      sets None e = absurd (cc e)
      sets (Some k) e = absurd (cc e)

  one_of : (r r' k : ℕ) → slice_get (r ∷ []) k ≡ Some r' → r ≡ r'
  one_of r r' zero e = same_some refl e
  one_of r r' (suc k) e = absurd (cc e)

  pub went_is : (q i r k : ℕ) (rs : List ℕ) (b : Bool) (o : Option (Node L S)) → is_within h.low h.high i ≡ b → slice_get nodes q ≡ o → only_if b (by_character first h i o) ≡ goes rs → slice_get rs k ≡ Some r
      → Within h.low h.high i × Edge first nodes h q i r i
  went_is q i r k rs false o is at e got = absurd (cc (subst (λ z. slice_get z k ≡ Some r) (sym (same_open refl e)) got))
  went_is q i r k rs true None is at e got = absurd (cc (subst (λ z. slice_get z k ≡ Some r) (sym (same_open refl e)) got))
  went_is q i r k rs true (Some (match p)) is at e got = absurd (cc e)
  went_is q i r k rs true (Some (pass ss)) is at e got = (within_is i is, by_pass rs k (at ∙ ap (λ z. Some (pass z)) (same_open refl e)) got)
  went_is q i r k rs true (Some (note slot r')) is at e got =
      let same = one_of r' r k (subst (λ z. slice_get z k ≡ Some r) (sym (same_open refl e)) got) in
      (within_is i is, by_note slot (at ∙ ap (λ z. Some (note slot z)) same))
  went_is q i r k rs true (Some (look l r')) is at e got = looks (h.holds l i) refl e
    where
      looks : (b : Bool) → h.holds l i ≡ b → only_if b (goes (r' ∷ [])) ≡ goes rs → Within h.low h.high i × Edge first nodes h q i r i
      looks false holds e = absurd (cc (subst (λ z. slice_get z k ≡ Some r) (sym (same_open refl e)) got))
      looks true holds e =
          let same = one_of r' r k (subst (λ z. slice_get z k ≡ Some r) (sym (same_open refl e)) got) in
          (within_is i is, by_look l (at ∙ ap (λ z. Some (look l z)) same) holds)
  went_is q i r k rs true (Some (set x r')) is at e got = sets (first x (left_from h i)) e
    where
      sets : (o : Option ℕ) → read_up_to r' i o ≡ goes rs → Within h.low h.high i × Edge first nodes h q i r i
      sets None e = absurd (cc (subst (λ z. slice_get z k ≡ Some r) (sym (same_open refl e)) got))
      sets (Some j) e = absurd (cc e)

  pub took_is : (q i r j : ℕ) (b : Bool) (o : Option (Node L S)) → is_within h.low h.high i ≡ b → slice_get nodes q ≡ o → only_if b (by_character first h i o) ≡ reads r j
      → Within h.low h.high i × Edge first nodes h q i r j
  took_is q i r j false o is at e = absurd (cc e)
  took_is q i r j true None is at e = absurd (cc e)
  took_is q i r j true (Some (match k)) is at e = absurd (cc e)
  took_is q i r j true (Some (pass rs)) is at e = absurd (cc e)
  took_is q i r j true (Some (note slot r')) is at e = absurd (cc e)
  took_is q i r j true (Some (look l r')) is at e = looks (h.holds l i) e
    where
      looks : (b : Bool) → only_if b (goes (r' ∷ [])) ≡ reads r j → Within h.low h.high i × Edge first nodes h q i r j
      looks false e = absurd (cc e)
      looks true e = absurd (cc e)
  took_is q i r j true (Some (set x r')) is at e = sets (first x (left_from h i)) refl e
    where
      sets : (o : Option ℕ) → first x (left_from h i) ≡ o → read_up_to r' i o ≡ reads r j → Within h.low h.high i × Edge first nodes h q i r j
      sets None read e = absurd (cc e)
      sets (Some k) read e = let same = same_read refl e in (within_is i is, by_set x k (at ∙ ap (λ z. Some (set x z)) same.0) read same.1)

  pub path_trail : {q i p e : ℕ} → Path (over_characters put first nodes h) q i p e → Trail first nodes h q i p e
  path_trail (at_end {q = q} {i = i} {p = p} is) = let here = ended_is q i p _ _ refl refl is in trail_end here.0 here.1
  path_trail (by_edge {q = q} {i = i} rs r k is at path) = let here = went_is q i r k rs _ _ refl refl is at in trail_on here.0 here.1 (path_trail path)
  path_trail (by_read {q = q} {i = i} r j is path) = let here = took_is q i r j _ _ refl refl is in trail_on here.0 here.1 (path_trail path)

  edge_path : {q i r j p e : ℕ} → Within h.low h.high i → Edge first nodes h q i r j → Path (over_characters put first nodes h) r j p e → Path (over_characters put first nodes h) q i p e
  edge_path within (by_pass {q = q} {i = i} {r = r} rs k at got) path = by_edge rs r k (moves q i _ within at) got path
  edge_path within (by_note {q = q} {i = i} {r = r} slot at) path = by_edge (r ∷ []) r 0 (moves q i _ within at) refl path
  edge_path within (by_look {q = q} {i = i} {r = r} l at holds) path = by_edge (r ∷ []) r 0 (moves q i _ within at ∙ ap (λ z. only_if z (goes (r ∷ []))) holds) refl path
  edge_path within (by_set {q = q} {i = i} {r = r} {j = j} x k at read to) path =
      by_read r j (moves q i _ within at ∙ ap (λ z. read_up_to r i z) read ∙ ap (reads r) to) path

  pub trail_path : {q i p e : ℕ} → Trail first nodes h q i p e → Path (over_characters put first nodes h) q i p e
  trail_path (trail_end {q = q} {i = i} within at) = at_end (moves q i _ within at)
  trail_path (trail_on within edge trail) = edge_path within edge (trail_path trail)

-- where a trail leads
module _ {L S : Type 0} (first : S → List ℕ → Option ℕ) (nodes : List (Node L S)) (h : Haystack L) where
  edge_on : {q i r j : ℕ} → Edge first nodes h q i r j → i ≤ j
  edge_on (by_pass rs k at got) = omega arith
  edge_on (by_note slot at) = omega arith
  edge_on (by_look l at holds) = omega arith
  edge_on (by_set x k at read to) = omega (arith, to)

  pub trail_within : {q i p e : ℕ} → Trail first nodes h q i p e → (h.low ≤ i) × (i ≤ e) × (e ≤ h.high)
  trail_within (trail_end within at) = (within.above, omega arith, within.below)
  trail_within (trail_on within edge trail) = let on = trail_within trail in (within.above, omega (arith, edge_on edge, on.1), on.2)

  pub within_of : {q i p e : ℕ} → Trail first nodes h q i p e → Within h.low h.high i
  within_of (trail_end within at) = within
  within_of (trail_on within edge trail) = within
