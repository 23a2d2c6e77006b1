-- The machine over bytes refines the one over characters.
use Rattle.std.proofs.Common.{◌≡◌, ℕ, zero, suc, ◌+◌, ◌<◌, ◌≤◌, Bool, true, false, List, [], ◌∷◌, take, drop, length, Option, Some, None, option_map, slice_get, refl, ap, subst, ◌∙◌, arith, length-drop, length-take}
use Rattle.std.proofs.lemmas.Bool.Decides.{nat_tests}
use Rattle.rx_walks.specs.Machines.{goes, reads, Machine, IsForward}
use Rattle.rx_walks.specs.Programs.{Node, match, pass, note, look, set, Haystack, only_if, is_within, left_from, read_up_to, by_character, over_characters}
use Rattle.rx_walks.specs.Bytes.{run, read_on, read_byte, by_byte, over_bytes}
use Rattle.rx_walks.specs.Refinements.{Chain, last, more, Dies, at_once, after_read, Agrees, both_end, both_go, both_read, both_fail, Refines}

drop_tail : (i : ℕ) (xs : List ℕ) (b : ℕ) (bs : List ℕ) → drop i xs ≡ b ∷ bs → drop (suc i) xs ≡ bs
drop_tail zero [] b bs e = absurd (cc e)
drop_tail zero (x ∷ xs) b bs e = cc e
drop_tail (suc i) [] b bs e = absurd (cc e)
drop_tail (suc i) (x ∷ xs) b bs e = drop_tail i xs b bs e

drop_more : (i : ℕ) (xs : List ℕ) (b : ℕ) (bs : List ℕ) → drop i xs ≡ b ∷ bs → drop (i + 1) xs ≡ bs
drop_more i xs b bs e = let next : i + 1 ≡ suc i = omega arith in ap (λ k. drop k xs) next ∙ drop_tail i xs b bs e

inside_before : {L : Type 0} (p : Haystack L) (i b : ℕ) (bs : List ℕ) → left_from p i ≡ b ∷ bs → i + 1 ≤ p.high
inside_before p i b bs e = omega (arith, ap length e, length-drop i (take p.high p.content), length-take p.high p.content)

inside_next : (low high i : ℕ) → is_within low high i ≡ true → i + 1 ≤ high → is_within low high (i + 1) ≡ true
inside_next low high i is within = grind (arith, nat_tests)

-- the moves of a set's node at a state, byte by byte
abbrev Result : {N : Type 0} → Machine (ℕ × ℕ) N → ℕ → ℕ → ℕ → ℕ → Option ℕ → Type 0
Result m q r s i None = Dies m (q, s) i
Result m q r s i (Some k) = Chain m (q, s) i (r, 0) (i + k)

one_more_read : {N : Type 0} (m : Machine (ℕ × ℕ) N) (q r s s' i : ℕ) (o : Option ℕ) → m.move i (q, s) ≡ reads (q, s') (i + 1) → Result m q r s' (i + 1) o → Result m q r s i (option_map suc o)
one_more_read m q r s s' i None e dies = after_read e dies
one_more_read m q r s s' i (Some k) e chain = let same : i + 1 + k ≡ i + suc k = omega arith in subst (λ x. Chain m (q, s) i (r, 0) x) same (more e chain)

read_as : {N : Type 0} (m : Machine (ℕ × ℕ) N) (q r s i : ℕ) (others : ℕ → Option ℕ) (o : Option (Option ℕ)) → m.move i (q, s) ≡ read_on q r i o → ((s' : ℕ) → Result m q r s' (i + 1) (others s'))
    → Result m q r s i (elim o [ None ↦ None | Some None ↦ Some 1 | Some (Some s') ↦ option_map suc (others s') ])
read_as m q r s i others None e on = at_once e
read_as m q r s i others (Some None) e on = last e
read_as m q r s i others (Some (Some s')) e on = one_more_read m q r s s' i (others s') e (on s')

module _ {L S N : Type 0} (put : ℕ → ℕ → N → N) (step : ℕ → ℕ → ℕ → Option (Option ℕ)) (nodes : List (Node L S)) (p : Haystack L) where
  set_move : (q s i r : ℕ) (x : S) (xs : List ℕ) → slice_get nodes q ≡ Some (set x r) → is_within p.low p.high i ≡ true → left_from p i ≡ xs
      → (over_bytes put step nodes p).move i (q, s) ≡ read_byte (step q) q r s i xs
  set_move q s i r x xs at is e = ap (λ z. only_if z (by_byte step p i q s (slice_get nodes q))) is ∙ ap (λ z. by_byte step p i q s z) at ∙ ap (λ z. read_byte (step q) q r s i z) e

  runs : (q r : ℕ) (x : S) → slice_get nodes q ≡ Some (set x r) → (xs : List ℕ) (s i : ℕ) → is_within p.low p.high i ≡ true → left_from p i ≡ xs → Result (over_bytes put step nodes p) q r s i (run (step q) s xs)
  runs q r x at [] s i is e = at_once (set_move q s i r x [] at is e)
  runs q r x at (b ∷ bs) s i is e = read_as (over_bytes put step nodes p) q r s i (λ s'. run (step q) s' bs) (step q s b) (set_move q s i r x (b ∷ bs) at is e)
      (λ s'. runs q r x at bs s' (i + 1) (inside_next p.low p.high i is (inside_before p i b bs e)) (drop_more i (take p.high p.content) b bs e))

-- the moves of a node over characters and over bytes
abbrev at_zero : ℕ → ℕ × ℕ
at_zero q = (q, 0)

module _ {L S N : Type 0} (put : ℕ → ℕ → N → N) (first : S → List ℕ → Option ℕ) (step : ℕ → ℕ → ℕ → Option (Option ℕ)) (nodes : List (Node L S)) (p : Haystack L) where
  node_agrees : ((q r : ℕ) (x : S) → slice_get nodes q ≡ Some (set x r) → (bs : List ℕ) → run (step q) 0 bs ≡ first x bs) → (i q : ℕ) → is_within p.low p.high i ≡ true → (a_node : Option (Node L S)) → slice_get nodes q ≡ a_node
      → Agrees (over_characters put first nodes p) (over_bytes put step nodes p) at_zero i q
  node_agrees reads_members i q is a_node at = does a_node at
    where
      in_characters : (a_node : Option (Node L S)) → slice_get nodes q ≡ a_node → (over_characters put first nodes p).move i q ≡ by_character first p i a_node
      in_characters a_node at = ap (λ z. only_if z (by_character first p i (slice_get nodes q))) is ∙ ap (λ z. by_character first p i z) at

      in_bytes : (a_node : Option (Node L S)) → slice_get nodes q ≡ a_node → (over_bytes put step nodes p).move i (q, 0) ≡ by_byte step p i q 0 a_node
      in_bytes a_node at = ap (λ z. only_if z (by_byte step p i q 0 (slice_get nodes q))) is ∙ ap (λ z. by_byte step p i q 0 z) at

      looks : (l : L) (r : ℕ) → slice_get nodes q ≡ Some (look l r) → (b : Bool) → p.holds l i ≡ b → Agrees (over_characters put first nodes p) (over_bytes put step nodes p) at_zero i q
      looks l r at true e = both_go {rs = r ∷ []} (in_characters _ at ∙ ap (λ z. only_if z (goes (r ∷ []))) e) (in_bytes _ at ∙ ap (λ z. only_if z (goes ((r, 0) ∷ []))) e)
      looks l r at false e = both_go {rs = []} (in_characters _ at ∙ ap (λ z. only_if z (goes (r ∷ []))) e) (in_bytes _ at ∙ ap (λ z. only_if z (goes ((r, 0) ∷ []))) e)

      sets : (x : S) (r : ℕ) → slice_get nodes q ≡ Some (set x r) → (o : Option ℕ) → first x (left_from p i) ≡ o → Result (over_bytes put step nodes p) q r 0 i o
          → Agrees (over_characters put first nodes p) (over_bytes put step nodes p) at_zero i q
      sets x r at None e dies = both_fail (in_characters _ at ∙ ap (λ z. read_up_to r i z) e) dies
      sets x r at (Some k) e chain = both_read (in_characters _ at ∙ ap (λ z. read_up_to r i z) e) chain

      does : (a_node : Option (Node L S)) → slice_get nodes q ≡ a_node → Agrees (over_characters put first nodes p) (over_bytes put step nodes p) at_zero i q
      does None at = both_go {rs = []} (in_characters None at) (in_bytes None at)
      does (Some (match k)) at = both_end (in_characters _ at) (in_bytes _ at)
      does (Some (pass rs)) at = both_go (in_characters _ at) (in_bytes _ at)
      does (Some (note slot r)) at = both_go {rs = r ∷ []} (in_characters _ at) (in_bytes _ at)
      does (Some (look l r)) at = looks l r at (p.holds l i) refl
      does (Some (set x r)) at = sets x r at (first x (left_from p i)) refl
          (subst (λ o. Result (over_bytes put step nodes p) q r 0 i o) (reads_members q r x at (left_from p i)) (runs put step nodes p q r x at (left_from p i) 0 i is refl))

  pub bytes_refine : ((q r : ℕ) (x : S) → slice_get nodes q ≡ Some (set x r) → (bs : List ℕ) → run (step q) 0 bs ≡ first x bs) → Refines (over_characters put first nodes p) (over_bytes put step nodes p) at_zero
  bytes_refine reads_members = record { apart = λ q r e. ap (λ z. z.0) e; notes = λ i q n. refl; agrees = λ i q. inside_or_not i q (is_within p.low p.high i) refl }
    where
      inside_or_not : (i q : ℕ) (b : Bool) → is_within p.low p.high i ≡ b → Agrees (over_characters put first nodes p) (over_bytes put step nodes p) at_zero i q
      inside_or_not i q true is = node_agrees reads_members i q is (slice_get nodes q) refl
      inside_or_not i q false is = both_go {rs = []} (ap (λ z. only_if z (by_character first p i (slice_get nodes q))) is) (ap (λ z. only_if z (by_byte step p i q 0 (slice_get nodes q))) is)

-- reads start at whole characters and lead on
module _ {L S N : Type 0} (put : ℕ → ℕ → N → N) (first : S → List ℕ → Option ℕ) (nodes : List (Node L S)) (p : Haystack L) where
  pub read_is : (i j q r : ℕ) → (over_characters put first nodes p).move i q ≡ reads r j → (x : S) × (k : ℕ) × (first x (left_from p i) ≡ Some k) × (j ≡ i + k)
  read_is i j q r e = inside (is_within p.low p.high i) (slice_get nodes q) e
    where
      inside : (b : Bool) (a_node : Option (Node L S)) → only_if b (by_character first p i a_node) ≡ reads r j → (x : S) × (k : ℕ) × (first x (left_from p i) ≡ Some k) × (j ≡ i + k)
      inside false a_node e = absurd (cc e)
      inside true None e = absurd (cc e)
      inside true (Some (match k)) e = absurd (cc e)
      inside true (Some (pass rs)) e = absurd (cc e)
      inside true (Some (note slot r')) e = absurd (cc e)
      inside true (Some (look l r')) e = looks (p.holds l i) e
        where
          looks : (b : Bool) → only_if b (goes (r' ∷ [])) ≡ reads r j → (x : S) × (k : ℕ) × (first x (left_from p i) ≡ Some k) × (j ≡ i + k)
          looks false e = absurd (cc e)
          looks true e = absurd (cc e)
      inside true (Some (set x r')) e = sets (first x (left_from p i)) refl e
        where
          sets : (o : Option ℕ) → first x (left_from p i) ≡ o → read_up_to r' i o ≡ reads r j → (x : S) × (k : ℕ) × (first x (left_from p i) ≡ Some k) × (j ≡ i + k)
          sets None is e = absurd (cc e)
          sets (Some k) is e = (x, k, is, cc e)

  pub is_forward : ((x : S) (bs : List ℕ) (k : ℕ) → first x bs ≡ Some k → 0 < k) → IsForward (over_characters put first nodes p)
  is_forward some i j q r e = let one = read_is i j q r e in omega (arith, some one.0 (left_from p i) one.1 one.2, one.3)
