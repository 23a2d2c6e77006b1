-- A find is still found if the span is cut at its end.
use Rattle.std.proofs.Common.{◌≡◌, ℕ, ◌+◌, ◌<◌, ◌≤◌, ◌-◌, ◌⊎◌, Bool, true, false, List, [], ◌++◌, take, drop, length, cond, Option, Some, None, slice_get, min, refl, sym, ap, subst, ◌∙◌, arith, inl, inr}
use Rattle.std.proofs.lemmas.Bool.{cases_lt}
use Rattle.std.proofs.lemmas.Bool.Decides.{nat_tests}
use Rattle.std.proofs.lemmas.List.{take-take, take_at, take-append-drop, append_assoc, drop-take}
use Rattle.std.proofs.lemmas.Str.{length-encode}
use Rattle.std.proofs.Math.Nat.{min-le_left, min-le_right, le-min}
use Rattle.std.proofs.Math.Utf8.{encode}
use Rattle.std.specs.Char.{len_utf8}
use Rattle.rx_walks.specs.Machines.{Move, ends, goes, reads, Machine, Outcome, IsForward}
use Rattle.rx_walks.specs.Walks.{Walk, ended, went, took, IsLeast}
use Rattle.rx_walks.specs.Paths.{Path}
use Rattle.rx_walks.specs.Trails.{cut_at}
use Rattle.rx_walks.specs.Characters.{len_if, member_len, StandsFirst}
use Rattle.rx_walks.specs.Looks.{Look}
use Rattle.rx_walks.specs.Finds.{Search, up_to_place, IsInside, MayEnd, Counts, IsFind, not_found, is_found}
use Rattle.rx_walks.specs.Programs.{Node, match, pass, note, look, set, Program, Haystack, Notes, fresh_notes, put_note, only_if, is_within, read_up_to, by_character, over_characters}
use Rattle.rx_walks.specs.ProgramFinds.{first_by, haystack_of, holds_in, machine_of, highest, start_node, IfStarts, ProgramFinds, end_of}
use Rattle.rx_walks.proofs.WalkLaws.{ends_not_goes, goes_not_reads, same_read}
use Rattle.rx_walks.proofs.CharacterLaws.{member_stands, stands_first}
use Rattle.rx_walks.proofs.FindLaws.{least_same}
use Rattle.rx_walks.proofs.ForwardLaws.{characters_forward, number_told}
use Rattle.rx_walks.proofs.PathLaws.{path_has_walk, walk_reaches, reaches}
use Rattle.rx_walks.proofs.InsideLaws.{none_there, same_goes, within_high, finds_lie_inside}
use Rattle.rx_walks.proofs.ExistLaws.{LeastOrNone, characters_least, program_find_exists}

-- ---- characters in bytes that are cut

member_is : (member : ℕ → Bool) (bytes : List ℕ) (c : ℕ) → StandsFirst bytes c → member c ≡ true → member_len member bytes ≡ Some (len_utf8 c)
member_is member bytes c first into = ap (len_if member) (stands_first bytes c first) ∙ ap (λ b. cond b (Some (len_utf8 c)) None) into

stands_in_more : (bytes : List ℕ) (n m c : ℕ) → n ≤ m → StandsFirst (take n bytes) c → StandsFirst (take m bytes) c
stands_in_more bytes n m c fewer first = record {
  scalar = first.scalar;
  rest = first.rest ++ drop n (take m bytes);
  stands = sym (take-append-drop n (take m bytes))
      ∙ ap (λ xs. xs ++ drop n (take m bytes)) (take-take n m bytes fewer ∙ first.stands)
      ∙ append_assoc (encode c) first.rest (drop n (take m bytes));
}

stands_in_fewer : (bytes : List ℕ) (n m c : ℕ) → n ≤ m → len_utf8 c ≤ n → StandsFirst (take m bytes) c → StandsFirst (take n bytes) c
stands_in_fewer bytes n m c fewer long first = record {
  scalar = first.scalar;
  rest = drop (len_utf8 c) (take n bytes);
  stands = sym (take-append-drop (len_utf8 c) (take n bytes))
      ∙ ap (λ xs. xs ++ drop (len_utf8 c) (take n bytes)) (take-take (len_utf8 c) n bytes long
      ∙ sym (take-take (len_utf8 c) m bytes (omega (arith, long, fewer)))
      ∙ ap (take (len_utf8 c)) first.stands
      ∙ take_at (encode c) first.rest (len_utf8 c) (length-encode c));
}

more_tell : (member : ℕ → Bool) (bytes : List ℕ) (n m k : ℕ) → n ≤ m → member_len member (take n bytes) ≡ Some k → member_len member (take m bytes) ≡ Some k
more_tell member bytes n m k fewer e =
    let one = member_stands member (take n bytes) k e in
    member_is member (take m bytes) one.0 (stands_in_more bytes n m one.0 fewer one.1) one.2 ∙ ap Some (sym one.3)

fewer_tell : (member : ℕ → Bool) (bytes : List ℕ) (n m k : ℕ) → n ≤ m → k ≤ n → member_len member (take m bytes) ≡ Some k → member_len member (take n bytes) ≡ Some k
fewer_tell member bytes n m k fewer long e =
    let one = member_stands member (take m bytes) k e in
    member_is member (take n bytes) one.0 (stands_in_fewer bytes n m one.0 fewer (omega (arith, long, one.3)) one.1) one.2 ∙ ap Some (sym one.3)

-- the bytes from an offset up to a later one
from_place_up_to : (content : List ℕ) (i high : ℕ) → i ≤ high → drop i (take high content) ≡ take (high - i) (drop i content)
from_place_up_to content i high inside = ap (λ n. drop i (take n content)) (omega (arith, inside)) ∙ drop-take i (high - i) content

-- ---- walks

pub on_from : {Q N : Type 0} {m : Machine Q N} {seen : List Q} {n : N} {q : Q} {i : ℕ} {cs : List ℕ} {t : Outcome N} → IsForward m → Walk m seen n q i cs t → i ≤ t.end
on_from forward (ended new is) = omega arith
on_from forward (went rs r new is at w) = on_from forward w
on_from forward (took {q = q} {i = i} r j new is w) = omega (arith, forward i j q r is, on_from forward w)

module _ {S : Type 0} (member : S → ℕ → Bool) (nodes : List (Node Look S)) (h : Haystack Look) (high : ℕ) (lower : high ≤ h.high) where
  -- a move is the same in the cut span, or reads further than that
  abbrev SameOrBeyond : ℕ → Move ℕ → Move ℕ → Type 0
  SameOrBeyond i cut whole = (cut ≡ whole) ⊎ ((cut ≡ goes []) × (r : ℕ) × (j : ℕ) × (whole ≡ reads r j) × (high < j))

  read_of : (i r : ℕ) (x : S) → i ≤ high → (o o' : Option ℕ) → member_len (member x) (drop i (take high h.content)) ≡ o → member_len (member x) (drop i (take h.high h.content)) ≡ o' → SameOrBeyond i (read_up_to r i o) (read_up_to r i o')
  read_of i r x inside o o' is is' = by o o' (ap (member_len (member x)) (sym (from_place_up_to h.content i high inside)) ∙ is) (ap (member_len (member x)) (sym (from_place_up_to h.content i h.high (omega (arith, inside, lower)))) ∙ is')
    where
      by : (o o' : Option ℕ) → member_len (member x) (take (high - i) (drop i h.content)) ≡ o → member_len (member x) (take (h.high - i) (drop i h.content)) ≡ o' → SameOrBeyond i (read_up_to r i o) (read_up_to r i o')
      by None None is is' = inl refl
      by (Some k) o' is is' = inl (ap (read_up_to r i) (sym (more_tell (member x) (drop i h.content) (high - i) (h.high - i) k (omega (arith, lower)) is) ∙ is'))
      by None (Some k) is is' = elim (cases_lt high (i + k)) [
        | inl beyond ↦ inr (refl, r, i + k, refl, beyond)
        | inr within ↦ absurd (cc (is, fewer_tell (member x) (drop i h.content) (high - i) (h.high - i) k (omega (arith, lower)) (omega (arith, within, inside)) is'))
      ]

  at_node : (i : ℕ) → i ≤ high → (o : Option (Node Look S)) → SameOrBeyond i (by_character (first_by member) (cut_at h high) i o) (by_character (first_by member) h i o)
  at_node i inside None = inl refl
  at_node i inside (Some (match k)) = inl refl
  at_node i inside (Some (pass rs)) = inl refl
  at_node i inside (Some (note slot r)) = inl refl
  at_node i inside (Some (look l r)) = inl refl
  at_node i inside (Some (set x r)) = read_of i r x inside _ _ refl refl

  -- a move in the cut span is a move in the whole one
  within_both : (i : ℕ) → is_within h.low high i ≡ true → is_within h.low h.high i ≡ true
  within_both i e = grind (arith, nat_tests, lower)

  within_cut : (i : ℕ) → i ≤ high → is_within h.low high i ≡ is_within h.low h.high i
  within_cut i inside = grind (arith, nat_tests, lower)

  move_out : (i q : ℕ) (x : Move ℕ) → (over_characters put_note (first_by member) nodes (cut_at h high)).move i q ≡ x → (x ≡ goes [] → ⊥) → (over_characters put_note (first_by member) nodes h).move i q ≡ x
  move_out i q x is some = by (is_within h.low high i) refl
    where
      by : (b : Bool) → is_within h.low high i ≡ b → (over_characters put_note (first_by member) nodes h).move i q ≡ x
      by false at = absurd (some (sym is ∙ ap (λ b. only_if b (by_character (first_by member) (cut_at h high) i (slice_get nodes q))) at))
      by true at =
          let cut : by_character (first_by member) (cut_at h high) i (slice_get nodes q) ≡ x = sym (ap (λ b. only_if b (by_character (first_by member) (cut_at h high) i (slice_get nodes q))) at) ∙ is in
          let whole = ap (λ b. only_if b (by_character (first_by member) h i (slice_get nodes q))) (within_both i at) in
          elim (at_node i (within_high h.low high i at) (slice_get nodes q)) [
            | inl same ↦ whole ∙ sym same ∙ cut
            | inr other ↦ absurd (some (sym cut ∙ other.0))
          ]

  move_in : (i q : ℕ) (x : Move ℕ) → i ≤ high → (over_characters put_note (first_by member) nodes h).move i q ≡ x → ((r j : ℕ) → x ≡ reads r j → j ≤ high) → (over_characters put_note (first_by member) nodes (cut_at h high)).move i q ≡ x
  move_in i q x inside is near =
      ap (λ b. only_if b (by_character (first_by member) (cut_at h high) i (slice_get nodes q))) (within_cut i inside) ∙ by (is_within h.low h.high i) is
    where
      by : (b : Bool) → only_if b (by_character (first_by member) h i (slice_get nodes q)) ≡ x → only_if b (by_character (first_by member) (cut_at h high) i (slice_get nodes q)) ≡ x
      by false e = e
      by true e = elim (at_node i inside (slice_get nodes q)) [
        | inl same ↦ same ∙ e
        | inr other ↦ absurd (omega (arith, near other.1 other.2 (sym e ∙ other.3), other.4))
      ]

  walk_out : {seen : List ℕ} {n : Notes} {q i : ℕ} {cs : List ℕ} {t : Outcome Notes} → Walk (over_characters put_note (first_by member) nodes (cut_at h high)) seen n q i cs t
      → Walk (over_characters put_note (first_by member) nodes h) seen n q i cs t
  walk_out (ended {q = q} {i = i} {p = p} new is) = ended new (move_out i q (ends p) is (λ e. ends_not_goes refl e))
  walk_out (went {q = q} {i = i} {k = k} rs r new is at w) = went rs r new (move_out i q (goes rs) is (λ e. none_there rs k (same_goes rs [] e) at)) at (walk_out w)
  walk_out (took {q = q} {i = i} r j new is w) = took r j new (move_out i q (reads r j) is (λ e. goes_not_reads e refl)) (walk_out w)

  walk_in : {seen : List ℕ} {n : Notes} {q i : ℕ} {cs : List ℕ} {t : Outcome Notes} → t.end ≤ high → Walk (over_characters put_note (first_by member) nodes h) seen n q i cs t
      → Walk (over_characters put_note (first_by member) nodes (cut_at h high)) seen n q i cs t
  walk_in near (ended {q = q} {i = i} {p = p} new is) = ended new (move_in i q (ends p) near is (λ r j e. absurd (cc e)))
  walk_in near (went {q = q} {i = i} rs r new is at w) =
      let on = on_from (characters_forward put_note member nodes h) w in
      went rs r new (move_in i q (goes rs) (omega (arith, on, near)) is (λ r j e. absurd (goes_not_reads refl e))) at (walk_in near w)
  walk_in near (took {q = q} {i = i} r j new is w) =
      let forward = characters_forward put_note member nodes h in
      let on = on_from forward w in
      took r j new (move_in i q (reads r j) (omega (arith, on, near, forward i j q r is)) is (λ r' j' e. omega (arith, (same_read {x = reads r j} refl e).1, on, near))) (walk_in near w)

  least_in : {n : Notes} {q i : ℕ} {t : Outcome Notes} → t.end ≤ high → IsLeast (over_characters put_note (first_by member) nodes h) [] n q i t → IsLeast (over_characters put_note (first_by member) nodes (cut_at h high)) [] n q i t
  least_in near one = record { choices = one.choices; walk = walk_in near one.walk; least = λ ds u w. one.least ds u (walk_out w) }

-- ---- paths

module _ {S : Type 0} (member : S → ℕ → Bool) (nodes : List (Node Look S)) (h : Haystack Look) (high : ℕ) (lower : high ≤ h.high) where
  pub path_in : {q i p e : ℕ} → e ≤ high → Path (over_characters put_note (first_by member) nodes h) q i p e → Path (over_characters put_note (first_by member) nodes (cut_at h high)) q i p e
  path_in near path =
      let one = path_has_walk number_told path (fresh_notes 0) in
      walk_reaches (reaches (walk_in member nodes h high lower (omega (arith, near, one.end_is)) one.walk) one.pattern_is one.end_is)

  pub path_out : {q i p e : ℕ} → Path (over_characters put_note (first_by member) nodes (cut_at h high)) q i p e → Path (over_characters put_note (first_by member) nodes h) q i p e
  path_out path =
      let one = path_has_walk number_told path (fresh_notes 0) in
      walk_reaches (reaches (walk_out member nodes h high lower one.walk) one.pattern_is one.end_is)

-- ---- finds

module _ {S : Type 0} (member : S → ℕ → Bool) (is_word : ℕ → Bool) (p : Program Look S) (s : Search) (e : ℕ) (inside : IsInside s e) where
  lower : highest (up_to_place s e) ≤ highest s
  lower = le-min (le-min (omega (arith, min-le_left (min s.slice_end e) (length s.content), min-le_left s.slice_end e)) (omega (arith, min-le_left (min s.slice_end e) (length s.content), min-le_right s.slice_end e, inside.3))) (min-le_right (min s.slice_end e) (length s.content))

  reached : e ≤ highest (up_to_place s e)
  reached = le-min (le-min inside.1 (omega arith)) inside.4

  inside_whole : (i : ℕ) → IsInside (up_to_place s e) i → IsInside s i
  inside_whole i within = (within.0, within.1, within.2, omega (arith, within.3, inside.3), within.4)

  -- a start that counts in the cut span counts in the whole one
  count_whole : {q j : ℕ} {u : Outcome Notes} → Counts (machine_of member is_word p (up_to_place s e)) fresh_notes (up_to_place s e) q j u
      → (t : Outcome Notes) × Counts (machine_of member is_word p s) fresh_notes s q j t
  count_whole {q = q} {j = j} {u = u} counts = by (characters_least put_note member p.nodes (haystack_of (holds_in is_word p.line_terminator s) s) (fresh_notes j) q j)
    where
      h : Haystack Look
      h = haystack_of (holds_in is_word p.line_terminator s) s

      may_end : (t : Outcome Notes) → IsLeast (machine_of member is_word p s) [] (fresh_notes j) q j t → MayEnd s j t.end
      may_end t one = elim (cases_lt e t.end) [
        | inl beyond ↦ inl (λ same. omega (arith, same, beyond, counts.possible.0.3))
        | inr near ↦ (let same = least_same (least_in member p.nodes h (highest (up_to_place s e)) lower (omega (arith, near, reached)) one) counts.least in subst (λ x. MayEnd s j x.end) (sym same) counts.may_end)
      ]

      by : LeastOrNone (machine_of member is_word p s) [] (fresh_notes j) q j → (t : Outcome Notes) × Counts (machine_of member is_word p s) fresh_notes s q j t
      by (inl one) = (one.0, record { possible = (inside_whole j counts.possible.0, counts.possible.1); least = one.1; may_end = may_end one.0 one.1 })
      by (inr never) = absurd (never counts.least.choices u (walk_out member p.nodes h (highest (up_to_place s e)) lower counts.least.walk))

  find_cut : (q : ℕ) (t : Outcome Notes) → t.end ≡ e → IsFind (machine_of member is_word p s) fresh_notes s q (Some t)
      → IsFind (machine_of member is_word p (up_to_place s e)) fresh_notes (up_to_place s e) q (Some t)
  find_cut q t ends_there (is_found {i = i} counts before) =
      let h = haystack_of (holds_in is_word p.line_terminator s) s in
      let on = on_from (characters_forward put_note member p.nodes h) counts.least.walk in
      let possible = counts.possible in
      is_found (record {
        possible = ((possible.0.0, possible.0.1, possible.0.2, omega (arith, on, ends_there), possible.0.4), possible.1);
        least = least_in member p.nodes h (highest (up_to_place s e)) lower (omega (arith, ends_there, reached)) counts.least;
        may_end = counts.may_end;
      }) (λ j u below counts'. (let one = count_whole counts' in before j one.0 below one.1))

module _ {S : Type 0} (member : S → ℕ → Bool) (is_word : ℕ → Bool) (p : Program Look S) (s : Search) where
  pub finds_stay_in_cut_spans : (t : Outcome Notes) → ProgramFinds member is_word p s (Some t) → ProgramFinds member is_word p (up_to_place s (end_of t)) (Some t)
  finds_stay_in_cut_spans t finds = by_start (start_node p s.anchoring) finds
    where
      inside : IsInside s t.end
      inside = (finds_lie_inside member is_word p s t finds).found.inside

      by_start : (o : Option ℕ) → IfStarts o (IsFind (machine_of member is_word p s) fresh_notes s) (Some t)
          → IfStarts o (IsFind (machine_of member is_word p (up_to_place s t.end)) fresh_notes (up_to_place s t.end)) (Some t)
      by_start None e = absurd (cc e)
      by_start (Some q) is = find_cut member is_word p s t.end inside q t refl is

module _ {S : Type 0} (member : S → ℕ → Bool) (is_word : ℕ → Bool) (p : Program Look S) (s : Search) where
  pub cut_spans_tell : (i : ℕ) (t : Outcome Notes) → i ≤ s.end → ProgramFinds member is_word p (up_to_place s i) (Some t) → (whole : Outcome Notes) × ProgramFinds member is_word p s (Some whole)
  cut_spans_tell i t within finds = there (program_find_exists member is_word p s)
    where
      lies : IsInside (up_to_place s i) t.end
      lies = (finds_lie_inside member is_word p (up_to_place s i) t finds).found.inside

      inside : IsInside s t.end
      inside = (lies.0, lies.1, lies.2, omega (arith, lies.3, within), lies.4)

      -- it is found in the span that is cut at its end, too
      shorter : ProgramFinds member is_word p (up_to_place s t.end) (Some t)
      shorter = finds_stay_in_cut_spans member is_word p (up_to_place s i) t finds

      never : (o : Option ℕ) → IfStarts o (IsFind (machine_of member is_word p (up_to_place s t.end)) fresh_notes (up_to_place s t.end)) (Some t)
          → IfStarts o (IsFind (machine_of member is_word p s) fresh_notes s) None → ⊥
      never None e none = absurd (cc e)
      never (Some q) (is_found {i = j} counts before) (not_found none) = let one = count_whole member is_word p s t.end inside counts in none j one.0 one.1

      there : (found : (out : Option (Outcome Notes)) × ProgramFinds member is_word p s out) → (whole : Outcome Notes) × ProgramFinds member is_word p s (Some whole)
      there (Some whole, is) = (whole, is)
      there (None, none) = absurd (never (start_node p s.anchoring) shorter none)
