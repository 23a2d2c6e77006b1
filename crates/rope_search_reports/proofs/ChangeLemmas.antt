-- The effect of several changes on the lines of a text.
use Rattle.std.proofs.Common.{◌≡◌, ℕ, zero, suc, ◌+◌, ◌-◌, ◌≤◌, Bool, true, false, cond, List, [], ◌∷◌, ◌++◌, length, take, drop, refl, sym, ap, subst, ◌∙◌, inl, inr, arith, append_assoc}
use Rattle.std.specs.Prelude.{max}
use Rattle.std.proofs.lemmas.List.{take-append-drop, take_all, drop-take}
use Rattle.str_indices.specs.Text.{byte_len, breaks, ends_break}
use Rattle.ropey.specs.Chunks.{is_break}
use Rattle.rope_search_reports.specs.Report.{line_texts}
use Rattle.rope_search_reports.specs.Position.{line_at}
use Rattle.rope_search_reports.specs.Changes.{IsAtStart, StandsAtLines, IsInStep, ChangesKeepLines, TailsKeepLines}
use Rattle.rope_search_reports.proofs.SpliceLemmas.{put, ended, line_texts-put, front, rear, ended-append, few, near, line_at-is}

-- ---- a line after each break

some-put : (ends in_set : Bool) (c : ℕ) (lines : List (List ℕ)) → 1 ≤ length lines → 1 ≤ length (put ends in_set c lines)
some-put true in_set c lines some = omega arith
some-put false true c lines some = some
some-put false false c [] some = omega arith
some-put false false c (line ∷ lines) some = omega arith

some-nil : 1 ≤ length (line_texts [])
unfolding line_texts
some-nil = omega arith

some-lines : (text : List ℕ) → 1 ≤ length (line_texts text)
some-lines [] = some-nil
some-lines (c ∷ cs) = subst (λ ls. 1 ≤ length ls) (sym (line_texts-put c cs)) (some-put (ends_break is_break c cs) (is_break c) c (line_texts cs) (some-lines cs))

behind-put : (ends in_set : Bool) (c k : ℕ) (lines : List (List ℕ)) → suc k ≤ length lines → suc (cond ends (suc k) k) ≤ length (put ends in_set c lines)
behind-put true in_set c k lines some = omega (arith, some)
behind-put false true c k lines some = some
behind-put false false c k [] some = omega (arith, some)
behind-put false false c k (line ∷ lines) some = some

behind : (before after : List ℕ) → suc (ended before after) ≤ length (line_texts (before ++ after))
behind [] after = some-lines after
behind (c ∷ cs) after =
    subst (λ ls. suc (ended (c ∷ cs) after) ≤ length ls) (sym (line_texts-put c (cs ++ after)))
    (behind-put (ends_break is_break c (cs ++ after)) (is_break c) c (ended cs after) (line_texts (cs ++ after)) (behind cs after))

-- ---- between two changes

-- from the start of a text
gap-first : (k : ℕ) (gap after after' : List ℕ) → ended gap after' ≡ k → take k (line_texts (gap ++ after')) ≡ take k (line_texts (gap ++ after))
gap-first k gap after after' is = ap (λ n. take n (line_texts (gap ++ after'))) (sym is) ∙ front gap after' after ∙ ap (λ n. take n (line_texts (gap ++ after))) is

take-one : (k : ℕ) (xs : List (List ℕ)) → drop 1 (take (suc k) xs) ≡ take k (drop 1 xs)
take-one k [] = sym (take_all k [] (omega arith))
take-one k (x ∷ xs) = refl

take-behind : (k : ℕ) (xs ys : List (List ℕ)) → take k xs ≡ take k ys → take (k - 1) (drop 1 xs) ≡ take (k - 1) (drop 1 ys)
take-behind zero xs ys same = refl
take-behind (suc k) xs ys same =
    let less : suc k - 1 ≡ k = omega arith in
    ap (λ n. take n (drop 1 xs)) less ∙ sym (take-one k xs) ∙ ap (drop 1) same ∙ take-one k ys ∙ ap (λ n. take n (drop 1 ys)) (sym less)

-- after a change
gap-next : (before before' gap after after' : List ℕ) (k : ℕ) → ended gap after' ≡ k
    → take (k - 1) (drop (suc (ended before' (gap ++ after'))) (line_texts (before' ++ (gap ++ after'))))
    ≡ take (k - 1) (drop (suc (ended before (gap ++ after))) (line_texts (before ++ (gap ++ after))))
gap-next before before' gap after after' k is =
    ap (take (k - 1)) (rear before' (gap ++ after'))
    ∙ take-behind k (line_texts (gap ++ after')) (line_texts (gap ++ after)) (gap-first k gap after after' is)
    ∙ sym (ap (take (k - 1)) (rear before (gap ++ after)))

-- a list in three parts
pub dropped : {A : Type 0} (xs : List A) (i j : ℕ) → i ≤ j → drop i (take j xs) ≡ take (j - i) (drop i xs)
dropped xs i j l =
    let sum : j ≡ i + (j - i) = omega (arith, l) in
    ap (λ n. drop i (take n xs)) sum ∙ drop-take i (j - i) xs

taken : {A : Type 0} (xs : List A) (i j : ℕ) → i ≤ j → take i (take j xs) ≡ take i xs
taken xs zero j l = refl
taken xs (suc i) zero l = absurd (omega (arith, l))
taken [] (suc i) (suc j) l = refl
taken (x ∷ xs) (suc i) (suc j) l = ap (λ ys. x ∷ ys) (taken xs i j (omega (arith, l)))

pub two : {A : Type 0} (xs : List A) (i j : ℕ) → i ≤ j → take j xs ≡ take i xs ++ take (j - i) (drop i xs)
two xs i j l = sym (take-append-drop i (take j xs)) ∙ ap (λ ys. ys ++ drop i (take j xs)) (taken xs i j l) ∙ ap (λ ys. take i xs ++ ys) (dropped xs i j l)

three : {A : Type 0} (xs : List A) (a b c : ℕ) → a ≤ b → b ≤ c → take c xs ≡ take a xs ++ take (b - a) (drop a xs) ++ take (c - b) (drop b xs)
three xs a b c low high = two xs b c high ∙ ap (λ ys. ys ++ take (c - b) (drop b xs)) (two xs a b low)

-- ---- one more change

-- the numbers of one change: where the new lines begin if `k` breaks end in the gap
record Places (before before' gap removed inserted after after' : List ℕ) : Type 0 where
  pub f_is : line_at (before' ++ gap ++ inserted ++ after') (byte_len (before' ++ gap)) ≡ ended before' (gap ++ (inserted ++ after')) + ended gap (inserted ++ after')
  pub g_is : line_at (before' ++ gap ++ inserted ++ after') (byte_len (before' ++ gap ++ inserted))
      ≡ ended before' (gap ++ (inserted ++ after')) + ended gap (inserted ++ after') + ended inserted after'
  pub e_is : line_at (before ++ gap ++ removed ++ after) (byte_len (before ++ gap ++ removed))
      ≡ ended before (gap ++ (removed ++ after)) + ended gap (removed ++ after) + ended removed after

regroup : (a b c d : List ℕ) → ((a ++ b) ++ c) ++ d ≡ a ++ (b ++ (c ++ d))
regroup a b c d = append_assoc (a ++ b) c d ∙ append_assoc a b (c ++ d)

line-after : (a b c d : List ℕ) → line_at (((a ++ b) ++ c) ++ d) (byte_len ((a ++ b) ++ c)) ≡ ended a (b ++ (c ++ d)) + ended b (c ++ d) + ended c d
line-after a b c d =
    line_at-is (byte_len ((a ++ b) ++ c)) ((a ++ b) ++ c) d refl
    ∙ omega (arith, ended-append (a ++ b) c d, ended-append a b (c ++ d))

places : (before before' gap removed inserted after after' : List ℕ) → Places before before' gap removed inserted after after'
places before before' gap removed inserted after after' = record {
  f_is =
      ap (λ t. line_at t (byte_len (before' ++ gap))) (append_assoc (before' ++ gap) inserted after')
      ∙ line_at-is (byte_len (before' ++ gap)) (before' ++ gap) (inserted ++ after') refl
      ∙ ended-append before' gap (inserted ++ after');
  g_is = line-after before' gap inserted after';
  e_is = line-after before gap removed after;
}

-- kept and done, at the start or after a change, with the lines between that the gap keeps
record Kept (old new : List (List ℕ)) (kept done start e g k k' : ℕ) : Type 0 where
  pub between : take (start - done) (drop done new) ≡ take (start - done) (drop kept old)
  pub far : kept + (start - done) ≤ e + k' + 1
  pub forward : done ≤ start
  pub high : start ≤ g + k + 1
  pub low : g + k ≤ start

minus-none : (n : ℕ) → n - 0 ≡ n
minus-none n = omega arith

-- at the start of both texts
keeps-first : (gap after after' : List ℕ) (start : ℕ) → start ≡ ended gap after'
    → Kept (line_texts (gap ++ after)) (line_texts (gap ++ after')) 0 0 start 0 0 (ended gap after') (ended gap after)
keeps-first gap after after' start is = record {
  between =
      ap (λ n. take n (line_texts (gap ++ after'))) (minus-none start) ∙ gap-first start gap after after' (sym is)
      ∙ ap (λ n. take n (line_texts (gap ++ after))) (sym (minus-none start));
  far = omega (arith, is, near gap after' after);
  forward = omega arith;
  high = omega (arith, is);
  low = omega (arith, is);
}

-- after a change
keeps-next : (before before' gap after after' : List ℕ) (start : ℕ)
    → start ≡ max (ended before' (gap ++ after') + ended gap after') (suc (ended before' (gap ++ after')))
    → Kept (line_texts (before ++ (gap ++ after))) (line_texts (before' ++ (gap ++ after'))) (suc (ended before (gap ++ after))) (suc (ended before' (gap ++ after')))
    start (ended before (gap ++ after)) (ended before' (gap ++ after')) (ended gap after') (ended gap after)
keeps-next before before' gap after after' start is =
    let g = ended before' (gap ++ after') in
    let k = ended gap after' in
    let so : start - suc g ≡ k - 1 = omega (arith, is) in
    record {
      between =
          ap (λ n. take n (drop (suc g) (line_texts (before' ++ (gap ++ after'))))) so
          ∙ gap-next before before' gap after after' k refl
          ∙ ap (λ n. take n (drop (suc (ended before (gap ++ after))) (line_texts (before ++ (gap ++ after))))) (sym so);
      far = omega (arith, so, near gap after' after);
      forward = omega (arith, is);
      high = omega (arith, is);
      low = omega (arith, is);
    }

-- what a change needs of the lines before it
abbrev Keeps : List ℕ → List ℕ → List ℕ → List ℕ → List ℕ → ℕ → ℕ → Type 0
Keeps before before' gap after after' kept done =
    Kept (line_texts (before ++ (gap ++ after))) (line_texts (before' ++ (gap ++ after'))) kept done
    (max (ended before' (gap ++ after') + ended gap after') done)
    (ended before (gap ++ after)) (ended before' (gap ++ after')) (ended gap after') (ended gap after)

keeps-start : (gap after after' : List ℕ) → Keeps [] [] gap after after' 0 0
keeps-start gap after after' = keeps-first gap after after' (max (0 + ended gap after') 0) (omega arith)

keeps-at : (before before' gap after after' : List ℕ) (kept done : ℕ)
    → StandsAtLines (before ++ (gap ++ after)) (before' ++ (gap ++ after')) (byte_len before) (byte_len before') kept done → Keeps before before' gap after after' kept done
keeps-at before before' gap after after' kept done stands =
    let e : kept ≡ suc (ended before (gap ++ after)) = omega (arith, stands.old_is, line_at-is (byte_len before) before (gap ++ after) refl) in
    let g : done ≡ suc (ended before' (gap ++ after')) = omega (arith, stands.new_is, line_at-is (byte_len before') before' (gap ++ after') refl) in
    let start = max (ended before' (gap ++ after') + ended gap after') (suc (ended before' (gap ++ after'))) in
    subst (λ n. Keeps before before' gap after after' n done) (sym e)
    (subst (λ n. Keeps before before' gap after after' (suc (ended before (gap ++ after))) n) (sym g) (keeps-next before before' gap after after' start refl))

keeps : (before before' gap after after' : List ℕ) (kept done : ℕ) → IsInStep before before' (gap ++ after) (gap ++ after') kept done → Keeps before before' gap after after' kept done
keeps before before' gap after after' kept done step = elim step [
  | inl none ↦
      subst (λ n. Keeps before before' gap after after' n done) (sym none.none)
      (subst (λ n. Keeps before before' gap after after' 0 n) (sym none.none_new)
      (subst (λ xs. Keeps xs before' gap after after' 0 0) (sym none.old)
      (subst (λ xs. Keeps [] xs gap after after' 0 0) (sym none.new) (keeps-start gap after after'))))
  | inr stands ↦ keeps-at before before' gap after after' kept done stands
]

pub changes_keep : ChangesKeepLines
changes_keep before before' gap removed inserted after after' kept done step =
    let old = before ++ gap ++ removed ++ after in
    let new = before' ++ gap ++ inserted ++ after' in
    let at = places before before' gap removed inserted after after' in
    let there = ended before' (gap ++ (inserted ++ after')) + ended gap (inserted ++ after') in
    let start = max (line_at new (byte_len (before' ++ gap))) done in
    let last = line_at new (byte_len (before' ++ gap ++ inserted)) in
    let gone = line_at old (byte_len (before ++ gap ++ removed)) in
    let old_is : old ≡ before ++ (gap ++ (removed ++ after)) = regroup before gap removed after in
    let new_is : new ≡ before' ++ (gap ++ (inserted ++ after')) = regroup before' gap inserted after' in
    let step' : IsInStep before before' (gap ++ (removed ++ after)) (gap ++ (inserted ++ after')) kept done =
    subst (λ t. IsInStep before before' t (gap ++ (inserted ++ after')) kept done) (append_assoc gap removed after)
    (subst (λ t. IsInStep before before' (gap ++ removed ++ after) t kept done) (append_assoc gap inserted after') step) in
    let found = keeps before before' gap (removed ++ after) (inserted ++ after') kept done step' in
    let some : ended inserted after' ≤ breaks is_break inserted = few 0 inserted after' in
    let start_is : start ≡ max there done = ap (λ n. max n done) at.f_is in
    let high : start ≤ last + 1 = omega (arith, start_is, found.high, found.forward, at.g_is) in
    let between : take (start - done) (drop done (line_texts new)) ≡ take (start - done) (drop kept (line_texts old)) =
    ap (λ n. take (n - done) (drop done (line_texts new))) start_is
    ∙ ap (λ t. take (max there done - done) (drop done (line_texts t))) new_is
    ∙ found.between
    ∙ ap (λ t. take (max there done - done) (drop kept (line_texts t))) (sym old_is)
    ∙ ap (λ n. take (n - done) (drop kept (line_texts old))) (sym start_is) in (
      record {
        lines =
            three (line_texts new) done start (last + 1) (omega (arith, start_is, found.forward)) high
            ∙ ap (λ ls. take done (line_texts new) ++ ls ++ take (last + 1 - start) (drop start (line_texts new))) between;
        forward = omega (arith, start_is, found.forward);
        ordered = high;
        within = omega (arith, start_is, found.far, at.e_is);
        inside =
            let all : suc (ended (before ++ gap ++ removed) after) ≤ length (line_texts old) = behind (before ++ gap ++ removed) after in
            omega (arith, all, line_at-is (byte_len (before ++ gap ++ removed)) (before ++ gap ++ removed) after refl);
        inside_new =
            let all : suc (ended (before' ++ gap ++ inserted) after') ≤ length (line_texts new) = behind (before' ++ gap ++ inserted) after' in
            omega (arith, all, line_at-is (byte_len (before' ++ gap ++ inserted)) (before' ++ gap ++ inserted) after' refl);
      },
      omega (arith, start_is, found.low, at.g_is, some),
    )

tail-start : (before before' tail : List ℕ) (kept done : ℕ) → IsAtStart before before' kept done
    → line_texts (before' ++ tail) ≡ take done (line_texts (before' ++ tail)) ++ drop kept (line_texts (before ++ tail))
tail-start before before' tail kept done none =
    ap (λ t. line_texts (t ++ tail)) (none.new ∙ sym none.old)
    ∙ ap (λ n. take n (line_texts (before' ++ tail)) ++ line_texts (before ++ tail)) (sym none.none_new)
    ∙ ap (λ n. take done (line_texts (before' ++ tail)) ++ drop n (line_texts (before ++ tail))) (sym none.none)

tail-at : (before before' tail : List ℕ) (kept done : ℕ) → StandsAtLines (before ++ tail) (before' ++ tail) (byte_len before) (byte_len before') kept done
    → line_texts (before' ++ tail) ≡ take done (line_texts (before' ++ tail)) ++ drop kept (line_texts (before ++ tail))
tail-at before before' tail kept done stands =
    let e : suc (ended before tail) ≡ kept = omega (arith, stands.old_is, line_at-is (byte_len before) before tail refl) in
    let g : done ≡ suc (ended before' tail) = omega (arith, stands.new_is, line_at-is (byte_len before') before' tail refl) in
    sym (take-append-drop done (line_texts (before' ++ tail)))
    ∙ ap (λ ls. take done (line_texts (before' ++ tail)) ++ ls)
    (ap (λ n. drop n (line_texts (before' ++ tail))) g ∙ rear before' tail ∙ sym (rear before tail) ∙ ap (λ n. drop n (line_texts (before ++ tail))) e)

pub tails_keep : TailsKeepLines
tails_keep before before' tail kept done step = elim step [
  | inl none ↦ tail-start before before' tail kept done none
  | inr stands ↦ tail-at before before' tail kept done stands
]
