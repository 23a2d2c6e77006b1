-- Rows that are moved one by one, and patches that are applied.
use Rattle.std.proofs.Common.{◌≡◌, MatchOption, ℕ, zero, suc, ◌+◌, ◌-◌, ◌<◌, ◌≤◌, List, [], ◌∷◌, ◌++◌, length, take, drop, Option, None, Some, sym, ap, ◌∙◌, subst, arith, append_assoc, length-append, length-take, length-drop}
use Rattle.std.specs.Option.{option_to_list}
use Rattle.std.proofs.lemmas.List.{drop-drop, drop-append-le, take-append-le, take-take, drop-take, length-take-le}
use Rattle.std.proofs.lemmas.List.Sums.{sum_by-append, sum_by-cons}
use Rattle.rope_search_reports.specs.declared.patches.Patch.{Patch}
use Rattle.rope_search_reports.specs.Patches.{patched, AreInTurn, growth_by, growth_of}

-- one step of an iterator
pub record Stepped {A : Type 0} (all ys : List A) (i : ℕ) (r : Option A) : Type 0 where
  pub left : ys ≡ drop (i + 1) all
  pub moved : take (i + 1) all ≡ take i all ++ option_to_list r

take-more : {A : Type 0} (i : ℕ) (all : List A) (x : A) (ys : List A) → drop i all ≡ x ∷ ys → take (i + 1) all ≡ take i all ++ x ∷ []
take-more zero [] x ys is = absurd (omega (arith, ap length is))
take-more zero (a ∷ all) x ys is = ap (take 1) is
take-more (suc i) [] x ys is = absurd (omega (arith, ap length is))
take-more (suc i) (a ∷ all) x ys is =
    let more : suc i + 1 ≡ suc (i + 1) = omega arith in
    ap (λ n. take n (a ∷ all)) more ∙ ap (λ zs. a ∷ zs) (take-more i all x ys is)

next-drop : {A : Type 0} (all ys : List A) (i : ℕ) (x : A) → drop i all ≡ x ∷ ys → Stepped all ys i (Some x)
next-drop all ys i x is =
    record {
      left = sym (ap (drop 1) is) ∙ drop-drop 1 i all;
      moved = take-more i all x ys is;
    }

pub stepped : {A : Type 0} (all xs ys : List A) (i n m : ℕ) (r : Option A) → xs ≡ drop i all → i < length all → length xs ≡ n
    → MatchOption r ((n ≡ 0) × (m ≡ 0)) (λ x. (xs ≡ x ∷ ys) × (m + 1 ≡ n)) → Stepped all ys i r
stepped all xs ys i n m None is less len none = absurd (omega (arith, less, len, none.0, ap length is, length-drop i all))
stepped all xs ys i n m (Some x) is less len some = next-drop all ys i x (sym is ∙ some.0)

-- ---- patches

-- patches in order end inside the list
pub turn-within : (at len : ℕ) (patches : List Patch) → AreInTurn at len patches → at ≤ len
turn-within at len [] turn = turn
turn-within at len (p ∷ ps) turn = omega (arith, turn.0, turn.1, turn-within p.end len ps turn.2)

-- the first patches are applied, with the rows before the last of them; the rows from `at` on and
-- the other patches are left
pub record IsPut (rows : List (List (ℕ × ℕ))) (patches : List Patch) (out left : List (List (ℕ × ℕ))) (at : ℕ) (rest : List Patch) (room : ℕ) : Type 0 where
  pub left_is : left ≡ drop at rows
  pub turn : AreInTurn at (length rows) rest
  pub whole : out ++ patched at rows rest ≡ patched 0 rows patches
  pub fits : length (patched 0 rows patches) ≤ room

-- what the next patch needs
pub record NextFits (left out : List (List (ℕ × ℕ))) (at first end made most : ℕ) : Type 0 where
  pub kept : first - at ≤ length left
  pub gone : end - first ≤ length (drop (first - at) left)
  pub room : length out + (first - at) + made ≤ most
  pub ordered : at ≤ first
  pub ordered' : first ≤ end

pub IsPut-next : (rows : List (List (ℕ × ℕ))) (patches : List Patch) (out left : List (List (ℕ × ℕ))) (at : ℕ) (p : Patch) (ps rest : List Patch) (room : ℕ)
    → rest ≡ p ∷ ps → IsPut rows patches out left at rest room → NextFits left out at p.first p.end (length p.made.items) room
IsPut-next rows patches out left at p ps rest room is put =
    let turn = subst (AreInTurn at (length rows)) is put.turn in
    let within = turn-within p.end (length rows) ps turn.2 in
    let long : length left ≡ length rows - at = ap length put.left_is ∙ length-drop at rows in
    let kept : length (take (p.first - at) (drop at rows)) ≡ p.first - at = omega (arith, length-take (p.first - at) (drop at rows), length-drop at rows, turn.0, turn.1, within) in
    let whole = ap length (ap (λ xs. out ++ patched at rows xs) (sym is) ∙ put.whole) in
    record {
      kept = omega (arith, long, turn.0, turn.1, within);
      gone = omega (arith, length-drop (p.first - at) left, long, turn.0, turn.1, within);
      room =
          omega (
            arith,
            put.fits,
            whole,
            kept,
            length-append out (take (p.first - at) (drop at rows) ++ p.made.items ++ patched p.end rows ps),
            length-append (take (p.first - at) (drop at rows) ++ p.made.items) (patched p.end rows ps),
            length-append (take (p.first - at) (drop at rows)) p.made.items,
          );
      ordered = turn.0;
      ordered' = turn.1;
    }

pub IsPut-step : (rows : List (List (ℕ × ℕ))) (patches : List Patch) (out left out' left' : List (List (ℕ × ℕ))) (at : ℕ) (p : Patch) (ps rest : List Patch) (room : ℕ)
    → rest ≡ p ∷ ps → IsPut rows patches out left at rest room
    → out' ≡ out ++ take (p.first - at) left ++ p.made.items → left' ≡ drop (p.end - p.first) (drop (p.first - at) left)
    → IsPut rows patches out' left' p.end ps room
IsPut-step rows patches out left out' left' at p ps rest room is put out-is left-is =
    let turn = subst (AreInTurn at (length rows)) is put.turn in
    let kept = take (p.first - at) (drop at rows) in
    let sum : (p.end - p.first) + ((p.first - at) + at) ≡ p.end = omega (arith, turn.0, turn.1) in
    record {
      left_is =
          left-is ∙ ap (λ xs. drop (p.end - p.first) (drop (p.first - at) xs)) put.left_is
          ∙ ap (drop (p.end - p.first)) (drop-drop (p.first - at) at rows)
          ∙ drop-drop (p.end - p.first) (at + (p.first - at)) rows
          ∙ ap (λ n. drop n rows) (omega (arith, turn.0, turn.1));
      turn = turn.2;
      whole =
          ap (λ xs. xs ++ patched p.end rows ps) (out-is ∙ ap (λ xs. out ++ take (p.first - at) xs ++ p.made.items) put.left_is)
          ∙ (append_assoc (out ++ kept) p.made.items (patched p.end rows ps)
          ∙ append_assoc out kept (p.made.items ++ patched p.end rows ps)
          ∙ ap (λ xs. out ++ xs) (sym (append_assoc kept p.made.items (patched p.end rows ps))))
          ∙ ap (λ xs. out ++ patched at rows xs) (sym is) ∙ put.whole;
      fits = put.fits;
    }

pub IsPut-room : (rows : List (List (ℕ × ℕ))) (patches : List Patch) (out left : List (List (ℕ × ℕ))) (at : ℕ) (rest : List Patch) (room room' : ℕ) → room ≤ room'
    → IsPut rows patches out left at rest room → IsPut rows patches out left at rest room'
IsPut-room rows patches out left at rest room room' more put = record {
  left_is = put.left_is;
  turn = put.turn;
  whole = put.whole;
  fits = omega (arith, more, put.fits);
}

-- ---- patches applied in place, from the last one on

-- where the last patch is
pub record IsLast (at len : ℕ) (p : Patch) : Type 0 where
  pub behind : at ≤ p.first
  pub ordered : p.first ≤ p.end
  pub within : p.end ≤ len

pub last-turn : (at len : ℕ) (ps : List Patch) (p : Patch) → AreInTurn at len (ps ++ p ∷ []) → IsLast at len p
last-turn at len [] p turn = record { behind = turn.0; ordered = turn.1; within = turn.2 }
last-turn at len (q ∷ ps) p turn =
    let last = last-turn q.end len ps p turn.2 in
    record { behind = omega (arith, turn.0, turn.1, last.behind); ordered = last.ordered; within = last.within }

-- the others end before it
first-turn : (at len : ℕ) (ps : List Patch) (p : Patch) (more : ℕ) → AreInTurn at len (ps ++ p ∷ []) → p.first ≤ more → AreInTurn at more ps
first-turn at len [] p more turn less = omega (arith, turn.0, less)
first-turn at len (q ∷ ps) p more turn less = (turn.0, turn.1, first-turn q.end len ps p more turn.2 less)

-- rows of a range before a patch
before-patch : (at first n : ℕ) (rows behind : List (List (ℕ × ℕ))) → at + n ≤ first → first ≤ length rows
    → take n (drop at (take first rows ++ behind)) ≡ take n (drop at rows)
before-patch at first n rows behind less within =
    let kept : length (take first rows) ≡ first = length-take-le first rows within in
    let left : length (drop at (take first rows)) ≡ first - at = omega (arith, length-drop at (take first rows), kept) in
    let sum : at + (first - at) ≡ first = omega (arith, less) in
    let front : drop at (take first rows) ≡ take (first - at) (drop at rows) = ap (λ m. drop at (take m rows)) (sym sum) ∙ drop-take at (first - at) rows in
    let sum' : n + (first - at - n) ≡ first - at = omega (arith, less) in
    ap (take n) (drop-append-le at (take first rows) behind (omega (arith, kept, less)))
    ∙ take-append-le n (drop at (take first rows)) behind (omega (arith, left, less))
    ∙ ap (take n) front
    ∙ take-take n (first - at) (drop at rows) (omega (arith, less))

-- the rows from an index on, up to a patch and after it
drop-front : (at first : ℕ) (rows behind : List (List (ℕ × ℕ))) → at ≤ first → first ≤ length rows
    → drop at (take first rows ++ behind) ≡ take (first - at) (drop at rows) ++ behind
drop-front at first rows behind less within =
    let kept : length (take first rows) ≡ first = length-take-le first rows within in
    let sum : at + (first - at) ≡ first = omega (arith, less) in
    drop-append-le at (take first rows) behind (omega (arith, kept, less))
    ∙ ap (λ xs. xs ++ behind) (ap (λ m. drop at (take m rows)) (sym sum) ∙ drop-take at (first - at) rows)

-- the last patch is applied, and the others are left
last-put : (at : ℕ) (rows : List (List (ℕ × ℕ))) (ps : List Patch) (p : Patch) → AreInTurn at (length rows) (ps ++ p ∷ [])
    → patched at (take p.first rows ++ (p.made.items ++ drop p.end rows)) ps ≡ patched at rows (ps ++ p ∷ [])
last-put at rows [] p turn =
    drop-front at p.first rows (p.made.items ++ drop p.end rows) turn.0 (omega (arith, turn.1, turn.2))
    ∙ sym (append_assoc (take (p.first - at) (drop at rows)) p.made.items (drop p.end rows))
last-put at rows (q ∷ ps) p turn =
    let last = last-turn q.end (length rows) ps p turn.2 in
    let behind = p.made.items ++ drop p.end rows in
    ap (λ xs. xs ++ q.made.items ++ patched q.end (take p.first rows ++ behind) ps)
    (before-patch at p.first (q.first - at) rows behind (omega (arith, turn.0, turn.1, last.behind)) (omega (arith, last.ordered, last.within)))
    ∙ ap (λ xs. take (q.first - at) (drop at rows) ++ q.made.items ++ xs) (last-put q.end rows ps p turn.2)

-- the last patches are applied, and the first ones are left
pub record IsPutDown (old : List (List (ℕ × ℕ))) (all : List Patch) (rows : List (List (ℕ × ℕ))) (patches : List Patch) (room : ℕ) : Type 0 where
  pub turn : AreInTurn 0 (length rows) patches
  pub whole : patched 0 rows patches ≡ patched 0 old all
  pub fits : length rows + growth_by patches ≤ room

-- the last patch needs no more room than its growth
pub last-fits : (rows : List (List (ℕ × ℕ))) (patches ps : List Patch) (p : Patch) (room : ℕ) → patches ≡ ps ++ p ∷ [] → length rows + growth_by patches ≤ room → length rows + growth_of p ≤ room
last-fits rows patches ps p room is fits =
    omega (arith, fits, ap growth_by is, sum_by-append growth_of ps (p ∷ []), sum_by-cons growth_of p [])

pub IsPutDown-step : (old : List (List (ℕ × ℕ))) (all : List Patch) (rows rows' : List (List (ℕ × ℕ))) (patches ps : List Patch) (p : Patch) (room room' : ℕ)
    → patches ≡ ps ++ p ∷ [] → IsPutDown old all rows patches room
    → rows' ≡ take p.first rows ++ p.made.items ++ drop p.end rows → room ≤ room' → IsPutDown old all rows' ps room'
IsPutDown-step old all rows rows' patches ps p room room' is put rows-is more =
    let turn = subst (AreInTurn 0 (length rows)) is put.turn in
    let last = last-turn 0 (length rows) ps p turn in
    let joined : rows' ≡ take p.first rows ++ (p.made.items ++ drop p.end rows) = rows-is ∙ append_assoc (take p.first rows) p.made.items (drop p.end rows) in
    let kept : length (take p.first rows) ≡ p.first = length-take-le p.first rows (omega (arith, last.ordered, last.within)) in
    let long : length rows' ≡ p.first + (length p.made.items + (length rows - p.end)) =
    omega (
      arith,
      ap length joined,
      length-append (take p.first rows) (p.made.items ++ drop p.end rows),
      length-append p.made.items (drop p.end rows),
      length-drop p.end rows,
      kept,
    ) in
    let grown : growth_by patches ≡ growth_by ps + growth_of p =
    omega (arith, ap growth_by is, sum_by-append growth_of ps (p ∷ []), sum_by-cons growth_of p []) in
    record {
      turn = first-turn 0 (length rows) ps p (length rows') turn (omega (arith, long));
      whole = ap (λ xs. patched 0 xs ps) joined ∙ last-put 0 rows ps p turn ∙ ap (patched 0 rows) (sym is) ∙ put.whole;
      fits = omega (arith, put.fits, long, grown, last.ordered, last.within, more);
    }
