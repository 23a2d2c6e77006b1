-- Rows of patches swapped with those that they replace.
use Rattle.std.proofs.Common.{◌≡◌, ℕ, ◌+◌, ◌-◌, ◌<◌, ◌≤◌, List, [], ◌∷◌, ◌++◌, length, take, drop, slice_index_or, slice_set, refl, sym, ap, ◌∙◌, subst, arith, append_assoc, length-append, length-drop}
use Rattle.std.proofs.lemmas.List.{drop-drop, drop-set, length-set, length-take-le, set-get_or, take-append-drop, take-set, take_more_set}
use Rattle.std.proofs.lemmas.List.Elements.{All-set}
use Rattle.std.proofs.Math.Seq.{take-add, drop-append_seam, take-append_seam}
use Rattle.rope_search_reports.specs.declared.patches.Patch.{Patch}
use Rattle.rope_search_reports.specs.Patches.{patched, AreInTurn, growth_by}
use Rattle.rope_search.specs.KeptRows.{MoveNoRow}
use Rattle.rope_search_reports.proofs.PutLemmas.{IsPutDown, IsPutDown-step, turn-within}

-- ---- patches around one of them

pub record IsBetween (at len : ℕ) (xs : List Patch) (p : Patch) (ys : List Patch) : Type 0 where
  pub before : AreInTurn at p.first xs
  pub ordered : p.first ≤ p.end
  pub behind : AreInTurn p.end len ys

pub turn-part : (at len : ℕ) (xs : List Patch) (p : Patch) (ys : List Patch) → AreInTurn at len (xs ++ p ∷ ys) → IsBetween at len xs p ys
turn-part at len [] p ys turn = record { before = turn.0; ordered = turn.1; behind = turn.2 }
turn-part at len (x ∷ xs) p ys turn =
    let rest = turn-part x.end len xs p ys turn.2 in
    record { before = (turn.0, turn.1, rest.before); ordered = rest.ordered; behind = rest.behind }

pub turn-whole : (at len : ℕ) (xs : List Patch) (p : Patch) (ys : List Patch) → IsBetween at len xs p ys → AreInTurn at len (xs ++ p ∷ ys)
turn-whole at len [] p ys parts = (parts.before, parts.ordered, parts.behind)
turn-whole at len (x ∷ xs) p ys parts =
    let before = parts.before in
    (before.0, before.1, turn-whole x.end len xs p ys (record { before = before.2; ordered = parts.ordered; behind = parts.behind }))

turn-later : (at at' len : ℕ) (ps : List Patch) → at ≤ at' → AreInTurn at' len ps → AreInTurn at len ps
turn-later at at' len [] less turn = omega (arith, less, turn)
turn-later at at' len (p ∷ ps) less turn = (omega (arith, less, turn.0), turn.1, turn.2)

-- ---- rows that patches leave

-- patches read only the rows from where they begin
pub patched-alike : (at : ℕ) (rows rows' : List (List (ℕ × ℕ))) (ps : List Patch) (len : ℕ) → drop at rows ≡ drop at rows' → AreInTurn at len ps
    → patched at rows ps ≡ patched at rows' ps
patched-alike at rows rows' [] len same turn = same
patched-alike at rows rows' (p ∷ ps) len same turn =
    let sum : at + (p.end - at) ≡ p.end = omega (arith, turn.0, turn.1) in
    let step : (xs : List (List (ℕ × ℕ))) → drop p.end xs ≡ drop (p.end - at) (drop at xs) = λ xs. ap (λ n. drop n xs) (sym sum) ∙ sym (drop-drop (p.end - at) at xs) in
    let rest = patched-alike p.end rows rows' ps len (step rows ∙ ap (drop (p.end - at)) same ∙ sym (step rows')) turn.2 in
    ap (λ xs. take (p.first - at) xs ++ p.made.items ++ patched p.end rows ps) same
    ∙ ap (λ xs. take (p.first - at) (drop at rows') ++ p.made.items ++ xs) rest

-- the rows before patches are those of the list
pub patched-front : (at end : ℕ) (rows : List (List (ℕ × ℕ))) (ps : List Patch) (len : ℕ) → at ≤ end → AreInTurn end len ps
    → take (end - at) (drop at rows) ++ patched end rows ps ≡ patched at rows ps
patched-front at end rows [] len ordered turn =
    let sum : at + (end - at) ≡ end = omega (arith, ordered) in
    ap (λ xs. take (end - at) (drop at rows) ++ xs) (ap (λ n. drop n rows) (sym sum) ∙ sym (drop-drop (end - at) at rows))
    ∙ take-append-drop (end - at) (drop at rows)
patched-front at end rows (p ∷ ps) len ordered turn =
    let sum : at + (end - at) ≡ end = omega (arith, ordered) in
    let sum' : (end - at) + (p.first - end) ≡ p.first - at = omega (arith, ordered, turn.0) in
    let here : drop end rows ≡ drop (end - at) (drop at rows) = ap (λ n. drop n rows) (sym sum) ∙ sym (drop-drop (end - at) at rows) in
    let front : take (end - at) (drop at rows) ++ take (p.first - end) (drop end rows) ≡ take (p.first - at) (drop at rows) =
    ap (λ xs. take (end - at) (drop at rows) ++ take (p.first - end) xs) here
    ∙ sym (take-add (end - at) (p.first - end) (drop at rows)) ∙ ap (λ n. take n (drop at rows)) sum' in
    sym (append_assoc (take (end - at) (drop at rows)) (take (p.first - end) (drop end rows) ++ p.made.items) (patched p.end rows ps))
    ∙ ap (λ xs. xs ++ patched p.end rows ps) (sym (append_assoc (take (end - at) (drop at rows)) (take (p.first - end) (drop end rows)) p.made.items))
    ∙ ap (λ xs. xs ++ p.made.items ++ patched p.end rows ps) front

-- ---- one patch after the other is swapped, from the last one on

pub record IsSwapped (old : List (List (ℕ × ℕ))) (all : List Patch) (rows : List (List (ℕ × ℕ))) (patches : List Patch) (left : ℕ) : Type 0 where
  pub within : left ≤ length patches
  pub long : length rows ≡ length old
  pub turn : AreInTurn 0 (length rows) patches
  pub still : MoveNoRow patches
  pub whole : patched 0 rows (take left patches) ≡ patched 0 old all
  pub back : patched 0 rows (drop left patches) ≡ old

-- a patch and its rows after the swap
pub record IsTurned (rows : List (List (ℕ × ℕ))) (p p' : Patch) : Type 0 where
  pub first : p'.first ≡ p.first
  pub end : p'.end ≡ p.end
  pub made : p'.made.items ≡ take (p.end - p.first) (drop p.first rows)

-- the rows around a patch stay
pub record StayAround (rows rows' : List (List (ℕ × ℕ))) (p : Patch) : Type 0 where
  pub long : length rows' ≡ length rows
  pub behind : drop p.end rows' ≡ drop p.end rows
  pub before : take p.first rows' ≡ take p.first rows

stay-around : (rows rows' : List (List (ℕ × ℕ))) (xs : List Patch) (p : Patch) (ys : List Patch) → AreInTurn 0 (length rows) (xs ++ p ∷ ys)
    → p.first + length p.made.items ≡ p.end → rows' ≡ take p.first rows ++ p.made.items ++ drop p.end rows → StayAround rows rows' p
stay-around rows rows' xs p ys turn still is =
    let parts = turn-part 0 (length rows) xs p ys turn in
    let within : p.end ≤ length rows = turn-within p.end (length rows) ys parts.behind in
    let kept : length (take p.first rows) ≡ p.first = length-take-le p.first rows (omega (arith, parts.ordered, within)) in
    let front : length (take p.first rows ++ p.made.items) ≡ p.end = omega (arith, length-append (take p.first rows) p.made.items, kept, still) in
    let joined : rows' ≡ take p.first rows ++ (p.made.items ++ drop p.end rows) = is ∙ append_assoc (take p.first rows) p.made.items (drop p.end rows) in
    record {
      long = omega (arith, ap length is, length-append (take p.first rows ++ p.made.items) (drop p.end rows), front, length-drop p.end rows, within);
      behind = ap (λ n. drop n rows') (sym front) ∙ ap (drop (length (take p.first rows ++ p.made.items))) is ∙ drop-append_seam (take p.first rows ++ p.made.items) (drop p.end rows);
      before = ap (λ n. take n rows') (sym kept) ∙ ap (take (length (take p.first rows))) joined ∙ take-append_seam (take p.first rows) (p.made.items ++ drop p.end rows);
    }

-- the patches up to one, which is then applied
swapped-whole : (old : List (List (ℕ × ℕ))) (all : List Patch) (rows rows' : List (List (ℕ × ℕ))) (xs : List Patch) (p : Patch) (ys : List Patch) → AreInTurn 0 (length rows) (xs ++ p ∷ ys)
    → patched 0 rows (xs ++ p ∷ []) ≡ patched 0 old all → rows' ≡ take p.first rows ++ p.made.items ++ drop p.end rows → patched 0 rows' xs ≡ patched 0 old all
swapped-whole old all rows rows' xs p ys turn whole is =
    let parts = turn-part 0 (length rows) xs p ys turn in
    let alone : AreInTurn 0 (length rows) (xs ++ p ∷ []) =
    turn-whole 0 (length rows) xs p [] (record { before = parts.before; ordered = parts.ordered; behind = turn-within p.end (length rows) ys parts.behind }) in
    let room = length rows + growth_by (xs ++ p ∷ []) in
    let put : IsPutDown old all rows (xs ++ p ∷ []) room = record { turn = alone; whole = whole; fits = omega arith } in
    (IsPutDown-step old all rows rows' (xs ++ p ∷ []) xs p room room refl put is (omega arith)).whole

-- it and those after it put the old rows back
swapped-back : (old rows rows' : List (List (ℕ × ℕ))) (xs : List Patch) (p p' : Patch) (ys : List Patch) → AreInTurn 0 (length rows) (xs ++ p ∷ ys)
    → p.first + length p.made.items ≡ p.end → rows' ≡ take p.first rows ++ p.made.items ++ drop p.end rows → IsTurned rows p p' → patched 0 rows ys ≡ old
    → patched 0 rows' (p' ∷ ys) ≡ old
swapped-back old rows rows' xs p p' ys turn still is turned back =
    let parts = turn-part 0 (length rows) xs p ys turn in
    let told = stay-around rows rows' xs p ys turn still is in
    let behind : patched p'.end rows' ys ≡ patched p.end rows ys =
    ap (λ n. patched n rows' ys) turned.end ∙ patched-alike p.end rows' rows ys (length rows) told.behind parts.behind in
    ap (λ n. take n rows' ++ p'.made.items ++ patched p'.end rows' ys) (omega (arith, turned.first))
    ∙ ap (λ ts. ts ++ p'.made.items ++ patched p'.end rows' ys) told.before
    ∙ ap (λ ms. take p.first rows ++ ms ++ patched p'.end rows' ys) turned.made
    ∙ ap (λ ts. take p.first rows ++ take (p.end - p.first) (drop p.first rows) ++ ts) behind
    ∙ append_assoc (take p.first rows) (take (p.end - p.first) (drop p.first rows)) (patched p.end rows ys)
    ∙ ap (λ ts. take p.first rows ++ ts) (patched-front p.first p.end rows ys (length rows) parts.ordered parts.behind)
    ∙ ap (λ n. take n rows ++ patched p.first rows ys) (omega arith)
    ∙ patched-front 0 p.first rows ys (length rows) (omega arith) (turn-later p.first p.end (length rows) ys parts.ordered parts.behind)
    ∙ back

pub swapped-step : (old : List (List (ℕ × ℕ))) (all : List Patch) (rows rows' : List (List (ℕ × ℕ))) (patches patches' : List Patch) (left : ℕ) (p p' : Patch)
    → IsSwapped old all rows patches (left + 1) → slice_index_or patches left p ≡ p → patches' ≡ slice_set patches left p'
    → rows' ≡ take p.first rows ++ p.made.items ++ drop p.end rows → IsTurned rows p p' → IsSwapped old all rows' patches' left
swapped-step old all rows rows' patches patches' left p p' so_far here put is turned =
    let xs = take left patches in
    let ys = drop (left + 1) patches in
    let low : left < length patches = omega (arith, so_far.within) in
    let same : slice_set patches left p ≡ patches = ap (slice_set patches left) (sym here) ∙ set-get_or patches left p in
    let behind : drop left patches ≡ p ∷ ys = ap (drop left) (sym same) ∙ drop-set patches left p low in
    let split : patches ≡ xs ++ p ∷ ys = sym (take-append-drop left patches) ∙ ap (λ l. xs ++ l) behind in
    let first : take (left + 1) patches ≡ xs ++ p ∷ [] = ap (take (left + 1)) (sym same) ∙ take_more_set patches left p low in
    let turn = subst (AreInTurn 0 (length rows)) split so_far.turn in
    let still : p.first + length p.made.items ≡ p.end = subst (λ (q : Patch). q.first + length q.made.items ≡ q.end) here (so_far.still left p low) in
    let stay = stay-around rows rows' xs p ys turn still is in
    let first' : take left patches' ≡ xs = ap (take left) put ∙ take-set patches left p' in
    let behind' : drop left patches' ≡ p' ∷ ys = ap (drop left) put ∙ drop-set patches left p' low in
    let split' : patches' ≡ xs ++ p' ∷ ys = sym (take-append-drop left patches') ∙ ap (λ l. take left patches' ++ l) behind' ∙ ap (λ l. l ++ p' ∷ ys) first' in
    let parts = turn-part 0 (length rows) xs p ys turn in
    let parts' : IsBetween 0 (length rows) xs p' ys = record {
      before = subst (λ n. AreInTurn 0 n xs) (sym turned.first) parts.before;
      ordered = omega (arith, parts.ordered, turned.first, turned.end);
      behind = subst (λ n. AreInTurn n (length rows) ys) (sym turned.end) parts.behind;
    } in
    let within : p.end ≤ length rows = turn-within p.end (length rows) ys parts.behind in
    let made : length p'.made.items ≡ p.end - p.first =
    ap length turned.made ∙ length-take-le (p.end - p.first) (drop p.first rows) (omega (arith, length-drop p.first rows, within, parts.ordered)) in
    let still' : p'.first + length p'.made.items ≡ p'.end = omega (arith, made, turned.first, turned.end, parts.ordered) in
    record {
      within = omega (arith, low, ap length put, length-set patches left p');
      long = stay.long ∙ so_far.long;
      turn = subst (λ n. AreInTurn 0 n patches') (sym stay.long) (subst (AreInTurn 0 (length rows)) (sym split') (turn-whole 0 (length rows) xs p' ys parts'));
      still = subst MoveNoRow (sym put) (All-set (λ (q : Patch). q.first + length q.made.items ≡ q.end) patches left p' still' so_far.still);
      whole = ap (patched 0 rows') first' ∙ swapped-whole old all rows rows' xs p ys turn (ap (patched 0 rows) (sym first) ∙ so_far.whole) is;
      back = ap (patched 0 rows') behind' ∙ swapped-back old rows rows' xs p p' ys turn still is turned so_far.back;
    }

-- what the next patch needs
pub swapped-within : (old : List (List (ℕ × ℕ))) (all : List Patch) (rows : List (List (ℕ × ℕ))) (patches : List Patch) (left : ℕ) (p : Patch)
    → IsSwapped old all rows patches (left + 1) → slice_index_or patches left p ≡ p → p.end ≤ length rows
swapped-within old all rows patches left p so_far here =
    let low : left < length patches = omega (arith, so_far.within) in
    let same : slice_set patches left p ≡ patches = ap (slice_set patches left) (sym here) ∙ set-get_or patches left p in
    let split : patches ≡ take left patches ++ p ∷ drop (left + 1) patches =
    sym (take-append-drop left patches) ∙ ap (λ l. take left patches ++ l) (ap (drop left) (sym same) ∙ drop-set patches left p low) in
    turn-within p.end (length rows) (drop (left + 1) patches)
    (turn-part 0 (length rows) (take left patches) p (drop (left + 1) patches) (subst (AreInTurn 0 (length rows)) split so_far.turn)).behind
