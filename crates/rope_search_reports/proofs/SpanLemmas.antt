-- Spans of matches in a line, as columns.
use Rattle.std.proofs.Common.{◌≡◌, ℕ, zero, suc, ◌+◌, ◌-◌, ◌<◌, ◌≤◌, List, [], ◌∷◌, length, take, drop, map, get_or, chars, IsUtf8, refl, sym, ap, ap₂, subst, ◌∙◌, arith}
use Rattle.std.specs.Str.{IsCharBoundary}
use Rattle.std.proofs.lemmas.List.{drop_more, length-take}
use Rattle.std.proofs.lemmas.Str.{IsCharBoundary-start, IsUtf8-between, chars-nil, encodes-chars}
use Rattle.str_indices.specs.Text.{units}
use Rattle.rope_search_reports.specs.Report.{column, columns}
use Rattle.rope_search_reports.specs.Replacement.{FollowEachOther, alone}
use Rattle.rope_search_reports.proofs.ColumnLemmas.{column-further}
use Rattle.rope_search_reports.proofs.TextPlaces.{PlaceLaws}

-- ---- columns of two offsets

pub column-start : (content : List ℕ) → column content 0 ≡ 0
column-start content = ap units chars-nil

pub column-rises : (content : List ℕ) (place end : ℕ) → IsUtf8 content → IsCharBoundary content place → place ≤ end → column content place ≤ column content end
column-rises content place end utf8 starts low = omega (arith, column-further content place end utf8 starts low)

-- no more code units than bytes are between them
pub column-few : PlaceLaws → (content : List ℕ) (place end : ℕ) → IsUtf8 content → IsCharBoundary content place → IsCharBoundary content end → place ≤ end
    → column content end ≤ column content place + (end - place)
column-few law content place end utf8 starts ends low =
    let piece = take (end - place) (drop place content) in
    let own = IsUtf8-between content place end utf8 low starts ends in
    omega (arith, column-further content place end utf8 starts low, law.few_units (chars piece), ap length (encodes-chars piece own), length-take (end - place) (drop place content))

-- if there are as many, there are up to each offset between them
pub column-between : PlaceLaws → (content : List ℕ) (place start end : ℕ) → IsUtf8 content → IsCharBoundary content place → IsCharBoundary content start → IsCharBoundary content end
    → place ≤ start → start ≤ end → column content end - column content place ≡ end - place → column content start ≡ column content place + (start - place)
column-between law content place start end utf8 at starts ends low high narrow =
    omega (
      arith,
      low,
      high,
      narrow,
      column-rises content place start utf8 at low,
      column-rises content start end utf8 starts high,
      column-few law content place start utf8 at starts low,
      column-few law content start end utf8 starts ends high,
    )

-- so it is from the start
pub column-same : PlaceLaws → (content : List ℕ) (start end : ℕ) → IsUtf8 content → IsCharBoundary content start → IsCharBoundary content end → start ≤ end → column content end ≡ end
    → column content start ≡ start
column-same law content start end utf8 starts ends low narrow =
    let from = IsCharBoundary-start content utf8 in
    let none = column-start content in
    omega (arith, none, column-between law content 0 start end utf8 from starts ends (omega arith) low (omega (arith, none, narrow)))

-- ---- spans in order

-- where the last of some spans ends
abbrev pub last-end : ℕ → List (ℕ × ℕ) → ℕ
last-end at [] = at
last-end at (span ∷ spans) = last-end span.1 spans

pub last-is : (spans : List (ℕ × ℕ)) (at k : ℕ) (d : ℕ × ℕ) → length spans ≡ k + 1 → (get_or spans k d).1 ≡ last-end at spans
last-is [] at k d is = absurd (omega (arith, is))
last-is (s ∷ []) at zero d is = refl
last-is (s ∷ []) at (suc k) d is = absurd (omega (arith, is))
last-is (s ∷ t ∷ ts) at zero d is = absurd (omega (arith, is))
last-is (s ∷ t ∷ ts) at (suc k) d is = last-is (t ∷ ts) s.1 k d (omega (arith, is))

-- it is a character boundary, after where they begin
pub record EndsAt (content : List ℕ) (at end : ℕ) : Type 0 where
  pub rises : at ≤ end
  pub stands : IsCharBoundary content end

pub ends-at : (content : List ℕ) (at : ℕ) (spans : List (ℕ × ℕ)) → FollowEachOther content at (map alone spans) → IsCharBoundary content at → EndsAt content at (last-end at spans)
ends-at content at [] follow stands = record { rises = omega arith; stands = stands }
ends-at content at (s ∷ ss) follow stands =
    let further = ends-at content s.1 ss follow.4 follow.3 in
    let rises = further.rises in
    record { rises = omega (arith, follow.0, follow.1, rises); stands = further.stands }

-- if each character up to there takes one byte, offsets are columns
pub narrow-spans : PlaceLaws → (content : List ℕ) (at : ℕ) (spans : List (ℕ × ℕ)) → IsUtf8 content → FollowEachOther content at (map alone spans)
    → column content (last-end at spans) ≡ last-end at spans → map (columns content) spans ≡ spans
narrow-spans law content at [] utf8 follow narrow = refl
narrow-spans law content at (s ∷ ss) utf8 follow narrow =
    let end = last-end s.1 ss in
    let further = ends-at content s.1 ss follow.4 follow.3 in
    let rises = further.rises in
    let pair : ℕ → ℕ → ℕ × ℕ = λ m n. (m, n) in
    let first : columns content s ≡ s =
    ap₂ pair (column-same law content s.0 end utf8 follow.2 further.stands (omega (arith, follow.1, rises)) narrow)
    (column-same law content s.1 end utf8 follow.3 further.stands rises narrow) in
    let cons : ℕ × ℕ → List (ℕ × ℕ) → List (ℕ × ℕ) = λ x xs. x ∷ xs in
    ap₂ cons first (narrow-spans law content s.1 ss utf8 follow.4 narrow)

-- ---- the spans from one on

pub record NextSpan (content : List ℕ) (at : ℕ) (span : ℕ × ℕ) (spans : List (ℕ × ℕ)) : Type 0 where
  pub behind : at ≤ span.0
  pub ordered : span.0 ≤ span.1
  pub starts : IsCharBoundary content span.0
  pub ends : IsCharBoundary content span.1
  pub follow : FollowEachOther content span.1 (map alone spans)

pub next-span : (content : List ℕ) (at : ℕ) (spans : List (ℕ × ℕ)) (k : ℕ) (d : ℕ × ℕ) → k < length spans → FollowEachOther content at (map alone (drop k spans))
    → NextSpan content at (get_or spans k d) (drop (k + 1) spans)
next-span content at spans k d inside follow =
    let here = subst (λ ss. FollowEachOther content at (map alone ss)) (drop_more spans k d inside) follow in
    record { behind = here.0; ordered = here.1; starts = here.2; ends = here.3; follow = here.4 }

-- two lists alike from one on are alike there
pub same-at : (xs ys : List (ℕ × ℕ)) (k : ℕ) (d : ℕ × ℕ) → k < length xs → k < length ys → drop k xs ≡ drop k ys
    → (get_or xs k d ≡ get_or ys k d) × (drop (k + 1) xs ≡ drop (k + 1) ys)
same-at xs ys k d inside inside' same =
    let both : get_or xs k d ∷ drop (k + 1) xs ≡ get_or ys k d ∷ drop (k + 1) ys = sym (drop_more xs k d inside) ∙ same ∙ drop_more ys k d inside' in
    (ap (λ l. get_or l 0 d) both, ap (drop 1) both)
