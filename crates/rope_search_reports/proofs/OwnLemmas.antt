-- A line in place is text.
use Rattle.std.proofs.Common.{◌≡◌, ◌+◌, ◌-◌, ◌<◌, ◌≤◌, ℕ, true, List, ◌++◌, length, take, drop, refl, sym, ap, subst, ◌∙◌, arith, chars, IsUtf8}
use Rattle.std.specs.Borrow.{Bor}
use Rattle.std.specs.Str.{all_scalars, IsCharBoundary}
use Rattle.std.proofs.lemmas.List.{length-take}
use Rattle.std.proofs.lemmas.List.Sums.{sum_by-append}
use Rattle.std.proofs.lemmas.Str.{IsUtf8-take, encodes-chars, scalars-chars}
use Rattle.str_indices.specs.Text.{byte_len, units, units_of}
use Rattle.rope_search_reports.proofs.LineLemmas.{byte_len-append, lines-in-place}
use Rattle.rope_search_reports.proofs.TextPlaces.{PlaceLaws, places}
use Rattle.rope_search_reports.specs.Report.{column}
use Rattle.rope_search_reports.proofs.ColumnLemmas.{column-further}
use Rattle.rope_search_reports.specs.Position.{line_text}
use Rattle.rope_search_reports.specs.Text.{bytes_of, line_count}
use Rattle.rope_search_reports.specs.Drafts.{HoldsText, own_text}
use Rattle.rope_search_reports.specs.declared.line.Line.{Line}
use Rattle.rope_search_reports.specs.declared.line.Line.TheVariants.{Whole, Narrow, Parted}

pub own-scalars : (line : Line) → HoldsText line → all_scalars (own_text line) ≡ true
own-scalars (Whole text) holds = scalars-chars text.now holds
own-scalars (Narrow text) holds = scalars-chars text.now holds.0
own-scalars (Parted slice) holds = holds

pub own-utf8 : (line : Line) → HoldsText line → IsUtf8 (bytes_of (own_text line))
own-utf8 line holds = (own_text line, (own-scalars line holds, refl))

-- in one chunk it has these bytes
pub whole-bytes : (line : Line) (text : Bor (List ℕ)) → line ≡ Whole text → HoldsText line → bytes_of (own_text line) ≡ text.now
whole-bytes line text is holds =
    let utf8 : IsUtf8 text.now = subst HoldsText is holds in
    ap (λ l. bytes_of (own_text l)) is ∙ encodes-chars text.now utf8

-- a narrow line has these bytes, and as many code units
pub narrow-bytes : (line : Line) (text : Bor (List ℕ)) → line ≡ Narrow text → HoldsText line → bytes_of (own_text line) ≡ text.now
narrow-bytes line text is holds =
    ap (λ l. bytes_of (own_text l)) is ∙ encodes-chars text.now (subst HoldsText is holds).0

pub narrow-units : (line : Line) (text : Bor (List ℕ)) → line ≡ Narrow text → HoldsText line → units (own_text line) ≡ byte_len (own_text line)
narrow-units line text is holds =
    subst (λ l. units (own_text l) ≡ byte_len (own_text l)) (sym is) (subst HoldsText is holds).1

-- each line of a text is narrow if the text is
pub narrow-line : (text : List ℕ) (line : ℕ) → line < line_count text → units text ≡ byte_len text → units (line_text text line) ≡ byte_len (line_text text line)
narrow-line text line inside narrow =
    let h = lines-in-place text line inside in
    let own = line_text text line in
    let before = h.before in
    let behind = h.behind in
    omega (
      arith,
      narrow,
      ap units h.parts ∙ sum_by-append units_of before (own ++ behind),
      sum_by-append units_of own behind,
      ap byte_len h.parts,
      byte_len-append before (own ++ behind),
      byte_len-append own behind,
      places.few_units before,
      places.few_units own,
      places.few_units behind,
    )

-- an offset there, and the column counted up to another one
pub record CountsOn (bytes : List ℕ) (place end : ℕ) : Type 0 where
  pub starts : IsCharBoundary bytes place
  pub ends : IsCharBoundary bytes end
  pub counted : column bytes end ≡ column bytes place + units (chars (take (end - place) (drop place bytes)))
  pub few : column bytes end ≤ end

pub counts-on : PlaceLaws → (line : Line) (text : Bor (List ℕ)) (place end : ℕ) → line ≡ Whole text → HoldsText line → IsCharBoundary (bytes_of (own_text line)) place
    → IsCharBoundary (bytes_of (own_text line)) end → place ≤ end → CountsOn text.now place end
counts-on law line text place end is holds starts ends low =
    let bytes = whole-bytes line text is holds in
    let utf8 : IsUtf8 text.now = subst HoldsText is holds in
    let starts' = subst (λ bs. IsCharBoundary bs place) bytes starts in
    let ends' = subst (λ bs. IsCharBoundary bs end) bytes ends in
    let front = IsUtf8-take text.now end utf8 ends' in
    record {
      starts = starts';
      ends = ends';
      counted = column-further text.now place end utf8 starts' low;
      few = omega (arith, law.few_units (chars (take end text.now)), ap length (encodes-chars (take end text.now) front), length-take end text.now);
    }
