-- Lines in which nothing matches, known from the offsets before one.
use Rattle.std.proofs.Common.{◌≡◌, ℕ, suc, ◌+◌, ◌-◌, ◌^◌, ◌<◌, ◌≤◌, min, true, chars, IsUtf8, append-nil, inl, inr, List, [], ◌∷◌, ◌++◌, Option, None, Some, IfSome, length, take, drop, get_or, replicate, refl, sym, ap, subst, ◌∙◌, arith, length-drop, append_assoc}
use Rattle.std.proofs.lemmas.List.{drop-drop, drop-take, length-take, get_or-take, get_or-drop, replicate_more}
use Rattle.std.specs.Option.{is_some}
use Rattle.std.proofs.lemmas.Bool.{true≢false}
use Rattle.std.proofs.lemmas.Str.{encodes-chars, len_utf8_bounds}
use Rattle.ropey.specs.Chunks.{is_break}
use Rattle.str_indices.specs.Laws.{RisesWithIndex}
use Rattle.str_indices.specs.Text.{byte_len, break_ends, breaks}
use Rattle.regex_cursor.specs.NextMatches.{nothing}
use Rattle.regex_cursor.specs.Patterns.{Tree, SpellsTree, TreeFinds, HasNoMatchBetween, between}
use Rattle.rope_search_reports.specs.Text.{bytes_of, line_count}
use Rattle.rope_search_reports.specs.Pattern.{FindsMatch}
use Rattle.rope_search_reports.specs.Position.{line_at, line_start, line_text, text_end}
use Rattle.rope_search_reports.specs.Report.{line_texts, IsRow, AreRows}
use Rattle.rope_search_reports.specs.Ticks.{Ticks, MakesAsMany, MakesAtMost}
use Rattle.rope_search_reports.specs.Drafts.{AddsRows, HaveNoMatches, FindsNoneBetween, lines_between}
use Rattle.rope_search_reports.proofs.TextPlaces.{PlaceLaws}
use Rattle.rope_search_reports.proofs.ChangeLemmas.{dropped, two}
use Rattle.rope_search_reports.proofs.LineLemmas.{byte_len-one, lines-counted, lines-in-place}
use Rattle.rope_search_reports.proofs.MatchLemmas.{AllHaveFinds, Searched-start}
use Rattle.rope_search_reports.proofs.PartLemmas.{past-last}
use Rattle.rope_search_reports.proofs.PlaceLemmas.{line_inside}
use Rattle.rope_search_reports.proofs.ReportLaws.{AreRows-join}
use Rattle.rope_search_reports.proofs.RowLemmas.{columns_of, last-row, row-is}

-- what a regex reports for the tree of a pattern holds for the pattern
none-between : (pattern content : List ℕ) (from place : ℕ) (tree : Tree) → SpellsTree pattern tree → HasNoMatchBetween tree content from place → FindsNoneBetween pattern content from place
none-between pattern content from place tree spells none start end behind before = record { tree = tree; spells = spells; finds = none start end behind before }

pub none-told : (pattern content content' : List ℕ) (from from' : ℕ) (tree : Tree) (place : Option ℕ) → SpellsTree pattern tree → content' ≡ content → from' ≡ from
    → IfSome place (HasNoMatchBetween tree content' from') → IfSome place (FindsNoneBetween pattern content from)
none-told pattern content content' from from' tree None spells same start told = tt
none-told pattern content content' from from' tree (Some place) spells same start told =
    let there : HasNoMatchBetween tree content from' place = subst (λ cs. HasNoMatchBetween tree cs from' place) same told in
    none-between pattern content from place tree spells (subst (λ n. HasNoMatchBetween tree content n place) start there)

-- a line that has no match has an empty row
bare-row : AllHaveFinds → (pattern line : List ℕ) → FindsMatch pattern (bytes_of line) 0 None → IsRow pattern line []
bare-row finds pattern line is =
    let has = finds is.tree in
    row-is pattern line is.tree [] is.spells (last-row is.tree line None [] has (nothing is.finds) (Searched-start (columns_of (bytes_of line)) is.tree (bytes_of line) has))

-- if no part of a text has a match, the empty text has none
pub bare-empty : AllHaveFinds → (pattern content : List ℕ) (place : ℕ) → FindsNoneBetween pattern content 0 place → IsRow pattern [] []
bare-empty finds pattern content place none = bare-row finds pattern [] (none 0 0 (omega arith) (omega arith))

-- where lines start
pub starts-within : RisesWithIndex (break_ends is_break) → (text : List ℕ) (line : ℕ) → line ≤ line_count text → line_start text line ≤ byte_len text
starts-within rises text line inside = omega (arith, rises text line (line_count text) inside, past-last text (breaks is_break text) refl)

module _ (law : PlaceLaws) (rises : RisesWithIndex (break_ends is_break)) (text : List ℕ) where
  -- a line before the one that contains an offset ends at the offset or before it
  ends-before : (line place : ℕ) → line < line_at text place → text_end text line ≤ place
  ends-before line place before =
      let inside = line_inside text place in
      let h = lines-in-place text line (omega (arith, before, inside)) in
      elim h.ended [
        | inl is_last ↦ let last = is_last.last in absurd (omega (arith, last, before, inside))
        | inr broken ↦
            let next = broken.next in
            let start : line_start text (line + 1) ≤ place = (law.lines_agree text (line + 1) place (omega (arith, before, inside))).1 (omega (arith, before)) in
            omega (arith, next, start)
      ]

  pub bare-line : AllHaveFinds → (pattern : List ℕ) (first place line : ℕ) → first ≤ line → line < line_at text place → FindsNoneBetween pattern (bytes_of text) (line_start text first) place
      → IsRow pattern (line_text text line) []
  bare-line finds pattern first place line behind before none =
      let inside = line_inside text place in
      let h = lines-in-place text line (omega (arith, before, inside)) in
      let start = line_start text line in
      let stop = text_end text line in
      let is : FindsMatch pattern (between start stop (bytes_of text)) 0 None = none start stop (rises text first line behind) (ends-before line place before) in
      let own : between start stop (bytes_of text) ≡ bytes_of (line_text text line) = dropped (bytes_of text) start stop (omega arith) ∙ h.bytes in
      bare-row finds pattern (line_text text line) (subst (λ bytes. FindsMatch pattern bytes 0 None) own is)

-- ---- rows of some lines after those of others

-- the lines of a range, split at a line
lines-joined : (text : List ℕ) (first mid end : ℕ) → first ≤ mid → mid ≤ end → lines_between text first mid ++ lines_between text mid end ≡ lines_between text first end
lines-joined text first mid end low high =
    let lines = drop first (line_texts text) in
    let there : first + (mid - first) ≡ mid = omega (arith, low) in
    let count : end - first - (mid - first) ≡ end - mid = omega (arith, low, high) in
    sym (two lines (mid - first) (end - first) (omega (arith, high))
    ∙ ap (λ n. take (mid - first) lines ++ take n (drop (mid - first) lines)) count
    ∙ ap (λ ls. take (mid - first) lines ++ take (end - mid) ls) (drop-drop (mid - first) first (line_texts text) ∙ ap (λ n. drop n (line_texts text)) there))

pub rows-added : (pattern text : List ℕ) (first mid end : ℕ) (rows rows' : List (List (ℕ × ℕ))) → first ≤ mid → mid ≤ end → AreRows pattern (lines_between text first mid) rows
    → AddsRows pattern (lines_between text mid end) rows rows' → AreRows pattern (lines_between text first end) rows'
rows-added pattern text first mid end rows rows' low high are adds =
    subst (λ ls. AreRows pattern ls rows') (lines-joined text first mid end low high)
    (subst (AreRows pattern (lines_between text first mid ++ lines_between text mid end)) (sym adds.behind)
    (AreRows-join pattern (lines_between text first mid) (lines_between text mid end) rows adds.made are adds.are))

-- the rows of lines without matches
bare-rows : (pattern : List ℕ) (owns : List (List ℕ)) → ((k : ℕ) → k < length owns → IsRow pattern (get_or owns k []) []) → AreRows pattern owns (replicate (length owns) [])
bare-rows pattern [] is = tt
bare-rows pattern (own ∷ owns) is = (is 0 (omega arith), bare-rows pattern owns (λ k below. is (suc k) (omega (arith, below))))

pub bare-added : (pattern text : List ℕ) (first end : ℕ) (rows rows' : List (List (ℕ × ℕ))) → first ≤ end → end ≤ line_count text → HaveNoMatches pattern text first end
    → rows' ≡ rows ++ replicate (end - first) [] → AddsRows pattern (lines_between text first end) rows rows'
bare-added pattern text first end rows rows' low high bare is =
    let lines = drop first (line_texts text) in
    let owns = lines_between text first end in
    let counted = lines-counted text in
    let long : length owns ≡ end - first = omega (arith, length-take (end - first) lines, length-drop first (line_texts text), counted, low, high) in
    record {
      made = replicate (end - first) [];
      are = subst (λ n. AreRows pattern owns (replicate n [])) long (bare-rows pattern owns (λ k below.
          let own : get_or owns k [] ≡ line_text text (first + k) = get_or-take (end - first) lines k [] (omega (arith, below, long)) ∙ get_or-drop first (line_texts text) k [] in
          subst (λ line. IsRow pattern line []) (sym own) (bare (first + k) (omega arith) (omega (arith, below, long, low)))));
      behind = is;
    }

-- rows of lines, and then those of the following lines
pub adds-joined : (pattern text : List ℕ) (first mid end : ℕ) (rows rows' rows'' : List (List (ℕ × ℕ))) → first ≤ mid → mid ≤ end → AddsRows pattern (lines_between text first mid) rows rows'
    → AddsRows pattern (lines_between text mid end) rows' rows'' → AddsRows pattern (lines_between text first end) rows rows''
adds-joined pattern text first mid end rows rows' rows'' low high one other = record {
  made = one.made ++ other.made;
  are = subst (λ ls. AreRows pattern ls (one.made ++ other.made)) (lines-joined text first mid end low high)
      (AreRows-join pattern (lines_between text first mid) (lines_between text mid end) one.made other.made one.are other.are);
  behind = other.behind ∙ ap (λ rs. rs ++ other.made) one.behind ∙ append_assoc rows one.made other.made;
}

pub rows-start : (pattern text : List ℕ) (first : ℕ) → AreRows pattern (lines_between text first first) []
rows-start pattern text first =
    let none : 0 ≡ first - first = omega arith in
    subst (λ n. AreRows pattern (take n (drop first (line_texts text))) []) none tt

-- after the lines so far, some are searched, and some are skipped
pub rows-step : (pattern text : List ℕ) (first at stop next : ℕ) (rows rows' rows'' : List (List (ℕ × ℕ))) → first ≤ at → at ≤ stop → stop ≤ next
    → AreRows pattern (lines_between text first at) rows → AddsRows pattern (lines_between text at stop) rows rows' → AddsRows pattern (lines_between text stop next) rows' rows''
    → AreRows pattern (lines_between text first next) rows''
rows-step pattern text first at stop next rows rows' rows'' behind low high are adds passes =
    rows-added pattern text first stop next rows' rows'' (omega (arith, behind, low)) high (rows-added pattern text first at stop rows rows' behind low are adds) passes

-- one more row of a line in which nothing matches
pub bare-more : (rows rows' rows'' : List (List (ℕ × ℕ))) (row : List (ℕ × ℕ)) (k : ℕ) → rows' ≡ rows ++ replicate k [] → row ≡ [] → rows'' ≡ rows' ++ row ∷ []
    → rows'' ≡ rows ++ replicate (k + 1) []
bare-more rows rows' rows'' row k so_far empty more =
    more ∙ ap (λ r. rows' ++ r ∷ []) empty ∙ ap (λ rs. rs ++ [] ∷ []) so_far ∙ append_assoc rows (replicate k []) ([] ∷ []) ∙ ap (λ rs. rows ++ rs) (replicate_more k [])

-- ---- lines of a chunk

-- the lines of a text that end before an offset up to which nothing matches
pub bare-front : PlaceLaws → RisesWithIndex (break_ends is_break) → AllHaveFinds → (pattern bytes : List ℕ) (place count : ℕ) → IsUtf8 bytes
    → count ≡ line_at (chars bytes) place → FindsNoneBetween pattern bytes 0 place → HaveNoMatches pattern (chars bytes) 0 count
bare-front law rises finds pattern bytes place count utf8 is none line low high =
    let own : FindsNoneBetween pattern (bytes_of (chars bytes)) 0 place = subst (λ bs. FindsNoneBetween pattern bs 0 place) (sym (encodes-chars bytes utf8)) none in
    bare-line law rises (chars bytes) finds pattern 0 place line low (omega (arith, high, is)) own

-- they are lines of the text that the chunk shows
pub bare-shown : (pattern text rest : List ℕ) (line count : ℕ) → ((k : ℕ) → k < breaks is_break rest → line_text text (line + k) ≡ line_text rest k)
    → count ≤ breaks is_break rest → HaveNoMatches pattern rest 0 count → HaveNoMatches pattern text line (line + count)
bare-shown pattern text rest line count shows inside bare l low high =
    let k = l - line in
    let there : line + k ≡ l = omega (arith, low) in
    let below : k < count = omega (arith, low, high) in
    let own : line_text text l ≡ line_text rest k = ap (line_text text) (sym there) ∙ shows k (omega (arith, below, inside)) in
    subst (λ t. IsRow pattern t []) (sym own) (bare k (omega arith) below)

-- so those that end there before such an offset have no match
pub bare-ahead : PlaceLaws → RisesWithIndex (break_ends is_break) → AllHaveFinds → (pattern bytes text rest : List ℕ) (line place count : ℕ) → IsUtf8 bytes → chars bytes ≡ rest
    → count ≡ line_at (chars bytes) place → FindsNoneBetween pattern bytes 0 place → ((k : ℕ) → k < breaks is_break rest → line_text text (line + k) ≡ line_text rest k)
    → HaveNoMatches pattern text line (line + count)
bare-ahead law rises finds pattern bytes text rest line place count utf8 same is none shows =
    let own : HaveNoMatches pattern rest 0 count = subst (λ t. HaveNoMatches pattern t 0 count) same (bare-front law rises finds pattern bytes place count utf8 is none) in
    let inside = line_inside (chars bytes) place in
    bare-shown pattern text rest line count shows (omega (arith, inside, is, ap (breaks is_break) same)) own

-- they are not all
pub ahead-within : (bytes text rest : List ℕ) (line place count : ℕ) → chars bytes ≡ rest → count ≡ line_at (chars bytes) place → line + breaks is_break rest < line_count text
    → line + count < line_count text
ahead-within bytes text rest line place count same is few =
    let inside = line_inside (chars bytes) place in
    omega (arith, inside, is, few, ap (breaks is_break) same)

-- ---- lines from one on

module _ (law : PlaceLaws) (pattern text : List ℕ) (line start place count : ℕ) (start_is : start ≡ line_start text line) (none : FindsNoneBetween pattern (bytes_of text) start place)
    (count_is : count ≡ line_at text place - line) where
  -- those that end before an offset up to which nothing matches
  pub bare-from : RisesWithIndex (break_ends is_break) → AllHaveFinds → HaveNoMatches pattern text line (line + count)
  bare-from rises finds l low high =
      bare-line law rises text finds pattern line place l low (omega (arith, low, high, count_is)) (subst (λ n. FindsNoneBetween pattern (bytes_of text) n place) start_is none)

  -- they are not all
  pub from-within : line < line_count text → line + count < line_count text
  from-within below =
      let inside = line_inside text place in
      omega (arith, inside, count_is, below)

  -- if there are some, the empty text has no match
  pub from-empty : AllHaveFinds → 0 < count → IsRow pattern [] []
  from-empty finds some =
      let inside = line_inside text place in
      let low : line_start text line ≤ place = (law.lines_agree text line place (omega (arith, some, count_is, inside))).1 (omega (arith, some, count_is)) in
      let zero_is : start - start ≡ 0 = omega arith in
      let nothing : between start start (bytes_of text) ≡ [] = dropped (bytes_of text) start start (omega arith) ∙ ap (λ n. take n (drop start (bytes_of text))) zero_is in
      bare-row finds pattern [] (subst (λ bs. FindsMatch pattern bs 0 None) nothing (none start start (omega arith) (omega (arith, low, start_is))))

-- ---- rows after rows

-- none more
pub adds-none : (pattern text : List ℕ) (at : ℕ) (rows : List (List (ℕ × ℕ))) → AddsRows pattern (lines_between text at (at + 0)) rows rows
adds-none pattern text at rows =
    let none : 0 ≡ at + 0 - at = omega arith in
    record { made = []; are = subst (λ n. AreRows pattern (take n (drop at (line_texts text))) []) none tt; behind = sym (append-nil rows) }

-- the row of the next line
pub adds-one : (pattern text : List ℕ) (at count : ℕ) (rows rows' rows'' : List (List (ℕ × ℕ))) (own : List ℕ) (row : List (ℕ × ℕ)) → at + count < line_count text
    → AddsRows pattern (lines_between text at (at + count)) rows rows' → own ≡ line_text text (at + count) → IsRow pattern own row → rows'' ≡ rows' ++ row ∷ []
    → AddsRows pattern (lines_between text at (at + (count + 1))) rows rows''
adds-one pattern text at count rows rows' rows'' own row inside adds own_is is more =
    let mid = at + count in
    let one : lines_between text mid (mid + 1) ≡ own ∷ [] = single (line_texts text) mid own (omega (arith, inside, lines-counted text)) own_is in
    let last : AddsRows pattern (lines_between text mid (mid + 1)) rows' rows'' =
    record { made = row ∷ []; are = subst (λ ls. AreRows pattern ls (row ∷ [])) (sym one) (is, tt); behind = more } in
    let end : mid + 1 ≡ at + (count + 1) = omega arith in
    subst (λ n. AddsRows pattern (lines_between text at n) rows rows'') end
    (adds-joined pattern text at mid (mid + 1) rows rows' rows'' (omega arith) (omega arith) adds last)
  where
    single : (lines : List (List ℕ)) (k : ℕ) (own : List ℕ) → k < length lines → own ≡ get_or lines k [] → take (k + 1 - k) (drop k lines) ≡ own ∷ []
    single lines k own below is =
        let one : 1 ≡ k + 1 - k = omega arith in
        let here : get_or (drop k lines) 0 [] ≡ own = get_or-drop k lines 0 [] ∙ (let same : k + 0 ≡ k = omega arith in ap (λ n. get_or lines n []) same) ∙ sym is in
        sym (ap (λ n. take n (drop k lines)) one) ∙ head-of (drop k lines) own (omega (arith, length-drop k lines, below)) here
      where
        head-of : (ls : List (List ℕ)) (own : List ℕ) → 0 < length ls → get_or ls 0 [] ≡ own → take 1 ls ≡ own ∷ []
        head-of [] own some is = absurd (omega (arith, some))
        head-of (l ∷ ls) own some is = ap (λ x. x ∷ []) is

-- ---- rows that are counted one by one

-- `count` more rows, up to the maximum of the count
pub counted-start : (ticks : Ticks) → MakesAsMany 0 ticks ticks
counted-start ticks = record { grows = omega arith; least = omega arith; made = omega arith; no_whole = refl }

pub counted-more : (count : ℕ) (old mid new : Ticks) → MakesAsMany count old mid → new.count ≡ min (mid.count + 1) (2 ^ 64 - 1) → mid.count ≤ new.count → new.wholes ≡ mid.wholes → MakesAsMany (count + 1) old new
counted-more count old mid new sofar one grows whole =
    let least = sofar.least in
    let made = sofar.made in
    record { grows = omega (arith, sofar.grows, grows); least = omega (arith, least, one); made = omega (arith, made, one); no_whole = whole ∙ sofar.no_whole }

pub counted-both : (a b n : ℕ) (old mid new : Ticks) → MakesAsMany a old mid → MakesAsMany b mid new → a + b ≡ n → MakesAsMany n old new
counted-both a b n old mid new one other sum =
    let least = one.least in
    let made = one.made in
    let least' = other.least in
    let made' = other.made in
    record { grows = omega (arith, one.grows, other.grows); least = omega (arith, least, least', sum); made = omega (arith, made, made', sum); no_whole = other.no_whole ∙ one.no_whole }

-- and at most one more
pub counted-most : (count n : ℕ) (old mid new : Ticks) → MakesAsMany count old mid → new.count ≡ min (mid.count + 1) (2 ^ 64 - 1) → mid.count ≤ new.count → new.wholes ≡ mid.wholes → count + 1 ≤ n → MakesAtMost n old new
counted-most count n old mid new sofar one grows whole fits =
    let made = sofar.made in
    record { grows = omega (arith, sofar.grows, grows); made = omega (arith, made, one, fits); no_whole = whole ∙ sofar.no_whole }

pub counted-few : (count n : ℕ) (old new : Ticks) → MakesAsMany count old new → count ≤ n → MakesAtMost n old new
counted-few count n old new sofar fits =
    let made = sofar.made in
    record { grows = sofar.grows; made = omega (arith, made, fits); no_whole = sofar.no_whole }

-- a scan makes no row
pub looked-most : (a n : ℕ) (old mid new : Ticks) → mid.count ≡ old.count → mid.wholes ≡ old.wholes → MakesAtMost a mid new → a ≤ n → MakesAtMost n old new
looked-most a n old mid new count whole most fits =
    let made = most.made in
    record { grows = omega (arith, most.grows, count); made = omega (arith, made, count, fits); no_whole = most.no_whole ∙ whole }

pub looked-many : (a : ℕ) (old mid new : Ticks) → mid.count ≡ old.count → mid.wholes ≡ old.wholes → MakesAsMany a mid new → MakesAsMany a old new
looked-many a old mid new count whole many =
    let least = many.least in
    let made = many.made in
    record { grows = omega (arith, many.grows, count); least = omega (arith, least, count); made = omega (arith, made, count); no_whole = many.no_whole ∙ whole }

-- `count` rows of lines in which nothing matches, from one line on
pub rows-so : (rows rows' : List (List (ℕ × ℕ))) (line count : ℕ) → rows' ≡ rows ++ replicate count [] → rows' ≡ rows ++ replicate (line + count - line) []
rows-so rows rows' line count is =
    let same : count ≡ line + count - line = omega arith in
    is ∙ ap (λ n. rows ++ replicate n []) same

-- ---- the rows of a range of lines, turn by turn

pub record TurnRows (pattern text : List ℕ) (first at searched passed : ℕ) (rows : List (List (ℕ × ℕ))) (start new : Ticks) : Type 0 where
  pub are : AreRows pattern (lines_between text first (at + searched + passed)) rows
  pub ticks : MakesAsMany (at + searched + passed - first) start new

pub turn-of : (pattern text : List ℕ) (first at searched passed : ℕ) (rows rows' rows'' : List (List (ℕ × ℕ))) (start old mid new : Ticks) → first ≤ at
    → AreRows pattern (lines_between text first at) rows → MakesAsMany (at - first) start old
    → AddsRows pattern (lines_between text at (at + searched)) rows rows' → MakesAsMany searched old mid
    → AddsRows pattern (lines_between text (at + searched) (at + searched + passed)) rows' rows'' → MakesAsMany passed mid new
    → TurnRows pattern text first at searched passed rows'' start new
turn-of pattern text first at searched passed rows rows' rows'' start old mid new behind are ticks adds one passes other = record {
  are = rows-step pattern text first at (at + searched) (at + searched + passed) rows rows' rows'' behind (omega arith) (omega arith) are adds passes;
  ticks = counted-both (at + searched - first) passed (at + searched + passed - first) start mid new
      (counted-both (at - first) searched (at + searched - first) start old mid ticks one (omega (arith, behind))) other (omega (arith, behind));
}

-- a single line
pub rows-one : (pattern text : List ℕ) (first : ℕ) (rows rows' : List (List (ℕ × ℕ))) → rows ≡ [] → AddsRows pattern (lines_between text first (first + 1)) rows rows'
    → AreRows pattern (lines_between text first (first + 1)) rows'
rows-one pattern text first rows rows' none adds =
    rows-added pattern text first first (first + 1) rows rows' (omega arith) (omega arith) (subst (AreRows pattern (lines_between text first first)) (sym none) (rows-start pattern text first)) adds

-- the lines of a part of a text up to one of its lines are the text's
pub lines-alike : (text own : List ℕ) (first end : ℕ) → first ≤ end → take end (line_texts own) ≡ take end (line_texts text) → lines_between own first end ≡ lines_between text first end
lines-alike text own first end low same =
    let there : first + (end - first) ≡ end = omega (arith, low) in
    sym (drop-take first (end - first) (line_texts own)) ∙ ap (λ n. drop first (take n (line_texts own))) there ∙ ap (drop first) same
    ∙ ap (λ n. drop first (take n (line_texts text))) (sym there) ∙ drop-take first (end - first) (line_texts text)

-- ---- the empty text

-- if an offset is known up to which nothing matches, the empty text has no match
pub never-empty : (tree : Tree) (content : List ℕ) (from from' : ℕ) (place : Option ℕ) → is_some place ≡ true → from' ≡ from → from ≡ 0 → IfSome place (HasNoMatchBetween tree content from') → TreeFinds tree [] 0 None
never-empty tree content from from' None some same start told = absurd (true≢false (sym some))
never-empty tree content from from' (Some place) some same start told = told 0 0 (omega (arith, same, start)) (omega arith)

-- a line that has no text
pub no-text : (line : List ℕ) → byte_len line ≡ 0 → line ≡ []
no-text [] none = refl
no-text (c ∷ cs) none = absurd (omega (arith, none, byte_len-one c cs, (len_utf8_bounds c).0))

pub empty-row : AllHaveFinds → (pattern line : List ℕ) (tree : Tree) → SpellsTree pattern tree → TreeFinds tree [] 0 None → byte_len line ≡ 0 → IsRow pattern line []
empty-row finds pattern line tree spells none len =
    subst (λ t. IsRow pattern t []) (sym (no-text line len)) (bare-row finds pattern [] (record { tree = tree; spells = spells; finds = none }))
