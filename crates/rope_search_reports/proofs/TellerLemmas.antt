-- The lines of offsets, from the chunk that contains them.
use Rattle.std.proofs.Common.{◌≡◌, ℕ, ◌+◌, ◌-◌, ◌<◌, ◌≤◌, ◌^◌, ◌&&◌, true, cond, List, [], ◌∷◌, ◌++◌, length, take, drop, map, nat_le, chars, refl, sym, ap, subst, ◌∙◌, arith, append_assoc, append-nil, length-append, IsUtf8, inl, inr}
use Rattle.std.proofs.lemmas.Bool.{cases_Bool}
use Rattle.std.proofs.lemmas.Bool.Decides.{nat_tests}
use Rattle.std.proofs.lemmas.List.{nil_from_length, take-append-drop, length-take-le}
use Rattle.std.proofs.lemmas.Bool.{lt-leb}
use Rattle.std.proofs.lemmas.List.Folds.{concat-append}
use Rattle.std.proofs.lemmas.List.Sums.{sum_by-cons}
use Rattle.std.proofs.lemmas.Str.{IsUtf8-nil, IsUtf8-take, IsUtf8-drop, chars-append, chars-nil, encodes-chars}
use Rattle.std.specs.Str.{IsCharBoundary}
use Rattle.str_indices.specs.FirstBreak.{IsFirstBreak}
use Rattle.str_indices.specs.Laws.{EndsAddUp, EndsBehind}
use Rattle.str_indices.specs.Text.{breaks, break_ends, byte_len, ends_up_to, ends_with_cr, starts_with_lf, NoCrLfBetween}
use Rattle.ropey.specs.Chunks.{IsCutting, IsPiece, ShowsChunk, is_break, lone_piece, text_of}
use Rattle.rope_search_reports.specs.Text.{line_count}
use Rattle.rope_search_reports.specs.Drafts.{IsSecondLine, IsTeller, KnowsLineEnd, StaysInLine}
use Rattle.rope_search_reports.specs.Position.{line_at}
use Rattle.rope_search_reports.proofs.LineLemmas.{byte_len-append, ends-joined_cr}
use Rattle.rope_search_reports.proofs.WalkLemmas.{chunk-whole, cutting-tail, no-lf, reaches, uncut-behind}

-- no CR LF is split before a chunk
first-piece : (p : List ℕ) (ps : List (List ℕ)) → IsCutting (p ∷ ps) → IsPiece p
first-piece p [] cut = cut
first-piece p (q ∷ qs) cut = cut.0

front-whole : (bs : List (List ℕ)) (c : ℕ) (cs : List ℕ) (ps : List (List ℕ)) → IsCutting (bs ++ ((c ∷ cs) ∷ ps)) → NoCrLfBetween (text_of bs) (c ∷ cs)
front-whole [] c cs ps cut = refl
front-whole (b ∷ []) c cs ps cut = subst (λ t. NoCrLfBetween t (c ∷ cs)) (sym (append-nil b)) cut.1
front-whole (b ∷ [] ∷ bs) c cs ps cut =
    let some = (first-piece [] (bs ++ ((c ∷ cs) ∷ ps)) (cutting-tail b ([] ∷ (bs ++ ((c ∷ cs) ∷ ps))) cut)).not_empty in
    absurd (omega (arith, some))
front-whole (b ∷ (d ∷ ds) ∷ bs) c cs ps cut =
    ap (λ e. e && starts_with_lf (c ∷ cs)) (ends-joined_cr b d (ds ++ text_of bs))
    ∙ front-whole ((d ∷ ds) ∷ bs) c cs ps (cutting-tail b (((d ∷ ds) ∷ bs) ++ ((c ∷ cs) ∷ ps)) cut)

-- a chunk that is shown
pub record IsShown (text chunk : List ℕ) (start char line : ℕ) : Type 0 where
  pub before : List ℕ
  pub after : List ℕ
  pub parts : text ≡ before ++ chunk ++ after
  pub start_is : start ≡ byte_len before
  pub char_is : char ≡ length before
  pub line_is : line ≡ breaks is_break before
  pub whole : NoCrLfBetween before chunk
  pub whole_behind : NoCrLfBetween (before ++ chunk) after

alone-text : (chunk : List ℕ) → text_of (lone_piece chunk) ≡ chunk
alone-text [] = refl
alone-text (c ∷ cs) = append-nil (c ∷ cs)

module _ (count : List ℕ → ℕ) where
  shown-parts : (pieces : List (List ℕ)) (place start char line : ℕ) (chunk : List ℕ) → (s : ShowsChunk pieces count place chunk start char line)
      → text_of pieces ≡ text_of s.before ++ chunk ++ text_of s.after
  shown-parts pieces place start char line chunk s =
      ap text_of s.parts ∙ concat-append (s.before ++ lone_piece chunk) s.after
      ∙ ap (λ t. t ++ text_of s.after) (concat-append s.before (lone_piece chunk) ∙ ap (λ t. text_of s.before ++ t) (alone-text chunk))

  pub is-shown : (pieces : List (List ℕ)) (place start char line : ℕ) (chunk : List ℕ) → IsCutting pieces → (s : ShowsChunk pieces count place chunk start char line)
      → (h : IsShown (text_of pieces) chunk start char line) × (h.before ≡ text_of s.before) × (h.after ≡ text_of s.after)
  is-shown pieces place start char line [] cut s =
      let parts = shown-parts pieces place start char line [] s in
      let none : length (text_of pieces) ≡ 0 = ap (λ ps. length (text_of ps)) (s.some refl) in
      let nothing : text_of s.after ≡ [] =
      nil_from_length (text_of s.after) (omega (arith, none, ap length parts, length-append (text_of s.before ++ []) (text_of s.after))) in (
        record {
          before = text_of s.before;
          after = text_of s.after;
          parts = parts;
          start_is = s.byte_is;
          char_is = s.char_is;
          line_is = s.line_is;
          whole = no-lf (ends_with_cr (text_of s.before));
          whole_behind = subst (NoCrLfBetween (text_of s.before ++ [])) (sym nothing) (no-lf (ends_with_cr (text_of s.before ++ [])));
        },
        refl,
        refl,
      )
  is-shown pieces place start char line (c ∷ cs) cut s =
      let cut' : IsCutting (s.before ++ ((c ∷ cs) ∷ s.after)) = subst IsCutting (s.parts ∙ assoc s.before s.after) cut in (
        record {
          before = text_of s.before;
          after = text_of s.after;
          parts = shown-parts pieces place start char line (c ∷ cs) s;
          start_is = s.byte_is;
          char_is = s.char_is;
          line_is = s.line_is;
          whole = front-whole s.before c cs s.after cut';
          whole_behind = ap (λ e. e && starts_with_lf (text_of s.after)) (ends-joined_cr (text_of s.before) c cs) ∙ chunk-whole s.before c cs s.after cut';
        },
        refl,
        refl,
      )
    where
      assoc : (bs ps : List (List ℕ)) → bs ++ lone_piece (c ∷ cs) ++ ps ≡ bs ++ ((c ∷ cs) ∷ ps)
      assoc [] ps = refl
      assoc (b ∷ bs) ps = ap (λ l. b ∷ l) (assoc bs ps)

-- at the start of a text nothing has ended
pub none-yet : EndsAddUp NoCrLfBetween (breaks is_break) (break_ends is_break) → (t : List ℕ) → ends_up_to 0 (break_ends is_break t) ≡ 0
none-yet law t = law [] [] t 0 refl refl (omega arith) (omega arith)

pub is-teller : EndsAddUp NoCrLfBetween (breaks is_break) (break_ends is_break) → (pieces : List (List ℕ)) (bytes : List ℕ) (place start char line : ℕ) → IsCutting pieces → IsUtf8 bytes
    → ShowsChunk pieces byte_len place (chars bytes) start char line → line_count (text_of pieces) < 2 ^ 64 → byte_len (text_of pieces) < 2 ^ 63 → IsTeller (text_of pieces) bytes start line
is-teller law pieces bytes place start char line cut utf8 s fits bytes_fit =
    let h = (is-shown byte_len pieces place start char line (chars bytes) cut s).0 in
    let none : start - byte_len h.before ≡ 0 = omega (arith, h.start_is) in
    let there = law h.before (chars bytes) h.after start h.whole h.whole_behind (omega (arith, h.start_is)) (omega (arith, h.start_is, byte_len-append h.before (chars bytes))) in
    let nothing : ends_up_to (start - byte_len h.before) (break_ends is_break (chars bytes)) ≡ 0 =
    ap (λ n. ends_up_to n (break_ends is_break (chars bytes))) none ∙ none-yet law (chars bytes) in
    let own : line_at (text_of pieces) start ≡ ends_up_to start (break_ends is_break (h.before ++ chars bytes ++ h.after)) = ap (λ t. line_at t start) h.parts in
    record {
      before = h.before;
      after = h.after;
      parts = h.parts ∙ append_assoc h.before (chars bytes) h.after;
      utf8 = utf8;
      start_is = h.start_is;
      line_is = omega (arith, h.line_is, own, there, nothing);
      whole = uncut-behind h.before (chars bytes) h.after h.whole_behind;
      fits = fits;
      bytes_fit = bytes_fit;
    }

-- one that shows nothing yet
pub teller-start : EndsAddUp NoCrLfBetween (breaks is_break) (break_ends is_break) → (text : List ℕ) → line_count text < 2 ^ 64 → byte_len text < 2 ^ 63 → IsTeller text [] 0 0
teller-start law text fits bytes_fit = record {
  before = [];
  after = text;
  parts = ap (λ t. t ++ text) (sym chars-nil);
  utf8 = IsUtf8-nil;
  start_is = refl;
  line_is = sym (none-yet law text);
  whole = subst (λ t. NoCrLfBetween t text) (sym chars-nil) refl;
  fits = fits;
  bytes_fit = bytes_fit;
}

-- the offset that was looked up is in the chunk, or at its end
pub reached-there : (pieces : List (List ℕ)) (bytes : List ℕ) (place start char line : ℕ) → IsUtf8 bytes → ShowsChunk pieces byte_len place (chars bytes) start char line
    → place ≤ byte_len (text_of pieces) → (start ≤ place) × (place ≤ start + length bytes)
reached-there pieces bytes place start char line utf8 s within =
    let there = reaches pieces place start char line (chars bytes) s within in
    (there.0, omega (arith, there.1, ap length (encodes-chars bytes utf8)))

-- the line of an offset in the rest
pub line-told : EndsAddUp NoCrLfBetween (breaks is_break) (break_ends is_break) → EndsBehind (break_ends is_break) → (text rest : List ℕ) (start line place : ℕ) → IsTeller text rest start line
    → start ≤ place → place ≤ start + length rest → line + ends_up_to (place - start) (break_ends is_break (chars rest)) ≡ line_at text place
line-told law behind text rest start line place is low high =
    let start_is = is.start_is in
    let k = place - byte_len is.before in
    let width = ap length (encodes-chars rest is.utf8) in
    let all = behind is.before (chars rest ++ is.after) place (omega (arith, low, start_is)) in
    let part = law [] (chars rest) is.after k refl is.whole (omega arith) (omega (arith, high, start_is, width)) in
    let own : line_at text place ≡ ends_up_to place (break_ends is_break (is.before ++ (chars rest ++ is.after))) = ap (λ t. line_at t place) is.parts in
    let first : line ≡ ends_up_to (byte_len is.before) (break_ends is_break (is.before ++ (chars rest ++ is.after))) =
    is.line_is ∙ ap (λ t. line_at t start) is.parts ∙ ap (λ n. line_at (is.before ++ (chars rest ++ is.after)) n) start_is in
    let same : ends_up_to (place - start) (break_ends is_break (chars rest)) ≡ ends_up_to (k - 0) (break_ends is_break (chars rest)) =
    ap (λ n. ends_up_to n (break_ends is_break (chars rest))) (omega (arith, start_is)) in
    omega (arith, own, all, first, part, same)

-- and the rest from there on
pub teller-on : (text rest : List ℕ) (start line place line' : ℕ) → IsTeller text rest start line → start ≤ place → place ≤ start + length rest
    → IsCharBoundary rest (place - start) → line' ≡ line_at text place → IsTeller text (drop (place - start) rest) place line'
teller-on text rest start line place line' is low high here line_is =
    let n = place - start in
    let front = take n rest in
    let back = drop n rest in
    let front-utf8 = IsUtf8-take rest n is.utf8 here in
    let mid = chars front in
    let split : chars rest ≡ mid ++ chars back = ap chars (sym (take-append-drop n rest)) ∙ chars-append front back front-utf8 in
    let width : byte_len mid ≡ n = ap length (encodes-chars front front-utf8) ∙ length-take-le n rest (omega (arith, low, high)) in
    record {
      before = is.before ++ mid;
      after = is.after;
      parts = is.parts ∙ ap (λ t. is.before ++ (t ++ is.after)) split ∙ ap (λ t. is.before ++ t) (append_assoc mid (chars back) is.after)
          ∙ sym (append_assoc is.before mid (chars back ++ is.after));
      utf8 = IsUtf8-drop rest n is.utf8 here;
      start_is = let start_is = is.start_is in omega (arith, start_is, low, width, byte_len-append is.before mid);
      line_is = line_is;
      whole = uncut-behind mid (chars back) is.after (subst (λ t. NoCrLfBetween t is.after) split is.whole);
      fits = is.fits;
      bytes_fit = is.bytes_fit;
    }

-- ---- offsets in the same line

-- none of these ends is up to an offset: all are after another one
none-up-to : (end place : ℕ) (ends : List ℕ) → place < end → ends_up_to place (map (λ e. end + e) ends) ≡ 0
none-up-to end place [] low = refl
none-up-to end place (e ∷ es) low =
    sum_by-cons (λ e. cond (nat_le e place) 1 0) (end + e) (map (λ e. end + e) es)
    ∙ rw (lt-leb (end + e) place (omega (arith, low))) (omega (arith, none-up-to end place es low))

-- none ends before the first break does
pub none-before-first : (bytes : List ℕ) (start end place : ℕ) → IsFirstBreak is_break bytes start end → place < end → ends_up_to place (break_ends is_break (chars bytes)) ≡ 0
none-before-first bytes start end place first low =
    let others = map (λ e. end + e) (break_ends is_break (chars (drop end bytes))) in
    ap (ends_up_to place) first.break_ends
    ∙ sum_by-cons (λ e. cond (nat_le e place) 1 0) end others
    ∙ rw (lt-leb end place low) (omega (arith, none-up-to end place (break_ends is_break (chars (drop end bytes))) low))

-- ends after an offset, counted from there
ends-shifted : (end : ℕ) (ends : List ℕ) → ends_up_to end (map (λ e. end + e) ends) ≡ ends_up_to 0 ends
ends-shifted end [] = refl
ends-shifted end (e ∷ es) =
    let same : nat_le (end + e) end ≡ nat_le e 0 = le-shifted end e in
    sum_by-cons (λ e. cond (nat_le e end) 1 0) (end + e) (map (λ e. end + e) es)
    ∙ rw same (ap (λ n. cond (nat_le e 0) 1 0 + n) (ends-shifted end es))
    ∙ sym (sum_by-cons (λ e. cond (nat_le e 0) 1 0) e es)
  where
    le-shifted : (end e : ℕ) → nat_le (end + e) end ≡ nat_le e 0
    le-shifted end e = elim (cases_Bool (nat_le e 0)) [
      | inl low ↦ grind (arith, nat_tests, low)
      | inr high ↦ grind (arith, nat_tests, high)
    ]

-- where the first break ends, one has ended
pub one-at-first : EndsAddUp NoCrLfBetween (breaks is_break) (break_ends is_break) → (bytes : List ℕ) (start end : ℕ) → IsFirstBreak is_break bytes start end
    → ends_up_to end (break_ends is_break (chars bytes)) ≡ 1
one-at-first law bytes start end first =
    let others = break_ends is_break (chars (drop end bytes)) in
    ap (ends_up_to end) first.break_ends
    ∙ sum_by-cons (λ e. cond (nat_le e end) 1 0) end (map (λ e. end + e) others)
    ∙ rw (le-self end) (omega (arith, ends-shifted end others, none-yet law (chars (drop end bytes))))
  where
    le-self : (n : ℕ) → nat_le n n ≡ true
    le-self n = grind (arith, nat_tests)

-- the rest is a part of the text
pub teller-within : (text rest : List ℕ) (start line : ℕ) → IsTeller text rest start line → start + length rest ≤ byte_len text
teller-within text rest start line is =
    let start_is = is.start_is in
    omega (arith, start_is, ap byte_len is.parts, byte_len-append is.before (chars rest ++ is.after), byte_len-append (chars rest) is.after, ap length (encodes-chars rest is.utf8))

-- the start of the next line, where the rest has it
pub next-teller : EndsAddUp NoCrLfBetween (breaks is_break) (break_ends is_break) → EndsBehind (break_ends is_break) → (text rest : List ℕ) (start line same : ℕ)
    → IsTeller text rest start line → same < length rest → IsSecondLine rest same → IsTeller text (drop same rest) (start + same) (line + 1)
next-teller law behind text rest start line same is inside second =
    let back : (start + same) - start ≡ same = omega arith in
    let low : start ≤ start + same = omega arith in
    let high : start + same ≤ start + length rest = omega (arith, inside) in
    let told = line-told law behind text rest start line (start + same) is low high in
    let one = ap (λ n. ends_up_to n (break_ends is_break (chars rest))) back ∙ second.one in
    subst (λ n. IsTeller text (drop n rest) (start + same) (line + 1)) back
    (teller-on text rest start line (start + same) (line + 1) is low high (subst (IsCharBoundary rest) (sym back) second.boundary) (omega (arith, told, one)))

-- no offset is known to be in the same line
pub stays-none : (text : List ℕ) (start line : ℕ) → StaysInLine text start line 0
stays-none text start line = λ k low. absurd (omega (arith, low))

pub ends-none : (rest : List ℕ) → KnowsLineEnd rest 0
ends-none rest = λ some. absurd (omega (arith, some))

-- the offsets of the rest, up to where its first line ends
pub stays-on : EndsAddUp NoCrLfBetween (breaks is_break) (break_ends is_break) → EndsBehind (break_ends is_break) → (text rest : List ℕ) (start line count : ℕ) → IsTeller text rest start line
    → count ≤ length rest → ((place : ℕ) → place < count → ends_up_to place (break_ends is_break (chars rest)) ≡ 0) → StaysInLine text start line count
stays-on law behind text rest start line count is within first = λ k low.
    let told = line-told law behind text rest start line (start + k) is (omega arith) (omega (arith, low, within)) in
    let same : ends_up_to ((start + k) - start) (break_ends is_break (chars rest)) ≡ ends_up_to k (break_ends is_break (chars rest)) =
    ap (λ n. ends_up_to n (break_ends is_break (chars rest))) (omega arith) in
    omega (arith, told, same, first k low)
