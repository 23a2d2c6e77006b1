-- A walk over the lines of a text: where a line starts, and what a chunk shows from there on.
use Rattle.std.proofs.Common.{◌≡◌, ℕ, zero, suc, ◌+◌, ◌-◌, ◌^◌, ◌<◌, ◌≤◌, ◌==◌, ◌&&◌, not, Bool, true, false, inl, inr, List, [], ◌∷◌, ◌++◌, length, take, drop, get_or, refl, sym, ap, subst, ◌∙◌, append-nil, append_assoc, arith, chars, IsUtf8, length-drop}
use Rattle.std.specs.List.{slice_range}
use Rattle.std.specs.Str.{all_scalars, IsCharBoundary}
use Rattle.std.proofs.Math.Seq.{drop-append_seam, take-append_seam}
use Rattle.std.proofs.lemmas.Bool.{cases_lt}
use Rattle.std.proofs.lemmas.List.{drop-drop, get_or-take, get_or-drop, get_or_past}
use Rattle.std.proofs.lemmas.List.Folds.{concat-append}
use Rattle.std.proofs.lemmas.Str.{IsCharBoundary-from_drop, IsUtf8-drop, IsUtf8-nil, chars-nil, chars-encodes, chars_from_encodes, encodes-append, encodes-chars, scalars-chars}
use Rattle.str_indices.specs.Text.{breaks, break_ends, byte_len, end_place, ends_with_cr, starts_with_lf, NoCrLfBetween}
use Rattle.str_indices.specs.FirstBreak.{IsBreak, IsFirstBreak}
use Rattle.ropey.specs.Chunks.{is_break, text_of, lone_piece, IsCutting, ShowsChunk}
use Rattle.rope_search_reports.specs.Text.{bytes_of, line_count}
use Rattle.rope_search_reports.specs.Report.{line_texts}
use Rattle.rope_search_reports.specs.Position.{line_start, line_text}
use Rattle.rope_search_reports.specs.Drafts.{IsRestOfChunk, IsWalk, StartsLine, WalkState}
use Rattle.rope_search_reports.proofs.FurtherLemmas.{there-further}
use Rattle.rope_search_reports.proofs.LineLemmas.{IsCutOff, byte_len-append, cut-ends, cut-lines, ends-joined_cr, ends_at, first_line, line-last, line_texts-nil, lines-counted, lines-cut, start-is, start-later, start_at}
use Rattle.rope_search_reports.proofs.PartLemmas.{past-last}
use Rattle.rope_search_reports.proofs.PlaceLemmas.{cut_off, front_within, scalars-parts}

-- ---- breaks before a split

pub no-lf : (b : Bool) → (b && false) ≡ false
no-lf true = refl
no-lf false = refl

alone : (in_set cr lf : Bool) → (in_set && not (cr && false)) ≡ true → (cr && lf) ≡ false → (in_set && not (cr && lf)) ≡ true
alone false cr lf is none = is
alone true cr lf is none = ap not none

-- a break is one also if more text follows, if no CR LF is split
break-further : (front one rest after : List ℕ) → IsBreak is_break one rest → NoCrLfBetween (front ++ (one ++ rest)) after → IsBreak is_break one (rest ++ after)
break-further front [] rest after is whole = absurd is
break-further front (c ∷ []) [] after is whole =
    alone (is_break c) (c == 13) (starts_with_lf after) is (ap (λ b. b && starts_with_lf after) (sym (ends-joined_cr front c [])) ∙ whole)
break-further front (c ∷ []) (d ∷ ds) after is whole = is
break-further front (c ∷ d ∷ []) rest after is whole = is
break-further front (c ∷ d ∷ e ∷ es) rest after is whole = absurd is

fewer : (in_set cr lf : Bool) → (in_set && not (cr && lf)) ≡ true → (in_set && not (cr && false)) ≡ true
fewer false cr lf is = is
fewer true cr lf is = ap not (no-lf cr)

-- and also if less text follows
break-nearer : (one before behind : List ℕ) → IsBreak is_break one (before ++ behind) → IsBreak is_break one before
break-nearer [] before behind is = absurd is
break-nearer (c ∷ []) [] behind is = fewer (is_break c) (c == 13) (starts_with_lf behind) is
break-nearer (c ∷ []) (d ∷ ds) behind is = is
break-nearer (c ∷ d ∷ []) before behind is = is
break-nearer (c ∷ d ∷ e ∷ es) before behind is = absurd is

-- no CR LF is split after the end of a text
pub uncut-behind : (front rest after : List ℕ) → NoCrLfBetween (front ++ rest) after → NoCrLfBetween rest after
uncut-behind front [] after whole = refl
uncut-behind front (c ∷ cs) after whole = ap (λ b. b && starts_with_lf after) (sym (ends-joined_cr front c cs)) ∙ whole

-- ---- where a line starts

-- a line of a text that starts at an offset, followed by another text
pub record LineStart (at last : ℕ) (text after : List ℕ) (k : ℕ) : Type 0 where
  pub before : List ℕ
  pub behind : List ℕ
  pub parts : text ≡ before ++ behind
  pub starts : start_at at (ends_at at text) k last ≡ at + byte_len before
  pub here : take k (line_texts (text ++ after)) ≡ take k (line_texts text)
  pub lines : drop k (line_texts (text ++ after)) ≡ line_texts (behind ++ after)
  pub front : take k (line_texts text) ≡ take k (line_texts before)
  pub few : length (line_texts before) ≡ k + 1

line-later : (at last : ℕ) (text after : List ℕ) (k : ℕ) → (cut : IsCutOff text) → NoCrLfBetween text after
    → LineStart (at + byte_len cut.line + byte_len cut.one) last cut.rest after k → LineStart at last text after (suc k)
line-later at last text after k cut whole later =
    let front = cut.line ++ cut.one in
    let at' = at + byte_len cut.line + byte_len cut.one in
    let is' = break-further cut.line cut.one cut.rest after cut.is (subst (λ (t : List ℕ). NoCrLfBetween t after) cut.parts whole) in
    let all : line_texts (text ++ after) ≡ cut.line ∷ line_texts (cut.rest ++ after) =
    ap (λ t. line_texts (t ++ after)) cut.parts
    ∙ ap line_texts (append_assoc cut.line (cut.one ++ cut.rest) after ∙ ap (λ t. cut.line ++ t) (append_assoc cut.one cut.rest after))
    ∙ lines-cut cut.line cut.one (cut.rest ++ after) cut.plain is' in
    let shift : start_at at (ends_at at text) (suc k) last ≡ start_at at' (ends_at at' cut.rest) k last =
    ap (λ es. start_at at es (suc k) last) (cut-ends at text cut) ∙ start-later at at' (ends_at at' cut.rest) k last in
    let bytes : byte_len (front ++ later.before) ≡ byte_len cut.line + byte_len cut.one + byte_len later.before =
    omega (arith, byte_len-append front later.before, byte_len-append cut.line cut.one) in
    let starts = later.starts in
    let few = later.few in
    let nearer : IsBreak is_break cut.one later.before = break-nearer cut.one later.before later.behind (subst (IsBreak is_break cut.one) later.parts cut.is) in
    let own : line_texts (front ++ later.before) ≡ cut.line ∷ line_texts later.before =
    ap line_texts (append_assoc cut.line cut.one later.before) ∙ lines-cut cut.line cut.one later.before cut.plain nearer in
    record {
      before = front ++ later.before;
      behind = later.behind;
      parts = cut.parts ∙ sym (append_assoc cut.line cut.one cut.rest) ∙ ap (λ t. front ++ t) later.parts ∙ sym (append_assoc front later.before later.behind);
      starts = omega (arith, shift, starts, bytes);
      here = ap (take (suc k)) all ∙ ap (λ ls. cut.line ∷ ls) later.here ∙ sym (ap (take (suc k)) (cut-lines text cut));
      lines = ap (drop (suc k)) all ∙ later.lines;
      front = ap (take (suc k)) (cut-lines text cut) ∙ ap (λ ls. cut.line ∷ ls) later.front ∙ sym (ap (take (suc k)) own);
      few = omega (arith, ap length own, few);
    }

pub line-starts : (k at last : ℕ) (text after : List ℕ) → k < length (line_texts text) → NoCrLfBetween text after → LineStart at last text after k
line-starts zero at last text after inside whole =
    record { before = []; behind = text; parts = refl; starts = omega arith; here = refl; lines = refl; front = refl; few = omega (arith, ap length line_texts-nil) }
line-starts (suc k) at last text after inside whole = elim (first_line text) [
  | inl none ↦ absurd (omega (arith, inside, ap length (line-last text none)))
  | inr cut ↦
      let rest = uncut-behind (cut.line ++ cut.one) cut.rest after (subst (λ (t : List ℕ). NoCrLfBetween t after) (cut.parts ∙ sym (append_assoc cut.line cut.one cut.rest)) whole) in
      line-later at last text after k cut whole
      (line-starts k (at + byte_len cut.line + byte_len cut.one) last cut.rest after (omega (arith, inside, ap length (cut-lines text cut))) rest)
]

-- a line of a text: the text before it, and then the line and all lines after it
pub record Behind (text : List ℕ) (line byte : ℕ) : Type 0 where
  pub before : List ℕ
  pub behind : List ℕ
  pub parts : text ≡ before ++ behind
  pub place : byte ≡ byte_len before
  pub lines : drop line (line_texts text) ≡ line_texts behind
  pub front : take line (line_texts text) ≡ take line (line_texts before)
  pub few : length (line_texts before) ≡ line + 1

pub behind-line : (text : List ℕ) (line : ℕ) → line < line_count text → Behind text line (line_start text line)
behind-line text line inside =
    let last = byte_len text in
    let h = line-starts line 0 last text [] (omega (arith, inside, lines-counted text)) (no-lf (ends_with_cr text)) in
    let starts = h.starts in
    record {
      before = h.before;
      behind = h.behind;
      parts = h.parts;
      place = omega (arith, starts, start-is (ends_at 0 text) line last);
      lines = ap (λ t. drop line (line_texts t)) (sym (append-nil text)) ∙ h.lines ∙ ap line_texts (append-nil h.behind);
      front = h.front;
      few = h.few;
    }

-- it starts at a character boundary
pub starts-between : (text before behind : List ℕ) (place : ℕ) → all_scalars text ≡ true → text ≡ before ++ behind → place ≡ byte_len before → IsCharBoundary (bytes_of text) place
starts-between text before behind place scalars parts is =
    let bytes : bytes_of text ≡ bytes_of before ++ bytes_of behind = ap bytes_of parts ∙ encodes-append before behind in
    let left : drop place (bytes_of text) ≡ bytes_of behind = ap (λ n. drop n (bytes_of text)) is ∙ ap (drop (byte_len before)) bytes ∙ drop-append_seam (bytes_of before) (bytes_of behind) in
    let own : all_scalars behind ≡ true = (scalars-parts before behind (sym (ap all_scalars parts) ∙ scalars)).1 in
    IsCharBoundary-from_drop (bytes_of text) place (omega (arith, is, ap byte_len parts, byte_len-append before behind))
    (subst IsUtf8 (sym left) (behind, (own, refl)))

-- ---- a text up to where a line starts

-- the part of a text up to there has the lines before that one, and an empty one
pub record UpTo (text own : List ℕ) (line : ℕ) : Type 0 where
  pub lines : take line (line_texts own) ≡ take line (line_texts text)
  pub within : line ≤ line_count own
  pub few : line_count own ≤ line + 1

pub up-to : (text own : List ℕ) (line stop end : ℕ) → all_scalars text ≡ true → line < line_count text → stop ≡ line_start text line → stop ≡ end
    → bytes_of own ≡ take end (bytes_of text) → UpTo text own line
up-to text own line stop end scalars inside stop_is end_is bytes =
    let h = behind-line text line inside in
    let place = h.place in
    let there : end ≡ byte_len h.before = omega (arith, stop_is, end_is, place) in
    let front : take end (bytes_of text) ≡ bytes_of h.before =
    ap (λ n. take n (bytes_of text)) there ∙ ap (take (byte_len h.before)) (ap bytes_of h.parts ∙ encodes-append h.before h.behind) ∙ take-append_seam (bytes_of h.before) (bytes_of h.behind) in
    let before_scalars = (scalars-parts h.before h.behind (sym (ap all_scalars h.parts) ∙ scalars)).0 in
    let is : own ≡ h.before = chars_from_encodes own (bytes_of h.before) (h.before, (before_scalars, refl)) (bytes ∙ front) ∙ chars-encodes h.before before_scalars in
    let few = h.few in
    record {
      lines = ap (λ t. take line (line_texts t)) is ∙ sym h.front;
      within = omega (arith, ap line_count is, few, lines-counted h.before);
      few = omega (arith, ap line_count is, few, lines-counted h.before);
    }

pub up-to-all : (text own : List ℕ) (line : ℕ) → line ≡ line_count text → own ≡ text → UpTo text own line
up-to-all text own line all is = record {
  lines = ap (λ t. take line (line_texts t)) is;
  within = omega (arith, all, ap line_count is);
  few = omega (arith, all, ap line_count is);
}

-- it starts at a character boundary
pub line-between : (text : List ℕ) (line place : ℕ) → all_scalars text ≡ true → line < line_count text → place ≡ line_start text line → IsCharBoundary (bytes_of text) place
line-between text line place scalars inside is =
    let h = behind-line text line inside in
    starts-between text h.before h.behind place scalars h.parts (is ∙ h.place)

-- ---- what a chunk shows from an offset on

pub cutting-tail : (p : List ℕ) (ps : List (List ℕ)) → IsCutting (p ∷ ps) → IsCutting ps
cutting-tail p [] cut = tt
cutting-tail p (q ∷ qs) cut = cut.2

starts-joined_lf : (q : List ℕ) (qs : List (List ℕ)) → IsCutting (q ∷ qs) → starts_with_lf (text_of (q ∷ qs)) ≡ starts_with_lf q
starts-joined_lf [] [] cut = refl
starts-joined_lf [] (r ∷ rs) cut = let some = cut.0.not_empty in absurd (omega (arith, some))
starts-joined_lf (c ∷ cs) qs cut = refl

-- no CR LF is split after a chunk
pub chunk-whole : (bs : List (List ℕ)) (c : ℕ) (cs : List ℕ) (ps : List (List ℕ)) → IsCutting (bs ++ ((c ∷ cs) ∷ ps)) → NoCrLfBetween (c ∷ cs) (text_of ps)
chunk-whole [] c cs [] cut = no-lf (ends_with_cr (c ∷ cs))
chunk-whole [] c cs (q ∷ qs) cut = ap (λ b. ends_with_cr (c ∷ cs) && b) (starts-joined_lf q qs cut.2) ∙ cut.1
chunk-whole (b ∷ bs) c cs ps cut = chunk-whole bs c cs ps (cutting-tail b (bs ++ ((c ∷ cs) ∷ ps)) cut)

-- a chunk, with the text before it and after it
pub record ChunkIn (text chunk : List ℕ) (start : ℕ) : Type 0 where
  pub first : List ℕ
  pub others : List ℕ
  pub parts : text ≡ first ++ (chunk ++ others)
  pub start_is : start ≡ byte_len first
  pub whole : NoCrLfBetween chunk others

pub chunk-in : (pieces bs ps : List (List ℕ)) (chunk : List ℕ) (start : ℕ) → IsCutting pieces → pieces ≡ bs ++ (lone_piece chunk ++ ps) → start ≡ byte_len (text_of bs)
    → ChunkIn (text_of pieces) chunk start
chunk-in pieces bs ps [] start cut parts start_is = record {
  first = text_of bs;
  others = text_of ps;
  parts = ap text_of parts ∙ concat-append bs ps;
  start_is = start_is;
  whole = refl;
}
chunk-in pieces bs ps (c ∷ cs) start cut parts start_is = record {
  first = text_of bs;
  others = text_of ps;
  parts = ap text_of parts ∙ concat-append bs ((c ∷ cs) ∷ ps);
  start_is = start_is;
  whole = chunk-whole bs c cs ps (subst IsCutting parts cut);
}

-- what it shows from the offset on: the text after the offset begins with it
pub record RestAt (chunk behind : List ℕ) (within : ℕ) : Type 0 where
  pub mid : List ℕ
  pub rest : List ℕ
  pub parts : chunk ≡ mid ++ rest
  pub within_is : within ≡ byte_len mid
  pub shown : IsRestOfChunk behind rest

pub rest-at : (text chunk before behind : List ℕ) (start place : ℕ) → ChunkIn text chunk start → text ≡ before ++ behind → place ≡ byte_len before
    → start ≤ place → place ≤ start + byte_len chunk → RestAt chunk behind (place - start)
rest-at text chunk before behind start place h parts place_is low high =
    let start_is = h.start_is in
    let m = front_within h.first (chunk ++ h.others) before behind (sym h.parts ∙ parts) (omega (arith, low, start_is, place_is)) in
    let mid = m.0 in
    let there : chunk ++ h.others ≡ mid ++ behind =
    cut_off h.first (chunk ++ h.others) (mid ++ behind) (sym h.parts ∙ parts ∙ ap (λ s. s ++ behind) m.1 ∙ append_assoc h.first mid behind) in
    let width : byte_len before ≡ byte_len h.first + byte_len mid = ap byte_len m.1 ∙ byte_len-append h.first mid in
    let r = front_within mid behind chunk h.others (sym there) (omega (arith, high, start_is, place_is, width)) in
    let rest = r.0 in
    record {
      mid = mid;
      rest = rest;
      parts = r.1;
      within_is = omega (arith, start_is, place_is, width);
      shown = record {
        after = h.others;
        parts = cut_off mid behind (rest ++ h.others) (sym there ∙ ap (λ s. s ++ h.others) r.1 ∙ append_assoc mid rest h.others);
        whole = uncut-behind mid rest h.others (subst (λ (t : List ℕ). NoCrLfBetween t h.others) r.1 h.whole);
      };
    }

-- the bytes of a chunk from an offset on are those of what it shows
pub rest-bytes : (bytes mid rest : List ℕ) (within : ℕ) → IsUtf8 bytes → chars bytes ≡ mid ++ rest → within ≡ byte_len mid → drop within bytes ≡ bytes_of rest
rest-bytes bytes mid rest within utf8 parts is =
    let all : bytes ≡ bytes_of mid ++ bytes_of rest = sym (encodes-chars bytes utf8) ∙ ap bytes_of parts ∙ encodes-append mid rest in
    ap (λ n. drop n bytes) is ∙ ap (drop (byte_len mid)) all ∙ drop-append_seam (bytes_of mid) (bytes_of rest)

pub rest-chars : (bytes mid rest : List ℕ) (within : ℕ) → IsUtf8 bytes → chars bytes ≡ mid ++ rest → within ≡ byte_len mid → chars (drop within bytes) ≡ rest
rest-chars bytes mid rest within utf8 parts is =
    let own = (scalars-parts mid rest (sym (ap all_scalars parts) ∙ scalars-chars bytes utf8)).1 in
    ap chars (rest-bytes bytes mid rest within utf8 parts is) ∙ chars-encodes rest own

-- ---- further on in a chunk

some-lines : (text : List ℕ) → 0 < length (line_texts text)
some-lines text = omega (arith, lines-counted text)

-- this number of lines is not all, if some follow them
not-all : (text behind : List ℕ) (line : ℕ) → drop line (line_texts text) ≡ line_texts behind → line < line_count text
not-all text behind line is = omega (arith, length-drop line (line_texts text), ap length is, some-lines behind, lines-counted text)

pub length-chars : (bytes : List ℕ) → IsUtf8 bytes → byte_len (chars bytes) ≡ length bytes
length-chars bytes utf8 = ap length (encodes-chars bytes utf8)

-- from one line of the rest to another
pub skipped : (text : List ℕ) (line byte : ℕ) (rest : List ℕ) (count place : ℕ) → IsUtf8 rest → StartsLine text line byte (chars rest) → count ≤ breaks is_break (chars rest)
    → place ≡ end_place (break_ends is_break (chars rest)) count (length rest)
    → IsUtf8 (drop place rest) × (place ≤ length rest) × StartsLine text (line + count) (byte + place) (chars (drop place rest))
skipped text line byte rest count place utf8 w inside is =
    let own = chars rest in
    let after = w.shown.after in
    let last = byte_len own in
    let h = line-starts count 0 last own after (omega (arith, inside, lines-counted own)) w.shown.whole in
    let starts = h.starts in
    let there : end_place (break_ends is_break own) count (length rest) ≡ end_place (break_ends is_break own) count last =
    ap (end_place (break_ends is_break own) count) (sym (length-chars rest utf8)) in
    let place_is : place ≡ byte_len h.before = omega (arith, is, there, starts, start-is (ends_at 0 own) count last) in
    let left : drop place rest ≡ bytes_of h.behind = rest-bytes rest h.before h.behind place utf8 h.parts place_is in
    let shown : chars (drop place rest) ≡ h.behind = rest-chars rest h.before h.behind place utf8 h.parts place_is in
    let scalars = (scalars-parts h.before h.behind (sym (ap all_scalars h.parts) ∙ scalars-chars rest utf8)).1 in
    let byte_is = w.place in
    let sizes : byte_len own ≡ byte_len h.before + byte_len h.behind = ap byte_len h.parts ∙ byte_len-append h.before h.behind in
    let start : StartsLine text (line + count) (byte + place) h.behind = record {
      before = w.before ++ h.before;
      behind = h.behind ++ after;
      parts = w.parts ∙ ap (λ t. w.before ++ t) (w.shown.parts ∙ ap (λ t. t ++ after) h.parts ∙ append_assoc h.before h.behind after) ∙ sym (append_assoc w.before h.before (h.behind ++ after));
      place = omega (arith, byte_is, place_is, byte_len-append w.before h.before);
      there = there-further text line byte own count place w inside (is ∙ there);
      lines = sym (drop-drop count line (line_texts text)) ∙ ap (drop count) (w.lines ∙ ap line_texts w.shown.parts) ∙ h.lines;
      shown = record { after = after; parts = refl; whole = uncut-behind h.before h.behind after (subst (λ (t : List ℕ). NoCrLfBetween t after) h.parts w.shown.whole) };
    } in (
      subst IsUtf8 (sym left) (h.behind, (scalars, refl)),
      omega (arith, place_is, sizes, length-chars rest utf8),
      subst (StartsLine text (line + count) (byte + place)) (sym shown) start,
    )

no-breaks : breaks is_break (chars []) ≡ 0
no-breaks = ap (breaks is_break) chars-nil

-- if nothing is left there is no other
none-left : (rest : List ℕ) (count : ℕ) → rest ≡ [] → count ≤ breaks is_break (chars rest) → count ≡ 0
none-left rest count none inside = omega (arith, inside, ap (λ bs. breaks is_break (chars bs)) none, no-breaks)

-- the lines that end in the rest are not all
pub rest-few : (text : List ℕ) (line byte : ℕ) (rest : List ℕ) → IsWalk text line byte rest → line < line_count text → line + breaks is_break (chars rest) < line_count text
rest-few text line byte rest w below =
    let count = breaks is_break (chars rest) in
    let start = (skipped text line byte rest count (end_place (break_ends is_break (chars rest)) count (length rest)) w.utf8 (w.starts below) (omega arith) refl).2 in
    not-all text start.behind (line + count) start.lines

-- a break that ends before the end of the rest is one of its own
pub inside-rest : (rest : List ℕ) (count place : ℕ) → place ≡ end_place (break_ends is_break (chars rest)) count (length rest) → place < length rest → count ≤ breaks is_break (chars rest)
inside-rest rest zero place is low = omega arith
inside-rest rest (suc k) place is low = elim (cases_lt k (breaks is_break (chars rest))) [
  | inl below ↦ omega (arith, below)
  | inr past ↦ absurd (omega (arith, low, is, get_or_past (break_ends is_break (chars rest)) k (length rest) (omega (arith, past))))
]

pub record SkipsTo (text : List ℕ) (line byte : ℕ) (rest : List ℕ) (place : ℕ) : Type 0 where
  pub boundary : IsCharBoundary rest place
  pub walk : IsWalk text line byte (drop place rest)

pub skip-walk : (text : List ℕ) (line byte : ℕ) (rest : List ℕ) (count place : ℕ) → IsWalk text line byte rest → count ≤ breaks is_break (chars rest)
    → place ≡ end_place (break_ends is_break (chars rest)) count (length rest) → SkipsTo text (line + count) (byte + place) rest place
skip-walk text line byte rest count place w inside is =
    let within = w.within in
    let near = w.near in
    elim (cases_lt line (line_count text)) [
      | inl below ↦
          let there = skipped text line byte rest count place w.utf8 (w.starts below) inside is in
          let start = there.2 in
          let further : line + count < line_count text = not-all text start.behind (line + count) start.lines in
          let place_is = start.place in
          record {
            boundary = IsCharBoundary-from_drop rest place there.1 there.0;
            walk = record {
              text_is = w.text_is;
              fits = w.fits;
              bytes_fit = w.bytes_fit;
              near = omega (arith, place_is, ap byte_len start.parts, byte_len-append start.before start.behind);
              utf8 = there.0;
              within = omega (arith, further);
              starts = λ _. start;
              nothing = λ end. absurd (omega (arith, further, end));
            };
          }
      | inr past ↦
          let end : line ≡ line_count text = omega (arith, within, past) in
          let none = w.nothing end in
          let zero' = none-left rest count none inside in
          let place_is : place ≡ 0 = is ∙ ap (λ n. end_place (break_ends is_break (chars rest)) n (length rest)) zero' in
          let gone : drop place rest ≡ [] = ap (λ n. drop n rest) place_is ∙ none in
          let utf8 : IsUtf8 (drop place rest) = subst IsUtf8 (sym gone) IsUtf8-nil in
          record {
            boundary = IsCharBoundary-from_drop rest place (omega (arith, place_is)) utf8;
            walk = record {
              text_is = w.text_is;
              fits = w.fits;
              bytes_fit = w.bytes_fit;
              near = omega (arith, near, place_is);
              utf8 = utf8;
              within = omega (arith, within, zero');
              starts = λ below. absurd (omega (arith, below, end));
              nothing = λ _. gone;
            };
          }
    ]

-- a walk before a line, from what its chunk shows of it
pub walk-behind : (text : List ℕ) (line byte : ℕ) (rest : List ℕ) → all_scalars text ≡ true → line_count text < 2 ^ 64 → byte_len text < 2 ^ 63 → IsUtf8 rest → line < line_count text
    → (h : Behind text line (line_start text line)) → byte ≡ byte_len h.before → IsRestOfChunk h.behind (chars rest) → IsWalk text line byte rest
walk-behind text line byte rest scalars fits bytes_fit utf8 below h place shown = record {
  text_is = scalars;
  fits = fits;
  bytes_fit = bytes_fit;
  near = omega (arith, place, ap byte_len h.parts, byte_len-append h.before h.behind);
  utf8 = utf8;
  within = omega (arith, below);
  starts = λ _. record { before = h.before; behind = h.behind; parts = h.parts; place = place; there = place ∙ sym h.place; lines = h.lines; shown = shown };
  nothing = λ end. absurd (omega (arith, below, end));
}

-- and one after the last line
pub walk-end : (text : List ℕ) (line byte : ℕ) → all_scalars text ≡ true → line_count text < 2 ^ 64 → byte_len text < 2 ^ 63 → line ≡ line_count text → byte ≡ line_start text line
    → IsWalk text line byte []
walk-end text line byte scalars fits bytes_fit end place =
    let last = past-last text (breaks is_break text) refl in
    let same : line_start text line ≡ line_start text (breaks is_break text + 1) = ap (line_start text) end in
    record {
      text_is = scalars;
      fits = fits;
      bytes_fit = bytes_fit;
      near = omega (arith, place, same, last);
      utf8 = IsUtf8-nil;
      within = omega (arith, end);
      starts = λ below. absurd (omega (arith, below, end));
      nothing = λ _. refl;
    }

-- ---- the next line

-- the first of the lines after an offset
pub first-text : (text behind : List ℕ) (line : ℕ) (own : List ℕ) (others : List (List ℕ)) → drop line (line_texts text) ≡ line_texts behind → line_texts behind ≡ own ∷ others
    → line_text text line ≡ own
first-text text behind line own others lines is =
    let here : line ≡ line + 0 = omega arith in
    ap (λ n. get_or (line_texts text) n []) here ∙ sym (get_or-drop line (line_texts text) 0 []) ∙ ap (λ ls. get_or ls 0 []) (lines ∙ is)

-- a line that ends in the chunk
pub record NextLine (text : List ℕ) (line byte : ℕ) (rest : List ℕ) (start end : ℕ) : Type 0 where
  pub own : chars (take start rest) ≡ line_text text line
  pub walk : IsWalk text (line + 1) (byte + end) (drop end rest)

pub next-line : (text : List ℕ) (line byte : ℕ) (rest : List ℕ) (start end : ℕ) → IsWalk text line byte rest → line < line_count text → IsFirstBreak is_break rest start end
    → NextLine text line byte rest start end
next-line text line byte rest start end walk below found =
    let utf8 = walk.utf8 in
    let w = walk.starts below in
    let own = chars (take start rest) in
    let one = chars (take (end - start) (drop start rest)) in
    let left = chars (drop end rest) in
    let after = w.shown.after in
    let parts : chars rest ≡ own ++ (one ++ left) = found.parts ∙ append_assoc own one left in
    let whole : NoCrLfBetween (own ++ (one ++ left)) after = subst (λ (t : List ℕ). NoCrLfBetween t after) parts w.shown.whole in
    let behind_is : w.behind ≡ own ++ (one ++ (left ++ after)) =
    w.shown.parts ∙ ap (λ t. t ++ after) parts ∙ append_assoc own (one ++ left) after ∙ ap (λ t. own ++ t) (append_assoc one left after) in
    let lines : line_texts w.behind ≡ own ∷ line_texts (left ++ after) =
    ap line_texts behind_is ∙ lines-cut own one (left ++ after) found.line (break-further own one left after found.one whole) in
    let utf8' = IsUtf8-drop rest end utf8 found.ends in
    let within = found.ends.0 in
    let byte_is = w.place in
    let sizes : byte_len own + byte_len one + byte_len left ≡ length rest =
    omega (arith, length-chars rest utf8, ap byte_len parts, byte_len-append own (one ++ left), byte_len-append one left) in
    let gone : byte_len left ≡ length rest - end = length-chars (drop end rest) utf8' ∙ length-drop end rest in
    let further_on : StartsLine text (line + 1) (byte + end) left = record {
      before = w.before ++ (own ++ one);
      behind = left ++ after;
      parts = w.parts ∙ ap (λ t. w.before ++ t) (behind_is ∙ sym (append_assoc own one (left ++ after))) ∙ sym (append_assoc w.before (own ++ one) (left ++ after));
      place = omega (arith, byte_is, sizes, gone, within, byte_len-append w.before (own ++ one), byte_len-append own one);
      there = there-further text line byte (chars rest) 1 end w (omega (arith, ap length found.break_ends)) (sym (ap (λ es. end_place es 1 (byte_len (chars rest))) found.break_ends));
      lines = sym (drop-drop 1 line (line_texts text)) ∙ ap (drop 1) (w.lines ∙ lines);
      shown = record { after = after; parts = refl; whole = uncut-behind (own ++ one) left after (subst (λ (t : List ℕ). NoCrLfBetween t after) (sym (append_assoc own one left)) whole) };
    } in
    let further : line + 1 < line_count text = not-all text (left ++ after) (line + 1) further_on.lines in
    let place_is = further_on.place in
    record {
      own = sym (first-text text w.behind line own (line_texts (left ++ after)) w.lines lines);
      walk = record {
        text_is = walk.text_is;
        fits = walk.fits;
        bytes_fit = walk.bytes_fit;
        near = omega (arith, place_is, ap byte_len further_on.parts, byte_len-append further_on.before further_on.behind);
        utf8 = utf8';
        within = omega (arith, further);
        starts = λ _. further_on;
        nothing = λ last. absurd (omega (arith, further, last));
      };
    }

-- ---- the lines that end in the rest

pub shows-lines : (text : List ℕ) (line byte : ℕ) (rest : List ℕ) → IsWalk text line byte rest → (k : ℕ) → k < breaks is_break (chars rest)
    → line_text text (line + k) ≡ line_text (chars rest) k
shows-lines text line byte rest w k inside =
    let within = w.within in
    elim (cases_lt line (line_count text)) [
      | inl below ↦
          let own = chars rest in
          let start = w.starts below in
          let after = start.shown.after in
          let h = line-starts (k + 1) 0 0 own after (omega (arith, inside, lines-counted own)) start.shown.whole in
          let some : k < k + 1 = omega arith in
          sym (get_or-drop line (line_texts text) k []) ∙ ap (λ ls. get_or ls k []) (start.lines ∙ ap line_texts start.shown.parts)
          ∙ sym (get_or-take (k + 1) (line_texts (own ++ after)) k [] some) ∙ ap (λ ls. get_or ls k []) h.here ∙ get_or-take (k + 1) (line_texts own) k [] some
      | inr past ↦
          let end : line ≡ line_count text = omega (arith, within, past) in
          absurd (omega (arith, inside, ap (λ bs. breaks is_break (chars bs)) (w.nothing end), no-breaks))
    ]

-- ---- what is shown of a rope's chunk from an offset on

-- the offset is in the chunk, or at its end
pub reaches : (pieces : List (List ℕ)) (place start char line : ℕ) (chunk : List ℕ) → (s : ShowsChunk pieces byte_len place chunk start char line) → place ≤ byte_len (text_of pieces)
    → (start ≤ place) × (place ≤ start + byte_len chunk)
reaches pieces place start char line chunk s within =
    let low = s.not_past in
    let start_is = s.byte_is in (
      omega (arith, low, start_is),
      elim s.passed [
        | inl inside ↦ omega (arith, inside, start_is, byte_len-append (text_of s.before) chunk)
        | inr none ↦
            let all : text_of pieces ≡ text_of s.before ++ chunk =
            ap text_of (s.parts ∙ ap (λ ps. (s.before ++ lone_piece chunk) ++ ps) none ∙ append-nil (s.before ++ lone_piece chunk)) ∙ concat-append s.before (lone_piece chunk) ∙ ap (λ t. text_of s.before ++ t) (alone-text chunk) in
            omega (arith, within, start_is, ap byte_len all, byte_len-append (text_of s.before) chunk)
      ],
    )
  where
    alone-text : (chunk : List ℕ) → text_of (lone_piece chunk) ≡ chunk
    alone-text [] = refl
    alone-text (c ∷ cs) = append-nil (c ∷ cs)

pub shown-rest : (pieces : List (List ℕ)) (bytes : List ℕ) (place start char line : ℕ) → IsCutting pieces → IsUtf8 bytes → ShowsChunk pieces byte_len place (chars bytes) start char line
    → (before behind : List ℕ) → text_of pieces ≡ before ++ behind → place ≡ byte_len before
    → IsCharBoundary bytes (place - start) × IsRestOfChunk behind (chars (drop (place - start) bytes)) × (start ≤ place)
shown-rest pieces bytes place start char line cut utf8 s before behind parts place_is =
    let text = text_of pieces in
    let h = chunk-in pieces s.before s.after (chars bytes) start cut (s.parts ∙ append_assoc s.before (lone_piece (chars bytes)) s.after) s.byte_is in
    let within : place ≤ byte_len text = omega (arith, place_is, ap byte_len parts, byte_len-append before behind) in
    let r = reaches pieces place start char line (chars bytes) s within in
    let at = rest-at text (chars bytes) before behind start place h parts place_is r.0 r.1 in
    let left = rest-bytes bytes at.mid at.rest (place - start) utf8 at.parts at.within_is in
    let own = (scalars-parts at.mid at.rest (sym (ap all_scalars at.parts) ∙ scalars-chars bytes utf8)).1 in
    let far : place - start ≤ length bytes = let width = at.within_is in omega (arith, width, ap byte_len at.parts, byte_len-append at.mid at.rest, length-chars bytes utf8) in (
      IsCharBoundary-from_drop bytes (place - start) far (subst IsUtf8 (sym left) (at.rest, (own, refl))),
      subst (IsRestOfChunk behind) (sym (rest-chars bytes at.mid at.rest (place - start) utf8 at.parts at.within_is)) at.shown,
      r.0,
    )

-- a line is next if one was before the chunk was shown
pub shown-next : (fields shown old : WalkState) → fields ≡ shown → shown.text ≡ old.text → shown.line ≡ old.line → old.line < line_count old.text → fields.line < line_count fields.text
shown-next fields shown old is text line below =
    subst (λ (w : WalkState). w.line < line_count w.text) (sym is) (omega (arith, below, line, ap line_count text))

-- a range from the start
pub from-start : (bytes : List ℕ) (end : ℕ) → slice_range bytes 0 end ≡ take end bytes
from-start bytes end = let same : end - 0 ≡ end = omega arith in ap (λ n. take n bytes) same
