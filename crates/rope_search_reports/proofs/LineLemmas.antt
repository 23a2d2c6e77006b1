-- The lines of a text: the first one split off, the lines of joined texts, and where each line is.
use Rattle.std.proofs.Common.{◌≡◌, ℕ, zero, suc, ◌+◌, ◌-◌, ◌<◌, ◌==◌, Bool, true, false, not, cond, ◌&&◌, List, [], ◌∷◌, ◌++◌, length, replicate, take, drop, slice_index_or, refl, sym, ap, ◌∙◌, subst, ◌⊎◌, inl, inr, append-nil, arith, append_assoc, length-append}
use Rattle.std.proofs.Math.Seq.{take-append_seam, drop-append_seam}
use Rattle.std.proofs.Math.Utf8.{encode}
use Rattle.std.proofs.lemmas.Bool.{cases_Bool, cond-true, cond-false}
use Rattle.std.proofs.lemmas.Bool.Decides.{nat_tests}
use Rattle.std.proofs.lemmas.List.{length-replicate}
use Rattle.std.proofs.lemmas.Str.{encodes-append, length-encode}
use Rattle.std.specs.Char.{len_utf8}
use Rattle.std.specs.Str.{NonePass}
use Rattle.str_indices.specs.Text.{byte_len, NoCrLfBetween, ends_break, starts_with_lf, ends_with_cr, cuts_cr_lf, ends_from, end_place, breaks}
use Rattle.ropey.specs.Chunks.{is_break}
use Rattle.str_indices.specs.FirstBreak.{IsBreak}
use Rattle.rope_search_reports.specs.Text.{bytes_of, line_count}
use Rattle.rope_search_reports.specs.Report.{with_first, line_texts}
use Rattle.rope_search_reports.specs.Position.{line_start, text_end, LiesInPlace}

-- ---- the lines of a text by its first character

pub line_texts-nil : line_texts [] ≡ [] ∷ []
unfolding line_texts
line_texts-nil = refl

pub line_texts-break : (c : ℕ) (rest : List ℕ) → ends_break is_break c rest ≡ true → line_texts (c ∷ rest) ≡ [] ∷ line_texts rest
unfolding line_texts
line_texts-break c rest is_so = cond-true _ _ _ is_so

pub line_texts-cr : (c : ℕ) (rest : List ℕ) → ends_break is_break c rest ≡ false → is_break c ≡ true → line_texts (c ∷ rest) ≡ line_texts rest
unfolding line_texts
line_texts-cr c rest is_not is_so = cond-false _ _ _ is_not ∙ cond-true _ _ _ is_so

pub line_texts-more : (c : ℕ) (rest : List ℕ) → ends_break is_break c rest ≡ false → is_break c ≡ false → line_texts (c ∷ rest) ≡ with_first c (line_texts rest)
unfolding line_texts
line_texts-more c rest is_not is_not' = cond-false _ _ _ is_not ∙ cond-false _ _ _ is_not'

no_break-ends_none : (c : ℕ) (rest : List ℕ) → is_break c ≡ false → ends_break is_break c rest ≡ false
no_break-ends_none c rest is_not = ap (λ b. b && not ((c == 13) && starts_with_lf rest)) is_not

-- ---- the number of lines

with_first-length : (c : ℕ) (lines : List (List ℕ)) → 0 < length lines → length (with_first c lines) ≡ length lines
with_first-length c [] some = absurd (omega (arith, some))
with_first-length c (line ∷ lines) some = refl

abbrev pub breaks_after : ℕ → List ℕ → ℕ
breaks_after c rest = cond (ends_break is_break c rest) 1 0

ends-first : (at c : ℕ) (cs : List ℕ) → length (ends_from breaks_after at (c ∷ cs)) ≡ breaks_after c cs + length (ends_from breaks_after (at + len_utf8 c) cs)
ends-first at c cs =
    let next = at + len_utf8 c in
    length-append (replicate (breaks_after c cs) next) (ends_from breaks_after next cs)
    ∙ ap (λ n. n + length (ends_from breaks_after next cs)) (length-replicate (breaks_after c cs) next)

lines-from : (at : ℕ) (text : List ℕ) → length (line_texts text) ≡ length (ends_from breaks_after at text) + 1
lines-from at [] = ap length line_texts-nil
lines-from at (c ∷ cs) =
    let later = lines-from (at + len_utf8 c) cs in
    let ends = ends-first at c cs in
    elim (cases_Bool (ends_break is_break c cs)) [
      | inl is_so ↦
          let one : breaks_after c cs ≡ 1 = cond-true _ _ _ is_so in
          let lines : length (line_texts (c ∷ cs)) ≡ suc (length (line_texts cs)) = ap length (line_texts-break c cs is_so) in
          omega (arith, later, ends, one, lines)
      | inr is_not ↦
          let none : breaks_after c cs ≡ 0 = cond-false _ _ _ is_not in
          elim (cases_Bool (is_break c)) [
            | inl is_so ↦
                let lines : length (line_texts (c ∷ cs)) ≡ length (line_texts cs) = ap length (line_texts-cr c cs is_not is_so) in
                omega (arith, later, ends, none, lines)
            | inr is_not' ↦
                let lines : length (line_texts (c ∷ cs)) ≡ length (line_texts cs) =
                ap length (line_texts-more c cs is_not is_not') ∙ with_first-length c (line_texts cs) (omega (arith, later)) in
                omega (arith, later, ends, none, lines)
          ]
    ]

-- a text has one more line than breaks
pub lines-counted : (text : List ℕ) → length (line_texts text) ≡ breaks is_break text + 1
lines-counted text = lines-from 0 text

-- ---- the first line, split off

-- a line, its break, and the rest
pub record IsCutOff (text : List ℕ) : Type 0 where
  pub line : List ℕ
  pub one : List ℕ
  pub rest : List ℕ
  pub parts : text ≡ line ++ (one ++ rest)
  pub plain : NonePass is_break line
  pub is : IsBreak is_break one rest

break-cut : (c : ℕ) (cs : List ℕ) → is_break c ≡ true → IsCutOff (c ∷ cs)
break-cut c cs is_so = elim (cases_Bool (ends_break is_break c cs)) [
  | inl ends ↦ record { line = []; one = c ∷ []; rest = cs; parts = refl; plain = tt; is = ends }
  | inr not_yet ↦ crlf cs not_yet
]
  where
    crlf : (ds : List ℕ) → ends_break is_break c ds ≡ false → IsCutOff (c ∷ ds)
    crlf [] not_yet = absurd (grind (arith, nat_tests, is_so, not_yet))
    crlf (d ∷ ds) not_yet =
        let cr : c ≡ 13 = grind (arith, nat_tests, is_so, not_yet) in
        let lf : d ≡ 10 = grind (arith, nat_tests, is_so, not_yet) in
        record { line = []; one = c ∷ d ∷ []; rest = ds; parts = refl; plain = tt; is = (cr, lf, refl, refl) }

pub first_line : (text : List ℕ) → NonePass is_break text ⊎ IsCutOff text
first_line [] = inl tt
first_line (c ∷ cs) = elim (cases_Bool (is_break c)) [
  | inl is_so ↦ inr (break-cut c cs is_so)
  | inr is_not ↦ elim (first_line cs) [
    | inl none ↦ inl (is_not, none)
    | inr cut ↦ inr (record { line = c ∷ cut.line; one = cut.one; rest = cut.rest; parts = ap (λ t. c ∷ t) cut.parts; plain = (is_not, cut.plain); is = cut.is })
  ]
]

-- a text without a break is one line
pub line-last : (text : List ℕ) → NonePass is_break text → line_texts text ≡ text ∷ []
line-last [] plain = line_texts-nil
line-last (c ∷ cs) plain = line_texts-more c cs (no_break-ends_none c cs plain.0) plain.0 ∙ ap (with_first c) (line-last cs plain.1)

line-cut : (cs ds : List ℕ) (others : List (List ℕ)) → NonePass is_break cs → line_texts ds ≡ [] ∷ others → line_texts (cs ++ ds) ≡ cs ∷ others
line-cut [] ds others none e = e
line-cut (c ∷ cs) ds others none e =
    line_texts-more c (cs ++ ds) (no_break-ends_none c (cs ++ ds) none.0) none.0 ∙ ap (with_first c) (line-cut cs ds others none.1 e)

lines-crlf : (c d : ℕ) (rest : List ℕ) → c ≡ 13 → d ≡ 10 → line_texts (c ∷ d ∷ rest) ≡ [] ∷ line_texts rest
lines-crlf c d rest cr lf =
    ap (λ n. line_texts (n ∷ d ∷ rest)) cr ∙ ap (λ n. line_texts (13 ∷ n ∷ rest)) lf
    ∙ line_texts-cr 13 (10 ∷ rest) refl refl ∙ line_texts-break 10 rest refl

break-lines : (one rest : List ℕ) → IsBreak is_break one rest → line_texts (one ++ rest) ≡ [] ∷ line_texts rest
break-lines [] rest is = absurd is
break-lines (c ∷ []) rest is = line_texts-break c rest is
break-lines (c ∷ d ∷ []) rest is = lines-crlf c d rest is.0 is.1
break-lines (c ∷ d ∷ e ∷ es) rest is = absurd is

-- a line and its break are followed by the lines of the rest
pub lines-cut : (line one rest : List ℕ) → NonePass is_break line → IsBreak is_break one rest → line_texts (line ++ (one ++ rest)) ≡ line ∷ line_texts rest
lines-cut line one rest plain is = line-cut line (one ++ rest) (line_texts rest) plain (break-lines one rest is)

some-lines : (text : List ℕ) → 0 < length (line_texts text)
some-lines text = omega (arith, lines-counted text)

-- ---- where lines are

pub byte_len-append : (xs ys : List ℕ) → byte_len (xs ++ ys) ≡ byte_len xs + byte_len ys
byte_len-append xs ys = ap length (encodes-append xs ys) ∙ length-append (bytes_of xs) (bytes_of ys)

pub byte_len-one : (c : ℕ) (cs : List ℕ) → byte_len (c ∷ cs) ≡ len_utf8 c + byte_len cs
byte_len-one c cs = omega (arith, length-append (encode c) (bytes_of cs), length-encode c)

abbrev pub ends_at : ℕ → List ℕ → List ℕ
ends_at at text = ends_from breaks_after at text

ends-ends : (at c : ℕ) (cs : List ℕ) → ends_break is_break c cs ≡ true → ends_at at (c ∷ cs) ≡ (at + len_utf8 c) ∷ ends_at (at + len_utf8 c) cs
ends-ends at c cs is_so =
    let next = at + len_utf8 c in
    ap (λ n. replicate n next ++ ends_at next cs) (cond-true _ _ _ is_so)

ends-none : (at c : ℕ) (cs : List ℕ) → ends_break is_break c cs ≡ false → ends_at at (c ∷ cs) ≡ ends_at (at + len_utf8 c) cs
ends-none at c cs is_not =
    let next = at + len_utf8 c in
    ap (λ n. replicate n next ++ ends_at next cs) (cond-false _ _ _ is_not)

ends-plain : (at : ℕ) (line later : List ℕ) → NonePass is_break line → ends_at at (line ++ later) ≡ ends_at (at + byte_len line) later
ends-plain at [] later plain = let same : at ≡ at + byte_len [] = omega arith in ap (λ n. ends_at n later) same
ends-plain at (c ∷ cs) later plain =
    let same : at + len_utf8 c + byte_len cs ≡ at + byte_len (c ∷ cs) = omega (arith, byte_len-one c cs) in
    ends-none at c (cs ++ later) (no_break-ends_none c (cs ++ later) plain.0) ∙ ends-plain (at + len_utf8 c) cs later plain.1 ∙ ap (λ n. ends_at n later) same

ends-break : (at : ℕ) (one rest : List ℕ) → IsBreak is_break one rest → ends_at at (one ++ rest) ≡ (at + byte_len one) ∷ ends_at (at + byte_len one) rest
ends-break at [] rest is = absurd is
ends-break at (c ∷ []) rest is =
    let same : at + len_utf8 c ≡ at + byte_len (c ∷ []) = omega (arith, byte_len-one c []) in
    ends-ends at c rest is ∙ ap (λ n. n ∷ ends_at n rest) same
ends-break at (c ∷ d ∷ []) rest is =
    let same : at + len_utf8 c + len_utf8 d ≡ at + byte_len (c ∷ d ∷ []) = omega (arith, byte_len-one c (d ∷ []), byte_len-one d []) in
    let cr : ends_break is_break c (d ∷ rest) ≡ false = grind (arith, nat_tests, is.0, is.1) in
    let lf : ends_break is_break d rest ≡ true = grind (arith, nat_tests, is.1) in
    ends-none at c (d ∷ rest) cr ∙ ends-ends (at + len_utf8 c) d rest lf ∙ ap (λ n. n ∷ ends_at n rest) same
ends-break at (c ∷ d ∷ e ∷ es) rest is = absurd is

-- where a line starts in a text that starts at an offset
abbrev pub start_at : ℕ → List ℕ → ℕ → ℕ → ℕ
start_at at ends zero last = at
start_at at ends (suc k) last = slice_index_or ends k last

pub start-later : (at e : ℕ) (es : List ℕ) (k last : ℕ) → start_at at (e ∷ es) (suc k) last ≡ start_at e es k last
start-later at e es zero last = refl
start-later at e es (suc k) last = refl

abbrev nth : List (List ℕ) → ℕ → List ℕ
nth lines k = slice_index_or lines k []

-- a line of a text that starts at an offset is followed by one break, and then the next line
record IsBroken (at last : ℕ) (text : List ℕ) (k : ℕ) (before behind : List ℕ) : Type 0 where
  pub more : k + 1 < length (line_texts text)
  pub one : List ℕ
  pub rest : List ℕ
  pub splits : behind ≡ one ++ rest
  pub is : IsBreak is_break one rest
  pub next : start_at at (ends_at at text) (suc k) last ≡ at + byte_len before + byte_len (nth (line_texts text) k) + byte_len one

-- such a line, and the text around it
record Lies (at last : ℕ) (text : List ℕ) (k : ℕ) : Type 0 where
  pub before : List ℕ
  pub behind : List ℕ
  pub parts : text ≡ before ++ (nth (line_texts text) k ++ behind)
  pub starts : start_at at (ends_at at text) k last ≡ at + byte_len before
  pub whole : NoCrLfBetween before (nth (line_texts text) k ++ behind)
  pub plain : NonePass is_break (nth (line_texts text) k)
  pub ended : ((k + 1 ≡ length (line_texts text)) × (behind ≡ [])) ⊎ IsBroken at last text k before behind

pub cut-lines : (text : List ℕ) → (cut : IsCutOff text) → line_texts text ≡ cut.line ∷ line_texts cut.rest
cut-lines text cut = ap line_texts cut.parts ∙ lines-cut cut.line cut.one cut.rest cut.plain cut.is

pub cut-ends : (at : ℕ) (text : List ℕ) → (cut : IsCutOff text)
    → ends_at at text ≡ (at + byte_len cut.line + byte_len cut.one) ∷ ends_at (at + byte_len cut.line + byte_len cut.one) cut.rest
cut-ends at text cut =
    ap (ends_at at) cut.parts ∙ ends-plain at cut.line (cut.one ++ cut.rest) cut.plain ∙ ends-break (at + byte_len cut.line) cut.one cut.rest cut.is

lies-first : (at last : ℕ) (text : List ℕ) → Lies at last text 0
lies-first at last text = elim (first_line text) [
  | inl none ↦
      let lines = line-last text none in
      let head : nth (line_texts text) 0 ≡ text = ap (λ ls. nth ls 0) lines in
      record {
        before = [];
        behind = [];
        parts = sym (append-nil (nth (line_texts text) 0) ∙ head);
        starts = omega arith;
        whole = refl;
        plain = subst (NonePass is_break) (sym head) none;
        ended = inl (omega (arith, ap length lines), refl);
      }
  | inr cut ↦
      let lines = cut-lines text cut in
      let head : nth (line_texts text) 0 ≡ cut.line = ap (λ ls. nth ls 0) lines in
      let some = some-lines cut.rest in
      let next : start_at at (ends_at at text) 1 last ≡ at + byte_len cut.line + byte_len cut.one = ap (λ es. start_at at es 1 last) (cut-ends at text cut) in
      record {
        before = [];
        behind = cut.one ++ cut.rest;
        parts = cut.parts ∙ ap (λ l. l ++ (cut.one ++ cut.rest)) (sym head);
        starts = omega arith;
        whole = refl;
        plain = subst (NonePass is_break) (sym head) cut.plain;
        ended = inr (record {
          more = omega (arith, ap length lines, some);
          one = cut.one;
          rest = cut.rest;
          splits = refl;
          is = cut.is;
          next = omega (arith, next, ap byte_len head);
        });
      }
]

-- a CR ends two joined texts if it ends the second, unless that is empty
pub ends-joined_cr : (s : List ℕ) (c : ℕ) (cs : List ℕ) → ends_with_cr (s ++ c ∷ cs) ≡ ends_with_cr (c ∷ cs)
ends-joined_cr [] c cs = refl
ends-joined_cr (d ∷ []) c cs = refl
ends-joined_cr (d ∷ e ∷ s) c cs = ends-joined_cr (e ∷ s) c cs

no-crlf : (b : Bool) → (b && false) ≡ false
no-crlf true = refl
no-crlf false = refl

-- no CR LF is split after a break
break-whole : (line one rest : List ℕ) → IsBreak is_break one rest → NoCrLfBetween (line ++ one) rest
break-whole line [] rest is = absurd is
break-whole line (c ∷ []) [] is = no-crlf (ends_with_cr (line ++ c ∷ []))
break-whole line (c ∷ []) (d ∷ ds) is = ap (λ b. b && (d == 10)) (ends-joined_cr line c []) ∙ grind (arith, nat_tests, is)
break-whole line (c ∷ d ∷ []) rest is =
    ap (λ b. b && starts_with_lf rest) (ends-joined_cr line c (d ∷ []) ∙ ap (λ n. n == 13) is.1)
break-whole line (c ∷ d ∷ e ∷ es) rest is = absurd is

-- nor further on, if none is split in the rest
whole-behind : (line one rest before after : List ℕ) → IsBreak is_break one rest → rest ≡ before ++ after → NoCrLfBetween before after → NoCrLfBetween ((line ++ one) ++ before) after
whole-behind line one rest [] after is parts whole =
    ap (λ t. cuts_cr_lf t after) (append-nil (line ++ one)) ∙ subst (NoCrLfBetween (line ++ one)) parts (break-whole line one rest is)
whole-behind line one rest (c ∷ cs) after is parts whole = ap (λ b. b && starts_with_lf after) (ends-joined_cr (line ++ one) c cs) ∙ whole

lies-later : (at last : ℕ) (text : List ℕ) (k : ℕ) → (cut : IsCutOff text) → Lies (at + byte_len cut.line + byte_len cut.one) last cut.rest k → Lies at last text (suc k)
lies-later at last text k cut later =
    let front = cut.line ++ cut.one in
    let at' = at + byte_len cut.line + byte_len cut.one in
    let lines = cut-lines text cut in
    let own : nth (line_texts text) (suc k) ≡ nth (line_texts cut.rest) k = ap (λ ls. nth ls (suc k)) lines in
    let shift : (j : ℕ) → start_at at (ends_at at text) (suc j) last ≡ start_at at' (ends_at at' cut.rest) j last =
    λ j. ap (λ es. start_at at es (suc j) last) (cut-ends at text cut) ∙ start-later at at' (ends_at at' cut.rest) j last in
    let bytes : byte_len (front ++ later.before) ≡ byte_len cut.line + byte_len cut.one + byte_len later.before =
    omega (arith, byte_len-append front later.before, byte_len-append cut.line cut.one) in
    let start = shift k in
    let starts = later.starts in
    record {
      before = front ++ later.before;
      behind = later.behind;
      parts =
          cut.parts ∙ sym (append_assoc cut.line cut.one cut.rest) ∙ ap (λ t. front ++ t) later.parts
          ∙ sym (append_assoc front later.before (nth (line_texts cut.rest) k ++ later.behind))
          ∙ ap (λ l. (front ++ later.before) ++ (l ++ later.behind)) (sym own);
      starts = omega (arith, start, starts, bytes);
      whole =
          ap (λ l. cuts_cr_lf (front ++ later.before) (l ++ later.behind)) own
          ∙ whole-behind cut.line cut.one cut.rest later.before (nth (line_texts cut.rest) k ++ later.behind) cut.is later.parts later.whole;
      plain = subst (NonePass is_break) (sym own) later.plain;
      ended = elim later.ended [
        | inl is_last ↦ let count = is_last.0 in inl (omega (arith, ap length lines, count), is_last.1)
        | inr broken ↦
            let next = broken.next in
            let next' = shift (suc k) in
            let more = broken.more in
            inr (record {
              more = omega (arith, ap length lines, more);
              one = broken.one;
              rest = broken.rest;
              splits = broken.splits;
              is = broken.is;
              next = omega (arith, next', next, bytes, ap byte_len own);
            })
      ];
    }

lies : (k at last : ℕ) (text : List ℕ) → k < length (line_texts text) → Lies at last text k
lies zero at last text inside = lies-first at last text
lies (suc k) at last text inside = elim (first_line text) [
  | inl none ↦ absurd (omega (arith, inside, ap length (line-last text none)))
  | inr cut ↦ lies-later at last text k cut (lies k (at + byte_len cut.line + byte_len cut.one) last cut.rest (omega (arith, inside, ap length (cut-lines text cut))))
]

pub start-is : (ends : List ℕ) (k last : ℕ) → end_place ends k last ≡ start_at 0 ends k last
start-is ends zero last = refl
start-is ends (suc k) last = refl

-- each line is between the breaks
pub lines-in-place : (text : List ℕ) (line : ℕ) → line < line_count text → LiesInPlace text line
lines-in-place text line inside =
    let last = length (bytes_of text) in
    let counted = lines-counted text in
    let h = lies line 0 last text (omega (arith, inside, counted)) in
    let own = nth (line_texts text) line in
    let started = h.starts in
    let starts : line_start text line ≡ byte_len h.before = omega (arith, started, start-is (ends_at 0 text) line last) in
    let ends : text_end text line ≡ byte_len (h.before ++ own) = omega (arith, starts, byte_len-append h.before own) in
    let width : text_end text line - line_start text line ≡ byte_len own = omega arith in
    let bytes : bytes_of text ≡ bytes_of h.before ++ (bytes_of own ++ bytes_of h.behind) =
    ap bytes_of h.parts ∙ encodes-append h.before (own ++ h.behind) ∙ ap (λ bs. bytes_of h.before ++ bs) (encodes-append own h.behind) in
    let left : drop (line_start text line) (bytes_of text) ≡ bytes_of own ++ bytes_of h.behind =
    ap (λ n. drop n (bytes_of text)) starts ∙ ap (drop (byte_len h.before)) bytes ∙ drop-append_seam (bytes_of h.before) (bytes_of own ++ bytes_of h.behind) in
    record {
      before = h.before;
      behind = h.behind;
      parts = h.parts;
      starts = starts;
      whole = h.whole;
      plain = h.plain;
      ends = ends;
      bytes = ap (λ n. take n (drop (line_start text line) (bytes_of text))) width ∙ ap (take (byte_len own)) left ∙ take-append_seam (bytes_of own) (bytes_of h.behind);
      ended = elim h.ended [
        | inl is_last ↦
            let none = is_last.1 in
            let count = is_last.0 in
            let all : text ≡ h.before ++ own = h.parts ∙ ap (λ t. h.before ++ (own ++ t)) none ∙ ap (λ t. h.before ++ t) (append-nil own) in
            inl (record { last = omega (arith, count, counted); nothing = none; ends = ends ∙ sym (ap byte_len all) })
        | inr broken ↦
            let more = broken.more in
            let next = broken.next in
            inr (record {
              more = omega (arith, more, counted);
              one = broken.one;
              rest = broken.rest;
              splits = broken.splits;
              is = broken.is;
              next =
                  let same : line + 1 ≡ suc line = omega arith in
                  let place : line_start text (suc line) ≡ start_at 0 (ends_at 0 text) (suc line) last = start-is (ends_at 0 text) (suc line) last in
                  ap (line_start text) same ∙ omega (arith, place, next, starts);
            })
      ];
    }
