-- The effect of an edit on the lines of a text.
use Rattle.std.proofs.Common.{◌≡◌, ℕ, zero, suc, ◌+◌, ◌-◌, ◌<◌, ◌≤◌, Bool, true, false, cond, List, [], ◌∷◌, ◌++◌, length, replicate, take, drop, refl, sym, ap, subst, ◌∙◌, arith, append_assoc, length-append}
use Rattle.std.specs.Prelude.{◌&&◌, not, ◌==◌, nat_le, encode_utf8_all}
use Rattle.std.specs.Char.{len_utf8, encode_utf8}
use Rattle.std.proofs.lemmas.Bool.{false≢true, lt-leb, le-leb}
use Rattle.std.proofs.lemmas.Bool.Decides.{nat_tests}
use Rattle.std.proofs.lemmas.List.{take_all, drop_all, take-append-drop, drop-drop}
use Rattle.std.proofs.lemmas.List.Sums.{sum_by-cons, sum_by-append}
use Rattle.std.proofs.lemmas.Str.{length-encode, len_utf8_bounds}
use Rattle.str_indices.specs.Text.{byte_len, ends_break, starts_with_lf, ends_from, ends_up_to, breaks}
use Rattle.ropey.specs.Chunks.{is_break}
use Rattle.rope_search_reports.specs.Report.{with_first, line_texts, AreRows}
use Rattle.rope_search_reports.specs.Position.{line_at}
use Rattle.rope_search_reports.specs.Splice.{EditsSpliceLines, KeepsRows}
use Rattle.rope_search_reports.proofs.LineLemmas.{line_texts-break, byte_len-append}
use Rattle.rope_search_reports.proofs.ReportLaws.{AreRows-join}

-- ---- ends up to an offset

-- none is up to an offset before them, and all are up to one after them
none_up_to : (n e b : ℕ) → b < e → ends_up_to b (replicate n e) ≡ 0
none_up_to zero e b h = refl
none_up_to (suc n) e b h = sum_by-cons (λ e. cond (nat_le e b) 1 0) e (replicate n e) ∙ rw (lt-leb e b h) (omega (arith, none_up_to n e b h))

all_up_to : (n e b : ℕ) → e ≤ b → ends_up_to b (replicate n e) ≡ n
all_up_to zero e b h = refl
all_up_to (suc n) e b h = sum_by-cons (λ e. cond (nat_le e b) 1 0) e (replicate n e) ∙ rw (le-leb e b h) (omega (arith, all_up_to n e b h))

up_to-append : (b : ℕ) (xs ys : List ℕ) → ends_up_to b (xs ++ ys) ≡ ends_up_to b xs + ends_up_to b ys
up_to-append b xs ys = sum_by-append (λ e. cond (nat_le e b) 1 0) xs ys

up_to-cons : (n e b : ℕ) (rest : List ℕ) → e ≤ b → ends_up_to b (replicate n e ++ rest) ≡ n + ends_up_to b rest
up_to-cons n e b rest h = omega (arith, up_to-append b (replicate n e) rest, all_up_to n e b h)

-- no character ends where the text starts, or before
up_to-start : (count : ℕ → List ℕ → ℕ) (at b : ℕ) (text : List ℕ) → b ≤ at → ends_up_to b (ends_from count at text) ≡ 0
up_to-start count at b [] h = refl
up_to-start count at b (c ∷ cs) h =
    up_to-append b (replicate (count c cs) (at + len_utf8 c)) (ends_from count (at + len_utf8 c) cs)
    ∙ omega (arith, none_up_to (count c cs) (at + len_utf8 c) b (omega (arith, h, (len_utf8_bounds c).0)), up_to-start count (at + len_utf8 c) b cs (omega (arith, h)))

bytes-cons : (c : ℕ) (cs : List ℕ) → byte_len (c ∷ cs) ≡ len_utf8 c + byte_len cs
bytes-cons c cs = omega (arith, length-append (encode_utf8 c) (encode_utf8_all cs), length-encode c)

-- ---- a character before the first line

-- whether it ends a break, whether it is in the break set, and the lines after it
abbrev pub put : Bool → Bool → ℕ → List (List ℕ) → List (List ℕ)
put ends in_set c lines = cond ends ([] ∷ lines) (cond in_set lines (with_first c lines))

pub line_texts-put : (c : ℕ) (rest : List ℕ) → line_texts (c ∷ rest) ≡ put (ends_break is_break c rest) (is_break c) c (line_texts rest)
unfolding line_texts
line_texts-put c rest = refl

-- the number of breaks that end in the first of two texts
abbrev pub ended : List ℕ → List ℕ → ℕ
ended [] rest = 0
ended (c ∷ cs) rest = cond (ends_break is_break c (cs ++ rest)) (suc (ended cs rest)) (ended cs rest)

-- ---- the lines before the line of an offset do not depend on the text after the offset

take-with_first : (c k : ℕ) (lines : List (List ℕ)) → take (suc k) (with_first c lines) ≡ with_first c (take (suc k) lines)
take-with_first c k [] = ap (λ ls. (c ∷ []) ∷ ls) (take_all k [] (omega arith))
take-with_first c k (line ∷ lines) = refl

front-put : (ends in_set : Bool) (c k : ℕ) (lines others : List (List ℕ)) → take k lines ≡ take k others
    → take (cond ends (suc k) k) (put ends in_set c lines) ≡ take (cond ends (suc k) k) (put ends in_set c others)
front-put true in_set c k lines others same = ap (λ ls. [] ∷ ls) same
front-put false true c k lines others same = same
front-put false false c zero lines others same = refl
front-put false false c (suc k) lines others same = take-with_first c k lines ∙ ap (with_first c) same ∙ sym (take-with_first c k others)

-- the last character of the first text: a CR ends its line if an LF follows it and if none does
front-last : (in_set cr lf lf' : Bool) (c : ℕ) (lines others : List (List ℕ)) → (lf' ≡ true → take 1 others ≡ [] ∷ [])
    → take (cond (in_set && not (cr && lf)) 1 0) (put (in_set && not (cr && lf)) in_set c lines)
    ≡ take (cond (in_set && not (cr && lf)) 1 0) (put (in_set && not (cr && lf')) in_set c others)
front-last false cr lf lf' c lines others ends = refl
front-last true false lf lf' c lines others ends = refl
front-last true true true lf' c lines others ends = refl
front-last true true false false c lines others ends = refl
front-last true true false true c lines others ends = sym (ends refl)

first-lf : (text : List ℕ) → starts_with_lf text ≡ true → take 1 (line_texts text) ≡ [] ∷ []
first-lf [] is_so = absurd (false≢true is_so)
first-lf (d ∷ ds) is_so =
    let same : d ≡ 10 = grind (arith, nat_tests, is_so) in
    ap (λ n. take 1 (line_texts (n ∷ ds))) same ∙ ap (take 1) (line_texts-break 10 ds refl)

pub front : (before after after' : List ℕ) → take (ended before after) (line_texts (before ++ after)) ≡ take (ended before after) (line_texts (before ++ after'))
front [] after after' = refl
front (c ∷ []) after after' =
    ap (take (ended (c ∷ []) after)) (line_texts-put c after)
    ∙ front-last (is_break c) (c == 13) (starts_with_lf after) (starts_with_lf after') c (line_texts after) (line_texts after') (first-lf after')
    ∙ ap (take (ended (c ∷ []) after)) (sym (line_texts-put c after'))
front (c ∷ d ∷ ds) after after' =
    ap (take (ended (c ∷ d ∷ ds) after)) (line_texts-put c (d ∷ ds ++ after))
    ∙ front-put (ends_break is_break c (d ∷ ds)) (is_break c) c (ended (d ∷ ds) after) (line_texts (d ∷ ds ++ after)) (line_texts (d ∷ ds ++ after')) (front (d ∷ ds) after after')
    ∙ ap (take (ended (c ∷ d ∷ ds) after)) (sym (line_texts-put c (d ∷ ds ++ after')))

-- ---- the lines after the line of an offset do not depend on the text before the offset

rear-put : (ends in_set : Bool) (c k : ℕ) (lines : List (List ℕ)) → drop (suc (cond ends (suc k) k)) (put ends in_set c lines) ≡ drop (suc k) lines
rear-put true in_set c k lines = refl
rear-put false true c k lines = refl
rear-put false false c k [] = drop_all k [] (omega arith)
rear-put false false c k (line ∷ lines) = refl

pub rear : (before after : List ℕ) → drop (suc (ended before after)) (line_texts (before ++ after)) ≡ drop 1 (line_texts after)
rear [] after = refl
rear (c ∷ cs) after =
    ap (drop (suc (ended (c ∷ cs) after))) (line_texts-put c (cs ++ after))
    ∙ rear-put (ends_break is_break c (cs ++ after)) (is_break c) c (ended cs after) (line_texts (cs ++ after))
    ∙ rear cs after

-- ---- counts of breaks

one-more : (ends : Bool) (p q r : ℕ) → p ≡ q + r → cond ends (suc p) p ≡ cond ends (suc q) q + r
one-more true p q r e = omega (arith, e)
one-more false p q r e = e

-- the breaks that end in two joined texts
pub ended-append : (before part after : List ℕ) → ended (before ++ part) after ≡ ended before (part ++ after) + ended part after
ended-append [] part after = omega arith
ended-append (c ∷ cs) part after =
    ap (λ t. cond (ends_break is_break c t) (suc (ended (cs ++ part) after)) (ended (cs ++ part) after)) (append_assoc cs part after)
    ∙ one-more (ends_break is_break c (cs ++ (part ++ after))) (ended (cs ++ part) after) (ended cs (part ++ after)) (ended part after) (ended-append cs part after)

abbrev count : ℕ → List ℕ → ℕ
count c rest = cond (ends_break is_break c rest) 1 0

few-put : (ends : Bool) (at k : ℕ) (rest : List ℕ) → k ≤ length rest → cond ends (suc k) k ≤ length (replicate (cond ends 1 0) at ++ rest)
few-put true at k rest few = omega (arith, few)
few-put false at k rest few = few

few-last : (in_set cr lf : Bool) (at : ℕ) → cond (in_set && not (cr && lf)) 1 0 ≤ length (replicate (cond (in_set && not (cr && false)) 1 0) at ++ [])
few-last false cr lf at = omega arith
few-last true false lf at = omega arith
few-last true true true at = omega arith
few-last true true false at = omega arith

-- the text after another one ends no further break in it
pub few : (at : ℕ) (text after : List ℕ) → ended text after ≤ length (ends_from count at text)
few at [] after = omega arith
few at (c ∷ []) after = few-last (is_break c) (c == 13) (starts_with_lf after) (at + len_utf8 c)
few at (c ∷ d ∷ ds) after =
    let next = at + len_utf8 c in
    few-put (ends_break is_break c (d ∷ ds)) next (ended (d ∷ ds) after) (ends_from count next (d ∷ ds)) (few next (d ∷ ds) after)

-- the break ends up to an offset
up_to-ended : (at place : ℕ) (before after : List ℕ) → place ≡ at + byte_len before → ends_up_to place (ends_from count at (before ++ after)) ≡ ended before after
up_to-ended at place [] after e = up_to-start count at place after (omega (arith, e))
up_to-ended at place (c ∷ cs) after e =
    let next = at + len_utf8 c in
    let ends = ends_break is_break c (cs ++ after) in
    let sum = bytes-cons c cs in
    let later = up_to-ended next place cs after (omega (arith, e, sum)) in
    up_to-cons (cond ends 1 0) next place (ends_from count next (cs ++ after)) (omega (arith, e, sum))
    ∙ ap (λ n. cond ends 1 0 + n) later
    ∙ sym (one-more ends (ended cs after) 0 (ended cs after) (omega arith))

near-last : (ends ends' : Bool) → cond ends 1 0 ≤ cond ends' 1 0 + 1
near-last false ends' = omega arith
near-last true false = omega arith
near-last true true = omega arith

near-put : (ends : Bool) (p q : ℕ) → p ≤ q + 1 → cond ends (suc p) p ≤ cond ends (suc q) q + 1
near-put true p q h = omega (arith, h)
near-put false p q h = h

-- the text after another one decides on at most one break in it
pub near : (before after after' : List ℕ) → ended before after ≤ ended before after' + 1
near [] after after' = omega arith
near (c ∷ []) after after' = near-last (ends_break is_break c after) (ends_break is_break c after')
near (c ∷ d ∷ ds) after after' = near-put (ends_break is_break c (d ∷ ds)) (ended (d ∷ ds) after) (ended (d ∷ ds) after') (near (d ∷ ds) after after')

-- ---- the edit

-- a list that begins as another does and ends as it does
spliced : {A : Type 0} (xs ys : List A) (i j k : ℕ) → i ≤ j → take i xs ≡ take i ys → drop j xs ≡ drop k ys → xs ≡ take i ys ++ take (j - i) (drop i xs) ++ drop k ys
spliced xs ys i j k low begins ends =
    let rest : drop (j - i) (drop i xs) ≡ drop k ys = drop-drop (j - i) i xs ∙ ap (λ n. drop n xs) (omega (arith, low)) ∙ ends in
    sym (take-append-drop i xs)
    ∙ ap (λ zs. zs ++ drop i xs) begins
    ∙ ap (λ zs. take i ys ++ zs) (sym (take-append-drop (j - i) (drop i xs)) ∙ ap (λ zs. take (j - i) (drop i xs) ++ zs) rest)
    ∙ sym (append_assoc (take i ys) (take (j - i) (drop i xs)) (drop k ys))

-- the line of the offset between two texts
pub line_at-is : (place : ℕ) (before after : List ℕ) → place ≡ byte_len before → line_at (before ++ after) place ≡ ended before after
line_at-is place before after e = up_to-ended 0 place before after (omega (arith, e))

pub splices : EditsSpliceLines
splices before removed inserted after =
    let old = before ++ removed ++ after in
    let new = before ++ inserted ++ after in
    let regroup : new ≡ before ++ (inserted ++ after) = append_assoc before inserted after in
    let f = ended before (inserted ++ after) in
    let g = ended (before ++ inserted) after in
    let e = ended (before ++ removed) after in
    let first = line_at new (byte_len before) in
    let last = line_at new (byte_len before + byte_len inserted) in
    let gone = line_at old (byte_len before + byte_len removed) in
    let first-is : first ≡ f = ap (λ t. line_at t (byte_len before)) regroup ∙ line_at-is (byte_len before) before (inserted ++ after) refl in
    let last-is : last ≡ g = line_at-is (byte_len before + byte_len inserted) (before ++ inserted) after (sym (byte_len-append before inserted)) in
    let gone-is : gone ≡ e = line_at-is (byte_len before + byte_len removed) (before ++ removed) after (sym (byte_len-append before removed)) in
    let g-is : g ≡ f + ended inserted after = ended-append before inserted after in
    let e-is : e ≡ ended before (removed ++ after) + ended removed after = ended-append before removed after in
    let some : ended inserted after ≤ breaks is_break inserted = few 0 inserted after in
    let begins : take first (line_texts new) ≡ take first (line_texts old) =
    ap (λ n. take n (line_texts new)) first-is ∙ ap (λ t. take f (line_texts t)) regroup ∙ front before (inserted ++ after) (removed ++ after)
    ∙ ap (λ t. take f (line_texts t)) (sym (append_assoc before removed after)) ∙ ap (λ n. take n (line_texts old)) (sym first-is) in
    let behind : last + 1 ≡ suc g = omega (arith, last-is) in
    let behind' : gone + 1 ≡ suc e = omega (arith, gone-is) in
    let ends : drop (last + 1) (line_texts new) ≡ drop (gone + 1) (line_texts old) =
    ap (λ n. drop n (line_texts new)) behind ∙ rear (before ++ inserted) after ∙ sym (rear (before ++ removed) after)
    ∙ ap (λ n. drop n (line_texts old)) (sym behind') in
    let ordered : first ≤ last = omega (arith, first-is, last-is, g-is) in (
      record {
        lines = spliced (line_texts new) (line_texts old) first (last + 1) (gone + 1) (omega (arith, ordered)) begins ends;
        ordered = ordered;
        within = omega (arith, first-is, gone-is, e-is, near before (inserted ++ after) (removed ++ after));
      },
      omega (arith, first-is, last-is, g-is, some),
    )

-- ---- rows of lines
pub AreRows-take : (pattern : List ℕ) (n : ℕ) (lines : List (List ℕ)) (rows : List (List (ℕ × ℕ))) → AreRows pattern lines rows → AreRows pattern (take n lines) (take n rows)
AreRows-take pattern zero lines rows h = tt
AreRows-take pattern (suc n) [] [] h = tt
AreRows-take pattern (suc n) [] (row ∷ rows) h = absurd h
AreRows-take pattern (suc n) (line ∷ lines) [] h = absurd h
AreRows-take pattern (suc n) (line ∷ lines) (row ∷ rows) h = (h.0, AreRows-take pattern n lines rows h.1)

pub AreRows-drop : (pattern : List ℕ) (n : ℕ) (lines : List (List ℕ)) (rows : List (List (ℕ × ℕ))) → AreRows pattern lines rows → AreRows pattern (drop n lines) (drop n rows)
AreRows-drop pattern zero lines rows h = h
AreRows-drop pattern (suc n) [] [] h = tt
AreRows-drop pattern (suc n) [] (row ∷ rows) h = absurd h
AreRows-drop pattern (suc n) (line ∷ lines) [] h = absurd h
AreRows-drop pattern (suc n) (line ∷ lines) (row ∷ rows) h = AreRows-drop pattern n lines rows h.1

pub keeps_rows : KeepsRows
keeps_rows pattern old new first last gone rows made splice are anew =
    let anew_lines = take (last + 1 - first) (drop first (line_texts new)) in
    let front = AreRows-join pattern (take first (line_texts old)) anew_lines (take first rows) made (AreRows-take pattern first (line_texts old) rows are) anew in
    let all = AreRows-join pattern (take first (line_texts old) ++ anew_lines) (drop (gone + 1) (line_texts old)) (take first rows ++ made) (drop (gone + 1) rows) front (AreRows-drop pattern (gone + 1) (line_texts old) rows are) in
    subst (λ lines. AreRows pattern lines (take first rows ++ made ++ drop (gone + 1) rows)) (sym splice.lines) all
