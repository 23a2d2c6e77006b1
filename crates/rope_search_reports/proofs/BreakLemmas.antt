-- A line without its break, from its last characters.
use Rattle.std.proofs.Common.{◌≡◌, ℕ, zero, suc, ◌-◌, ◌<◌, true, false, ◌⊎◌, inl, inr, List, [], ◌∷◌, ◌++◌, length, take, get_or, sym, ap, ◌∙◌, append-nil, append_assoc, arith, length-append}
use Rattle.std.specs.Str.{NonePass}
use Rattle.std.proofs.Math.Seq.{take-append_seam, get_or-append_seam}
use Rattle.std.proofs.lemmas.List.{get_or_append_left}
use Rattle.str_indices.specs.FirstBreak.{IsBreak}
use Rattle.ropey.specs.Chunks.{is_break}
use Rattle.rope_search_reports.specs.Drafts.{HasOwnText}

plain_at : (own : List ℕ) (i : ℕ) → NonePass is_break own → i < length own → is_break (get_or own i 0) ≡ false
plain_at [] i none inside = absurd (omega (arith, inside))
plain_at (x ∷ xs) zero none inside = none.0
plain_at (x ∷ xs) (suc i) none inside = plain_at xs i none.1 (omega (arith, inside))

-- no character of the line's text is in the break set
not_in_text : (line own one : List ℕ) (i : ℕ) → line ≡ own ++ one → NonePass is_break own → i < length own → is_break (get_or line i 0) ≡ true → ⊥
not_in_text line own one i parts plain inside is_so =
    let here : get_or line i 0 ≡ get_or own i 0 = ap (λ t. get_or t i 0) parts ∙ get_or_append_left own one 0 i inside in
    let no : true ≡ false = sym is_so ∙ ap is_break here ∙ plain_at own i plain inside in
    cc no

is_break-of : (c : ℕ) → (c ≡ 10) ⊎ (c ≡ 13) → is_break c ≡ true
is_break-of c (inl lf) = ap is_break lf
is_break-of c (inr cr) = ap is_break cr

-- CR LF at the end is the break
crlf-by : (line own one : List ℕ) → line ≡ own ++ one → NonePass is_break own → (one ≡ []) ⊎ IsBreak is_break one [] → 1 < length line
    → get_or line (length line - 1) 0 ≡ 10 → get_or line (length line - 2) 0 ≡ 13 → take (length line - 2) line ≡ own
crlf-by line own one parts plain (inl none) some lf cr =
    let sizes = ap length (parts ∙ ap (λ t. own ++ t) none ∙ append-nil own) in
    absurd (not_in_text line own one (length line - 1) parts plain (omega (arith, sizes, some)) (is_break-of _ (inl lf)))
crlf-by line own [] parts plain (inr is) some lf cr = absurd is
crlf-by line own (c ∷ []) parts plain (inr is) some lf cr =
    let sizes = ap length parts ∙ length-append own (c ∷ []) in
    absurd (not_in_text line own (c ∷ []) (length line - 2) parts plain (omega (arith, sizes, some)) (is_break-of _ (inr cr)))
crlf-by line own (c ∷ d ∷ []) parts plain (inr is) some lf cr =
    let sizes = ap length parts ∙ length-append own (c ∷ d ∷ []) in
    let cut : length line - 2 ≡ length own = omega (arith, sizes) in
    ap (λ n. take n line) cut ∙ ap (take (length own)) parts ∙ take-append_seam own (c ∷ d ∷ [])
crlf-by line own (c ∷ d ∷ e ∷ es) parts plain (inr is) some lf cr = absurd is

pub without-crlf : (line own : List ℕ) → HasOwnText line own → 1 < length line → get_or line (length line - 1) 0 ≡ 10 → get_or line (length line - 2) 0 ≡ 13
    → take (length line - 2) line ≡ own
without-crlf line own is some lf cr = crlf-by line own is.one is.parts is.plain is.ended some lf cr

-- LF or CR at the end, and not both, is the break
one-by : (line own one : List ℕ) → line ≡ own ++ one → NonePass is_break own → (one ≡ []) ⊎ IsBreak is_break one [] → 0 < length line
    → is_break (get_or line (length line - 1) 0) ≡ true
    → (get_or line (length line - 1) 0 ≡ 10 → 1 < length line → get_or line (length line - 2) 0 ≡ 13 → ⊥) → take (length line - 1) line ≡ own
one-by line own one parts plain (inl none) some last not_both =
    let sizes = ap length (parts ∙ ap (λ t. own ++ t) none ∙ append-nil own) in
    absurd (not_in_text line own one (length line - 1) parts plain (omega (arith, sizes, some)) last)
one-by line own [] parts plain (inr is) some last not_both = absurd is
one-by line own (c ∷ []) parts plain (inr is) some last not_both =
    let sizes = ap length parts ∙ length-append own (c ∷ []) in
    let cut : length line - 1 ≡ length own = omega (arith, sizes) in
    ap (λ n. take n line) cut ∙ ap (take (length own)) parts ∙ take-append_seam own (c ∷ [])
one-by line own (c ∷ d ∷ []) parts plain (inr is) some last not_both =
    let sizes = ap length parts ∙ length-append own (c ∷ d ∷ []) in
    let before : length line - 2 ≡ length own = omega (arith, sizes) in
    let at : length line - 1 ≡ length (own ++ c ∷ []) = omega (arith, sizes, length-append own (c ∷ [])) in
    let cr : get_or line (length line - 2) 0 ≡ 13 =
    ap (λ n. get_or line n 0) before ∙ ap (λ t. get_or t (length own) 0) parts ∙ get_or-append_seam own c (d ∷ []) 0 ∙ is.0 in
    let lf : get_or line (length line - 1) 0 ≡ 10 =
    ap (λ n. get_or line n 0) at ∙ ap (λ t. get_or t (length (own ++ c ∷ [])) 0) (parts ∙ sym (append_assoc own (c ∷ []) (d ∷ [])))
    ∙ get_or-append_seam (own ++ c ∷ []) d [] 0 ∙ is.1 in
    absurd (not_both lf (omega (arith, sizes)) cr)
one-by line own (c ∷ d ∷ e ∷ es) parts plain (inr is) some last not_both = absurd is

pub without-one : (line own : List ℕ) → HasOwnText line own → 0 < length line → (get_or line (length line - 1) 0 ≡ 10) ⊎ (get_or line (length line - 1) 0 ≡ 13)
    → (get_or line (length line - 1) 0 ≡ 10 → 1 < length line → get_or line (length line - 2) 0 ≡ 13 → ⊥) → take (length line - 1) line ≡ own
without-one line own is some last not_both = one-by line own is.one is.parts is.plain is.ended some (is_break-of _ last) not_both
