-- Texts joined across a seam.
use Rattle.std.proofs.Common.{◌≡◌, ℕ, ◌+◌, ◌-◌, ◌<◌, ◌≤◌, ◌==◌, Bool, true, false, ◌&&◌, inl, inr, List, [], ◌∷◌, ◌++◌, length, get_or, refl, ap, arith, sym, ◌∙◌, length-append}
use Rattle.std.specs.Prelude.{encode_utf8_all, ◌^◌}
use Rattle.std.specs.List.{concat}
use Rattle.std.specs.Char.{encode_utf8}
use Rattle.std.specs.Str.{chars}
use Rattle.std.proofs.lemmas.List.{append-nil, get_or-append_right}
use Rattle.std.proofs.lemmas.List.Folds.{concat-append}
use Rattle.std.proofs.lemmas.Str.{length-le-encodes, length-encode, len_utf8_bounds, len_utf8_ascii, inside_one}
use Rattle.str_indices.specs.Text.{starts_with_lf, byte_len, ends_with_cr}
use Rattle.ropey_tree.specs.declared.counts.Counts.{Counts}
use Rattle.ropey_tree.specs.declared.counts.By.TheVariants.{Bytes}
use Rattle.ropey_tree.specs.Counts.{total}
use Rattle.ropey_tree.specs.Cutting.{IsCutting, IsRopeText, cuts_cr_lf}
use Rattle.ropey_tree.specs.Nodes.{LiesIn}
use Rattle.ropey_tree.proofs.Texts.{byte_len-append}
use Rattle.ropey_tree.proofs.Pieces.{first_piece, bytes-append}
use Rattle.ropey_tree.proofs.Splitting.{between, bytes-concat, starts-append, ends-append}
use Rattle.ropey_tree.proofs.Ends.{is_code, first_byte, last_byte}

-- ---- rows of leaf texts next to each other
pub some_text : (p : List ℕ) (ps : List (List ℕ)) → IsCutting (p ∷ ps) → 1 ≤ byte_len (concat (p ∷ ps))
some_text p ps h = omega (arith, (first_piece p ps h).not_empty, byte_len-append p (concat ps))

pub cutting-append : (ps qs : List (List ℕ)) → IsCutting ps → IsCutting qs → cuts_cr_lf (concat ps) (concat qs) ≡ false → IsCutting (ps ++ qs)
cutting-append [] qs h g whole = g
cutting-append (p ∷ []) [] h g whole = h
cutting-append (p ∷ []) (q ∷ qs) h g whole =
    let front : ends_with_cr p && starts_with_lf q ≡ ends_with_cr (p ++ []) && starts_with_lf q = ap (λ t. ends_with_cr t && starts_with_lf q) (sym (append-nil p)) in
    let back = ap (λ b. ends_with_cr (p ++ []) && b) (sym (starts-append q (concat qs) (first_piece q qs g).not_empty)) in
    (h, front ∙ back ∙ whole, g)
cutting-append (p ∷ r ∷ ps) qs h g whole =
    let same : ends_with_cr (concat (r ∷ ps)) && starts_with_lf (concat qs) ≡ ends_with_cr (p ++ concat (r ∷ ps)) && starts_with_lf (concat qs) =
    ap (λ b. b && starts_with_lf (concat qs)) (sym (ends-append p (concat (r ∷ ps)) (some_text r ps h.2))) in
    (h.0, h.1, cutting-append (r ∷ ps) qs h.2 g (same ∙ whole))

pub text-append : (ps qs : List (List ℕ)) → IsRopeText ps → IsRopeText qs → cuts_cr_lf (concat ps) (concat qs) ≡ false → (total ps).bytes + (total qs).bytes < 2 ^ 63 → IsRopeText (ps ++ qs)
text-append ps qs h g whole fits = record { cut = cutting-append ps qs h.cut g.cut whole; fits = omega (arith, bytes-append ps qs, fits) }

-- ---- the bytes at the ends of a text
cr_from_byte : (t : List ℕ) (n : ℕ) → length (encode_utf8_all t) ≡ n + 1 → get_or (encode_utf8_all t) n 0 ≡ 13 → ends_with_cr t ≡ true
cr_from_byte [] n len e = absurd (omega (arith, len))
cr_from_byte (c ∷ []) n len e =
    let within : n < length (encode_utf8 c) = omega (arith, len, length-append (encode_utf8 c) []) in
    let is : c ≡ 13 = inside_one c [] (encode_utf8_all (c ∷ [])) n refl within (omega (arith, e)) ∙ e in
    ap (λ d. d == 13) is
cr_from_byte (c ∷ d ∷ cs) n len e =
    let sums = length-append (encode_utf8 c) (encode_utf8_all (d ∷ cs)) in
    let some = length-le-encodes (d ∷ cs) in
    let past : length (encode_utf8 c) ≤ n = omega (arith, len, sums, some) in
    cr_from_byte (d ∷ cs) (n - length (encode_utf8 c)) (omega (arith, len, sums, past)) (sym (get_or-append_right (encode_utf8 c) (encode_utf8_all (d ∷ cs)) (length (encode_utf8 c)) n 0 refl past) ∙ e)

lf_from_byte : (t : List ℕ) → 1 ≤ length (encode_utf8_all t) → get_or (encode_utf8_all t) 0 0 ≡ 10 → starts_with_lf t ≡ true
lf_from_byte [] some e = absurd (omega (arith, some))
lf_from_byte (c ∷ cs) some e =
    let within : 0 < length (encode_utf8 c) = omega (arith, length-encode c, (len_utf8_bounds c).0) in
    let is : c ≡ 10 = inside_one c (encode_utf8_all cs) (encode_utf8_all (c ∷ cs)) 0 refl within (omega (arith, e)) ∙ e in
    ap (λ d. d == 10) is

same_test : (a b : Bool) → (a ≡ true → b ≡ true) → (b ≡ true → a ≡ true) → a ≡ b
same_test true b f g = sym (f refl)
same_test false true f g = g refl
same_test false false f g = refl

pub last_is_cr : (t : List ℕ) (n : ℕ) → length (encode_utf8_all t) ≡ n + 1 → (get_or (encode_utf8_all t) n 0 == 13) ≡ ends_with_cr t
last_is_cr t n len =
    same_test (get_or (encode_utf8_all t) n 0 == 13) (ends_with_cr t)
    (λ h. cr_from_byte t n len (is_code (get_or (encode_utf8_all t) n 0) 13 h))
    (λ h. ap (λ b. b == 13) (last_byte t n len h))

pub first_is_lf : (t : List ℕ) → 1 ≤ length (encode_utf8_all t) → (get_or (encode_utf8_all t) 0 0 == 10) ≡ starts_with_lf t
first_is_lf t some =
    same_test (get_or (encode_utf8_all t) 0 0 == 10) (starts_with_lf t)
    (λ h. lf_from_byte t some (is_code (get_or (encode_utf8_all t) 0 0) 10 h))
    (λ h. ap (λ b. b == 10) (first_byte t h))

-- ---- the first leaf and the last
pub no_text : (t : List ℕ) → byte_len t ≤ 0 → t ≡ []
no_text [] h = refl
no_text (c ∷ cs) h = absurd (omega (arith, h, length-le-encodes (c ∷ cs)))

pub last_leaf_parts : (pieces : List (List ℕ)) (leaf : List ℕ) (i : ℕ) (before : Counts) (h : LiesIn pieces (leaf ∷ []) Bytes i before) → (total pieces).bytes ≤ i
    → (pieces ≡ h.left ++ leaf ∷ []) × (concat pieces ≡ concat h.left ++ leaf)
last_leaf_parts pieces leaf i before h past =
    let none : h.right ≡ [] = elim h.passed [
      | inl low ↦ absurd (omega (arith, low, past, ap (λ ps. (total ps).bytes) h.parts, bytes-append (h.left ++ leaf ∷ []) h.right))
      | inr e ↦ e
    ] in
    let whole : pieces ≡ h.left ++ leaf ∷ [] = h.parts ∙ ap (λ ps. h.left ++ leaf ∷ [] ++ ps) none ∙ append-nil (h.left ++ leaf ∷ []) in
    (whole, ap concat whole ∙ concat-append h.left (leaf ∷ []) ∙ ap (λ t. concat h.left ++ t) (append-nil leaf))

pub last_leaf : (pieces : List (List ℕ)) (leaf : List ℕ) (i : ℕ) (before : Counts) → LiesIn pieces (leaf ∷ []) Bytes i before → (total pieces).bytes ≤ i → 1 ≤ byte_len leaf
    → ends_with_cr (concat pieces) ≡ ends_with_cr leaf
last_leaf pieces leaf i before h past some = ap ends_with_cr (last_leaf_parts pieces leaf i before h past).1 ∙ ends-append (concat h.left) leaf some

pub first_leaf_parts : (pieces : List (List ℕ)) (leaf : List ℕ) (before : Counts) (h : LiesIn pieces (leaf ∷ []) Bytes 0 before) → concat pieces ≡ leaf ++ concat h.right
first_leaf_parts pieces leaf before h =
    let none : concat h.left ≡ [] = no_text (concat h.left) (omega (arith, h.not_past, ap (λ c. c.bytes) h.stands_before, bytes-concat h.left)) in
    let front : concat (h.left ++ leaf ∷ []) ≡ leaf = concat-append h.left (leaf ∷ []) ∙ ap (λ t. t ++ (leaf ++ [])) none ∙ append-nil leaf in
    ap concat h.parts ∙ concat-append (h.left ++ leaf ∷ []) h.right ∙ ap (λ t. t ++ concat h.right) front

pub first_leaf : (pieces : List (List ℕ)) (leaf : List ℕ) (before : Counts) → LiesIn pieces (leaf ∷ []) Bytes 0 before → 1 ≤ byte_len leaf → starts_with_lf (concat pieces) ≡ starts_with_lf leaf
first_leaf pieces leaf before h some = ap starts_with_lf (first_leaf_parts pieces leaf before h) ∙ starts-append leaf (concat h.right) some

-- ---- CR LF across a seam
abbrev pub cr_lf : List ℕ
cr_lf = 13 ∷ 10 ∷ []

pub chars-cr_lf : chars cr_lf ≡ cr_lf
unfolding chars
chars-cr_lf = refl

pub cr_lf_len : byte_len cr_lf ≡ 2
unfolding encode_utf8
cr_lf_len = refl

pub one_byte : (c : ℕ) → c < 128 → byte_len (c ∷ []) ≡ 1
one_byte c h = omega (arith, length-append (encode_utf8 c) [], length-encode c, len_utf8_ascii c h)

-- if a text is cut in two in two ways, starts of one length are equal
pub same_front : (front back short rest : List ℕ) → front ++ back ≡ short ++ rest → byte_len front ≡ byte_len short → (front ≡ short) × (back ≡ rest)
same_front front back short rest e len =
    let parts = between front back short rest e (omega (arith, len)) in
    let none : parts.mid ≡ [] = no_text parts.mid (omega (arith, len, ap byte_len parts.front_is, byte_len-append short parts.mid)) in
    (parts.front_is ∙ ap (λ t. short ++ t) none ∙ append-nil short, sym (parts.rest_is ∙ ap (λ t. t ++ back) none))
