-- An escape spells one character.
use Rattle.std.proofs.Common.{◌≡◌, ℕ, ◌≤◌, ◌==◌, ◌||◌, Bool, true, false, List, [], ◌∷◌, ◌++◌, length, Some, is_some, refl, sym, ap, subst, ◌∙◌, arith}
use Rattle.std.proofs.lemmas.Bool.{eqb-false}
use Rattle.std.proofs.lemmas.Bool.Decides.{nat_tests}
use Rattle.std.specs.List.{AllByRecursion}
use Rattle.rx_sets.specs.declared.items.ClassPerlKind.{ClassPerlKind}
use Rattle.rx_sets.specs.declared.items.ClassPerlKind.TheVariants.{Digit, Space, Word}
use Rattle.std.specs.Char.{is_ascii_hexdigit}
use Rattle.rx_grammar.specs.Escapes.{control_of, perl_letter, look_of, is_escapable, hex_after, SpellsScalar, NumberOfLength, NumberInBraces, NumberAfter, unbraced, braced, EscapedCharacter, control, itself, two_digits, four_digits}
use Rattle.rx_grammar.proofs.InputLemmas.{first_is, rest_is, apart, told_apart, fronts, fronts_of_length}

abbrev pub names_control : ℕ → Bool
names_control c = is_some (control_of c)

abbrev is_number_letter : ℕ → Bool
is_number_letter c = (c == 120) || (c == 117)

pub is_escapable-control : (c : ℕ) → names_control c ≡ true → is_escapable c ≡ false
is_escapable-control c h = grind (arith, nat_tests)

-- digits don't begin with a brace
pub no_brace : (digits u v : List ℕ) → AllByRecursion (λ c. is_ascii_hexdigit c ≡ true) digits → 1 ≤ length digits → digits ++ u ≡ 123 ∷ v → ⊥
no_brace [] u v hex some e = absurd (omega arith)
no_brace (digit ∷ digits) u v hex some e = told_apart is_ascii_hexdigit refl e hex.0 refl

-- the same digits spell the same character
same_scalars : {digits digits' : List ℕ} {c c' : ℕ} → SpellsScalar digits c → SpellsScalar digits' c' → digits ≡ digits' → c ≡ c'
same_scalars spells spells' e = sym spells.value ∙ ap (hex_after 0) e ∙ spells'.value

-- no two of the five forms begin alike
control_alone : {t u v : List ℕ} {c l b : ℕ} → t ≡ l ∷ u → control_of l ≡ Some c → t ≡ b ∷ v → names_control b ≡ false → ⊥
control_alone e f e' fails = told_apart names_control e e' (ap is_some f) fails

itself_alone : {t u v : List ℕ} {c b : ℕ} → t ≡ c ∷ u → is_escapable c ≡ true → t ≡ b ∷ v → is_escapable b ≡ false → ⊥
itself_alone e f e' fails = told_apart is_escapable e e' f fails

control_or_itself : {t u v : List ℕ} {c l b : ℕ} → t ≡ l ∷ u → control_of l ≡ Some c → t ≡ b ∷ v → is_escapable b ≡ true → ⊥
control_or_itself {l = l} e f e' passes = told_apart is_escapable e' e passes (is_escapable-control l (ap is_some f))

-- a number has one length, and is in braces or not
length_unique : {t u u' : List ℕ} {n c c' : ℕ} → NumberOfLength n t c u → NumberOfLength n t c' u' → (c ≡ c') × (u ≡ u')
length_unique {u = u} {u' = u'} a b =
    let parts = fronts_of_length a.digits b.digits u u' (a.long ∙ sym b.long) (sym a.whole ∙ b.whole) in
    (same_scalars a.spells b.spells parts.0, parts.1)

braces_unique : {t u u' : List ℕ} {c c' : ℕ} → NumberInBraces t c u → NumberInBraces t c' u' → (c ≡ c') × (u ≡ u')
braces_unique a b =
    let parts = fronts is_ascii_hexdigit a.digits b.digits _ _ a.spells.hex b.spells.hex refl refl (sym a.whole ∙ b.whole) in
    (same_scalars a.spells b.spells parts.0, rest_is refl parts.1)

length_or_braces : {t u v : List ℕ} {n c : ℕ} → NumberOfLength n t c u → 1 ≤ n → t ≡ 123 ∷ v → ⊥
length_or_braces {u = u} a some e = no_brace a.digits u _ a.spells.hex (omega (arith, a.long)) (sym a.whole ∙ e)

braces_along : {t t' u : List ℕ} {c : ℕ} → t ≡ t' → NumberInBraces t' c u → NumberInBraces t c u
braces_along {u = u} {c = c} e number = subst (λ x. NumberInBraces x c u) (sym e) number

number_after_unique : {t u u' : List ℕ} {n c c' : ℕ} → 1 ≤ n → NumberAfter n t c u → NumberAfter n t c' u' → (c ≡ c') × (u ≡ u')
number_after_unique some (unbraced a) (unbraced b) = length_unique a b
number_after_unique some (unbraced a) (braced e b) = absurd (length_or_braces a some e)
number_after_unique some (braced e a) (unbraced b) = absurd (length_or_braces b some e)
number_after_unique some (braced e a) (braced e' b) = braces_unique a (braces_along (rest_is e e') b)

number_after_along : {t t' u : List ℕ} {n c : ℕ} → t ≡ t' → NumberAfter n t' c u → NumberAfter n t c u
number_after_along {u = u} {n = n} {c = c} e number = subst (λ x. NumberAfter n x c u) (sym e) number

pub escape_unique : {t u u' : List ℕ} {c c' : ℕ} → EscapedCharacter t c u → EscapedCharacter t c' u' → (c ≡ c') × (u ≡ u')
escape_unique (control l e f) (control l' e' f') = let same = first_is e e' in (cc, rest_is e e')
escape_unique (control l e f) (itself e' f') = absurd (control_or_itself e f e' f')
escape_unique (control l e f) (two_digits e' n) = absurd (control_alone e f e' refl)
escape_unique (control l e f) (four_digits e' n) = absurd (control_alone e f e' refl)
escape_unique (itself e f) (control l e' f') = absurd (control_or_itself e' f' e f)
escape_unique (itself e f) (itself e' f') = (first_is e e', rest_is e e')
escape_unique (itself e f) (two_digits e' n) = absurd (itself_alone e f e' refl)
escape_unique (itself e f) (four_digits e' n) = absurd (itself_alone e f e' refl)
escape_unique (two_digits e n) (control l e' f') = absurd (control_alone e' f' e refl)
escape_unique (two_digits e n) (itself e' f') = absurd (itself_alone e' f' e refl)
escape_unique (two_digits e n) (two_digits e' n') = number_after_unique (omega arith) n (number_after_along (rest_is e e') n')
escape_unique (two_digits e n) (four_digits e' n') = absurd (apart e e' refl)
escape_unique (four_digits e n) (control l e' f') = absurd (control_alone e' f' e refl)
escape_unique (four_digits e n) (itself e' f') = absurd (itself_alone e' f' e refl)
escape_unique (four_digits e n) (two_digits e' n') = absurd (apart e e' refl)
escape_unique (four_digits e n) (four_digits e' n') = number_after_unique (omega arith) n (number_after_along (rest_is e e') n')

-- the letter of a letter class determines which one it is
pub perl_letter-unique : (k k' : ClassPerlKind) (n n' : Bool) → perl_letter k n ≡ perl_letter k' n' → (k ≡ k') × (n ≡ n')
perl_letter-unique Digit Digit true true e = (refl, refl)
perl_letter-unique Digit Digit true false e = absurd (eqb-false (perl_letter Digit true) (perl_letter Digit false) refl e)
perl_letter-unique Digit Digit false true e = absurd (eqb-false (perl_letter Digit false) (perl_letter Digit true) refl e)
perl_letter-unique Digit Digit false false e = (refl, refl)
perl_letter-unique Digit Space true true e = absurd (eqb-false (perl_letter Digit true) (perl_letter Space true) refl e)
perl_letter-unique Digit Space true false e = absurd (eqb-false (perl_letter Digit true) (perl_letter Space false) refl e)
perl_letter-unique Digit Space false true e = absurd (eqb-false (perl_letter Digit false) (perl_letter Space true) refl e)
perl_letter-unique Digit Space false false e = absurd (eqb-false (perl_letter Digit false) (perl_letter Space false) refl e)
perl_letter-unique Digit Word true true e = absurd (eqb-false (perl_letter Digit true) (perl_letter Word true) refl e)
perl_letter-unique Digit Word true false e = absurd (eqb-false (perl_letter Digit true) (perl_letter Word false) refl e)
perl_letter-unique Digit Word false true e = absurd (eqb-false (perl_letter Digit false) (perl_letter Word true) refl e)
perl_letter-unique Digit Word false false e = absurd (eqb-false (perl_letter Digit false) (perl_letter Word false) refl e)
perl_letter-unique Space Digit true true e = absurd (eqb-false (perl_letter Space true) (perl_letter Digit true) refl e)
perl_letter-unique Space Digit true false e = absurd (eqb-false (perl_letter Space true) (perl_letter Digit false) refl e)
perl_letter-unique Space Digit false true e = absurd (eqb-false (perl_letter Space false) (perl_letter Digit true) refl e)
perl_letter-unique Space Digit false false e = absurd (eqb-false (perl_letter Space false) (perl_letter Digit false) refl e)
perl_letter-unique Space Space true true e = (refl, refl)
perl_letter-unique Space Space true false e = absurd (eqb-false (perl_letter Space true) (perl_letter Space false) refl e)
perl_letter-unique Space Space false true e = absurd (eqb-false (perl_letter Space false) (perl_letter Space true) refl e)
perl_letter-unique Space Space false false e = (refl, refl)
perl_letter-unique Space Word true true e = absurd (eqb-false (perl_letter Space true) (perl_letter Word true) refl e)
perl_letter-unique Space Word true false e = absurd (eqb-false (perl_letter Space true) (perl_letter Word false) refl e)
perl_letter-unique Space Word false true e = absurd (eqb-false (perl_letter Space false) (perl_letter Word true) refl e)
perl_letter-unique Space Word false false e = absurd (eqb-false (perl_letter Space false) (perl_letter Word false) refl e)
perl_letter-unique Word Digit true true e = absurd (eqb-false (perl_letter Word true) (perl_letter Digit true) refl e)
perl_letter-unique Word Digit true false e = absurd (eqb-false (perl_letter Word true) (perl_letter Digit false) refl e)
perl_letter-unique Word Digit false true e = absurd (eqb-false (perl_letter Word false) (perl_letter Digit true) refl e)
perl_letter-unique Word Digit false false e = absurd (eqb-false (perl_letter Word false) (perl_letter Digit false) refl e)
perl_letter-unique Word Space true true e = absurd (eqb-false (perl_letter Word true) (perl_letter Space true) refl e)
perl_letter-unique Word Space true false e = absurd (eqb-false (perl_letter Word true) (perl_letter Space false) refl e)
perl_letter-unique Word Space false true e = absurd (eqb-false (perl_letter Word false) (perl_letter Space true) refl e)
perl_letter-unique Word Space false false e = absurd (eqb-false (perl_letter Word false) (perl_letter Space false) refl e)
perl_letter-unique Word Word true true e = (refl, refl)
perl_letter-unique Word Word true false e = absurd (eqb-false (perl_letter Word true) (perl_letter Word false) refl e)
perl_letter-unique Word Word false true e = absurd (eqb-false (perl_letter Word false) (perl_letter Word true) refl e)
perl_letter-unique Word Word false false e = (refl, refl)

-- and is no letter of another escape
perl_letter-no_control : (k : ClassPerlKind) (n : Bool) → names_control (perl_letter k n) ≡ false
perl_letter-no_control Digit true = refl
perl_letter-no_control Digit false = refl
perl_letter-no_control Space true = refl
perl_letter-no_control Space false = refl
perl_letter-no_control Word true = refl
perl_letter-no_control Word false = refl

perl_letter-no_escapable : (k : ClassPerlKind) (n : Bool) → is_escapable (perl_letter k n) ≡ false
perl_letter-no_escapable Digit true = refl
perl_letter-no_escapable Digit false = refl
perl_letter-no_escapable Space true = refl
perl_letter-no_escapable Space false = refl
perl_letter-no_escapable Word true = refl
perl_letter-no_escapable Word false = refl

perl_letter-not_120 : (k : ClassPerlKind) (n : Bool) → (120 == perl_letter k n) ≡ false
perl_letter-not_120 Digit true = refl
perl_letter-not_120 Digit false = refl
perl_letter-not_120 Space true = refl
perl_letter-not_120 Space false = refl
perl_letter-not_120 Word true = refl
perl_letter-not_120 Word false = refl

perl_letter-not_117 : (k : ClassPerlKind) (n : Bool) → (117 == perl_letter k n) ≡ false
perl_letter-not_117 Digit true = refl
perl_letter-not_117 Digit false = refl
perl_letter-not_117 Space true = refl
perl_letter-not_117 Space false = refl
perl_letter-not_117 Word true = refl
perl_letter-not_117 Word false = refl

abbrev pub is_look : ℕ → Bool
is_look c = is_some (look_of c)

-- the letters of letter classes and assertions spell no character
pub perl_letter-no_character : {t u v : List ℕ} {c : ℕ} (k : ClassPerlKind) (n : Bool) → t ≡ perl_letter k n ∷ v → EscapedCharacter t c u → ⊥
perl_letter-no_character k n e (control l e' f') = control_alone e' f' e (perl_letter-no_control k n)
perl_letter-no_character k n e (itself e' f') = itself_alone e' f' e (perl_letter-no_escapable k n)
perl_letter-no_character k n e (two_digits e' number) = apart e' e (perl_letter-not_120 k n)
perl_letter-no_character k n e (four_digits e' number) = apart e' e (perl_letter-not_117 k n)

is_look-tells : (c : ℕ) → is_look c ≡ true → (names_control c ≡ false) × (is_escapable c ≡ false) × (is_number_letter c ≡ false)
is_look-tells c h = (grind (arith, nat_tests), grind (arith, nat_tests), grind (arith, nat_tests))

pub look-no_character : {t u v : List ℕ} {c letter : ℕ} → t ≡ letter ∷ v → is_look letter ≡ true → EscapedCharacter t c u → ⊥
look-no_character {letter = letter} e h (control l e' f') = control_alone e' f' e (is_look-tells letter h).0
look-no_character {letter = letter} e h (itself e' f') = itself_alone e' f' e (is_look-tells letter h).1
look-no_character {letter = letter} e h (two_digits e' number) = told_apart is_number_letter e' e refl (is_look-tells letter h).2
look-no_character {letter = letter} e h (four_digits e' number) = told_apart is_number_letter e' e refl (is_look-tells letter h).2

pub perl_letter-no_look : (k : ClassPerlKind) (n : Bool) → is_look (perl_letter k n) ≡ false
perl_letter-no_look Digit true = refl
perl_letter-no_look Digit false = refl
perl_letter-no_look Space true = refl
perl_letter-no_look Space false = refl
perl_letter-no_look Word true = refl
perl_letter-no_look Word false = refl
