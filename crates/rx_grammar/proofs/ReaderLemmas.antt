-- What a reader that finds nothing knows: the readings of a text, negated.
use Rattle.std.proofs.Common.{◌≡◌, ℕ, ◌+◌, ◌≤◌, Bool, true, false, List, ◌∷◌, length, take, drop, Option, Some, None, MatchOption, Result, Ok, Err, IfOk, is_some, refl, sym, ap, subst, ◌∙◌, arith, length-append}
use Rattle.std.proofs.lemmas.Bool.{cond-true, cond-false}
use Rattle.std.proofs.lemmas.List.{take_at, drop_at}
use Rattle.std.specs.Char.{is_ascii_digit, is_ascii_hexdigit}
use Rattle.rx_grammar.specs.declared.input.CharacterTest.TheVariants.{Digit, HexDigit}
use Rattle.rx_grammar.specs.Input.{Begins}
use Rattle.rx_grammar.specs.Readers.{SplitsFront}
use Rattle.rx_grammar.specs.Escapes.{control_of, is_escapable, escaped_by, SpellsScalar, NumberOfLength, NumberInBraces, NumberAfter, unbraced, braced, EscapedCharacter, control, itself, two_digits, four_digits}
use Rattle.rx_grammar.specs.Repetitions.{decimal_after, Number}
use Rattle.rx_grammar.proofs.InputLemmas.{first_is, rest_is, apart, told_apart, Begins-from, fronts}
use Rattle.rx_grammar.proofs.EscapeLaws.{no_brace, names_control, is_escapable-control}

-- the front of a text that a number has is the one that was split off
pub braces_read : {text front rest u : List ℕ} {c : ℕ} → SplitsFront HexDigit text front rest → NumberInBraces text c u
    → (rest ≡ 125 ∷ u) × (1 ≤ length front) × (length front ≤ 8) × SpellsScalar front c
braces_read {front = front} {rest = rest} {c = c} split number =
    let parts = fronts is_ascii_hexdigit front number.digits rest _ split.all number.spells.hex split.ends refl (sym split.whole ∙ number.whole) in
    let len : length front ≡ length number.digits = ap length parts.0 in
    (parts.1, omega (arith, number.some), omega (arith, number.few), subst (λ x. SpellsScalar x c) (sym parts.0) number.spells)

pub length_read : {text u : List ℕ} {n c : ℕ} → NumberOfLength n text c u → (n ≤ length text) × (drop n text ≡ u) × SpellsScalar (take n text) c
length_read {text = text} {u = u} {n = n} {c = c} number =
    let front : take n text ≡ number.digits = ap (take n) number.whole ∙ take_at number.digits u n number.long in
    let rest : drop n text ≡ u = ap (drop n) number.whole ∙ drop_at number.digits u n number.long in
    let len : length text ≡ length number.digits + length u = ap length number.whole ∙ length-append number.digits u in
    (omega (arith, number.long), rest, subst (λ x. SpellsScalar x c) (sym front) number.spells)

pub number_read : {text front rest u : List ℕ} {n : ℕ} → SplitsFront Digit text front rest → Number text n u
    → (rest ≡ u) × (1 ≤ length front) × (decimal_after 0 front ≡ n) × (n ≤ 65535)
number_read {front = front} {rest = rest} {u = u} split number =
    let parts = fronts is_ascii_digit front number.digits rest u split.all number.decimal split.ends number.ends (sym split.whole ∙ number.whole) in
    let len : length front ≡ length number.digits = ap length parts.0 in
    (parts.1, omega (arith, number.some), ap (decimal_after 0) parts.0 ∙ number.value, number.fits)

-- a number in braces begins with one
pub braced_read : {text inside u : List ℕ} {n c : ℕ} → 1 ≤ n → text ≡ 123 ∷ inside → NumberAfter n text c u → NumberInBraces inside c u
braced_read {u = u} some e (unbraced number) = absurd (no_brace number.digits u _ number.spells.hex (omega (arith, number.long)) (sym number.whole ∙ e))
braced_read {u = u} {c = c} some e (braced e' number) = subst (λ x. NumberInBraces x c u) (rest_is e' e) number

pub unbraced_read : {text u : List ℕ} {n c : ℕ} → (Begins 123 text → ⊥) → NumberAfter n text c u → NumberOfLength n text c u
unbraced_read none (unbraced number) = number
unbraced_read none (braced e number) = absurd (none (Begins-from e))

some_control : {c : ℕ} (letter : ℕ) → control_of letter ≡ Some c → names_control letter ≡ true
some_control letter f = ap is_some f

-- an escape by its letter
pub x_read : {text rest u : List ℕ} {c : ℕ} → text ≡ 120 ∷ rest → EscapedCharacter text c u → NumberAfter 2 rest c u
x_read e (control l e' f) = absurd (told_apart names_control e' e (some_control l f) refl)
x_read e (itself e' f) = absurd (told_apart is_escapable e' e f refl)
x_read {u = u} {c = c} e (two_digits e' number) = subst (λ x. NumberAfter 2 x c u) (rest_is e' e) number
x_read e (four_digits e' number) = absurd (apart e' e refl)

pub u_read : {text rest u : List ℕ} {c : ℕ} → text ≡ 117 ∷ rest → EscapedCharacter text c u → NumberAfter 4 rest c u
u_read e (control l e' f) = absurd (told_apart names_control e' e (some_control l f) refl)
u_read e (itself e' f) = absurd (told_apart is_escapable e' e f refl)
u_read e (two_digits e' number) = absurd (apart e' e refl)
u_read {u = u} {c = c} e (four_digits e' number) = subst (λ x. NumberAfter 4 x c u) (rest_is e' e) number

escaped_by-itself : (c : ℕ) → is_escapable c ≡ true → escaped_by c ≡ Some c
escaped_by-itself c f = cond-true (is_escapable c) (Some c) (control_of c) f

escaped_by-control : {d : ℕ} (c : ℕ) → control_of c ≡ Some d → escaped_by c ≡ Some d
escaped_by-control c f = cond-false (is_escapable c) (Some c) (control_of c) (is_escapable-control c (ap is_some f)) ∙ f

pub other_read : {text rest u : List ℕ} {c letter : ℕ} → text ≡ letter ∷ rest → (letter ≡ 120 → ⊥) → (letter ≡ 117 → ⊥) → EscapedCharacter text c u → escaped_by letter ≡ Some c
other_read e no_x no_u (control l e' f) = ap escaped_by (first_is e e') ∙ escaped_by-control l f
other_read {c = c} e no_x no_u (itself e' f) = ap escaped_by (first_is e e') ∙ escaped_by-itself c f
other_read e no_x no_u (two_digits e' number) = absurd (no_x (first_is e e'))
other_read e no_x no_u (four_digits e' number) = absurd (no_u (first_is e e'))

pub escaped_by-reads : {text rest : List ℕ} {c : ℕ} (letter : ℕ) → text ≡ letter ∷ rest → escaped_by letter ≡ Some c → EscapedCharacter text c rest
escaped_by-reads {text = text} {rest = rest} {c = c} letter e f = at (is_escapable letter) refl
  where
    at : (b : Bool) → is_escapable letter ≡ b → EscapedCharacter text c rest
    at true is =
        let same : Some letter ≡ Some c = sym (escaped_by-itself letter is) ∙ f in
        let equal : letter ≡ c = cc in
        itself (e ∙ ap (λ x. x ∷ rest) equal) (subst (λ x. is_escapable x ≡ true) equal is)
    at false is = control letter e (sym (cond-false (is_escapable letter) (Some letter) (control_of letter) is) ∙ f)

-- what an `Ok` holds may be said in other words
pub IfOk-map : {T E : Type 0} (r : Result T E) (P Q : T → Type 0) → IfOk r P → ((x : T) → P x → Q x) → IfOk r Q
IfOk-map (Ok x) P Q h f = f x h
IfOk-map (Err e) P Q h f = tt

-- what an option may hold, and what it means that it holds nothing, may be said in other words
pub MatchOption-map : {T : Type 0} (o : Option T) (P Q : Type 0) (R S : T → Type 0) → MatchOption o P R → (P → Q) → ((x : T) → R x → S x) → MatchOption o Q S
MatchOption-map None P Q R S h f g = f h
MatchOption-map (Some x) P Q R S h f g = g x h
