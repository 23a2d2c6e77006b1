-- One byte on each side decides the assertions of a program.
use Rattle.std.proofs.Common.{◌≡◌, ℕ, ◌<◌, Bool, true, false, not, ◌&&◌, cond, List, [], ◌∷◌, take, Some, slice_get, refl, sym, ap, ap₂, ◌∙◌, arith}
use Rattle.std.specs.Prelude.{nat_lt, ◌==◌}
use Rattle.std.proofs.lemmas.Bool.{lt-ltb}
use Rattle.std.proofs.lemmas.Bool.Decides.{nat_tests}
use Rattle.std.proofs.lemmas.List.{append-nil}
use Rattle.std.proofs.lemmas.Str.{encode_ascii}
use Rattle.std.proofs.Math.Utf8.{encode, low_scalar}
use Rattle.unicode.specs.Perl.{is_word_char}
use Rattle.rx_walks.specs.Characters.{first_character, last_character}
use Rattle.rx_walks.specs.Laws.{OneByteTells, FirstCharacterStands, LastCharacterStands}
use Rattle.rx_walks.specs.Looks as walks
use Rattle.rx_walks.specs.Looks.{start_text, end_text, start_line, end_line, word_boundary, no_word_boundary, side_of, side_before, side_after, whole, has_word, is_broken, is_same, asks_characters, IsEdgeOrAscii, holds_between}
use Rattle.rx_program.specs.declared.states.State.{State}
use Rattle.rx_steps.specs.declared.asked.AskedLooks.{AskedLooks}
use Rattle.rx_steps.specs.Asked.{is_of_lines}
use Rattle.rx_steps.specs.Lists.{Asks, is_among}
use Rattle.rx_dfa.specs.declared.behind.Behind.TheVariants.{Edge, Byte}
use Rattle.rx_dfa.specs.Behind.{behind_of, starts_line, was_word, is_word_at, looks_of, quits}
use Rattle.rx_dfa.specs.Searching.{AreAskedBy}

-- ---- which assertions a program has

pub asked_any : (states : List State) (asked : AskedLooks) (l : walks.Look) → AreAskedBy states asked → Asks states l → asked.any ≡ true
asked_any states asked l are asks = are.any.1 (l, refl, asks)

pub asked_lines : (states : List State) (asked : AskedLooks) (l : walks.Look) → AreAskedBy states asked → is_of_lines l ≡ true → Asks states l → asked.lines ≡ true
asked_lines states asked l are kind asks = are.lines.1 (l, kind, asks)

pub asked_words : (states : List State) (asked : AskedLooks) (l : walks.Look) → AreAskedBy states asked → asks_characters l ≡ true → Asks states l → asked.words ≡ true
asked_words states asked l are kind asks = are.words.1 (l, kind, asks)

-- ---- a byte that is a whole character

pub below_128 : (b : ℕ) → nat_lt b 128 ≡ true → b < 128
below_128 b e = grind (arith, nat_tests)

no_quit : (asked : AskedLooks) (b : ℕ) → asked.words ≡ true → quits asked (Some b) ≡ false → b < 128
no_quit asked b words told = by (nat_lt b 128) refl
  where
    by : (low : Bool) → nat_lt b 128 ≡ low → b < 128
    by true is = below_128 b is
    by false is = absurd (cc (sym told ∙ ap₂ (λ w l. w && not l) words is))

alone_first : FirstCharacterStands → (b : ℕ) → b < 128 → first_character (b ∷ []) ≡ Some b
alone_first law b low = (law (b ∷ []) b).1 (record { scalar = low_scalar b (omega (arith, low)); rest = []; stands = sym (append-nil (encode b) ∙ encode_ascii b low) })

alone_last : LastCharacterStands → (b : ℕ) → b < 128 → last_character (b ∷ []) ≡ Some b
alone_last law b low = (law (b ∷ []) b).1 (record { scalar = low_scalar b (omega (arith, low)); front = []; stands = sym (encode_ascii b low) })

-- ---- the byte before an offset

before_word : LastCharacterStands → (asked : AskedLooks) (terminator : ℕ) (before : List ℕ) → asked.any ≡ true → asked.words ≡ true → quits asked (slice_get before 0) ≡ false
    → (has_word is_word_char (side_before (take 1 before)) ≡ was_word (behind_of asked terminator (slice_get before 0))) × (is_broken (side_before (take 1 before)) ≡ false)
before_word law asked terminator [] any words told = (sym (ap (λ b. was_word (cond b Edge (Byte false false))) any), refl)
before_word law asked terminator (b ∷ before) any words told =
    let low : b < 128 = no_quit asked b words told in
    let side : side_before (b ∷ []) ≡ whole b = ap (λ o. side_of (b ∷ []) o) (alone_last law b low) in
    (ap (λ x. has_word is_word_char x) side ∙ sym (ap₂ (λ w l. w && (l && is_word_char b)) words (lt-ltb b 128 low)), ap (λ x. is_broken x) side)

after_word : FirstCharacterStands → (asked : AskedLooks) (after : List ℕ) → asked.words ≡ true → quits asked (slice_get after 0) ≡ false
    → (has_word is_word_char (side_after (take 1 after)) ≡ is_word_at (slice_get after 0)) × (is_broken (side_after (take 1 after)) ≡ false)
after_word law asked [] words told = (refl, refl)
after_word law asked (c ∷ after) words told =
    let low : c < 128 = no_quit asked c words told in
    let side : side_after (c ∷ []) ≡ whole c = ap (λ o. side_of (c ∷ []) o) (alone_first law c low) in
    (ap (λ x. has_word is_word_char x) side ∙ sym (ap (λ l. l && is_word_char c) (lt-ltb c 128 low)), ap (λ x. is_broken x) side)

before_ascii : (asked : AskedLooks) (bytes : List ℕ) → asked.words ≡ true → quits asked (slice_get bytes 0) ≡ false → IsEdgeOrAscii bytes
before_ascii asked [] words told = tt
before_ascii asked (b ∷ bytes) words told = no_quit asked b words told

-- ---- assertions

unbroken : (a b : Bool) (x : Bool) → a ≡ false → b ≡ false → (not a && not b && x) ≡ x
unbroken a b x e f = ap₂ (λ y z. not y && not z && x) e f

told_by_one : FirstCharacterStands → LastCharacterStands → (states : List State) (asked : AskedLooks) (terminator : ℕ) (l : walks.Look) (before after : List ℕ) → AreAskedBy states asked → Asks states l → quits asked (slice_get before 0) ≡ false → quits asked (slice_get after 0) ≡ false
    → holds_between is_word_char terminator l (take 1 before) (take 1 after) ≡ is_among (looks_of terminator (behind_of asked terminator (slice_get before 0)) (slice_get after 0)) l
told_by_one first last states asked terminator start_text [] after are asks low low' = sym (ap (λ b. is_among (looks_of terminator (cond b Edge (Byte false false)) (slice_get after 0)) start_text) (asked_any states asked start_text are asks))
told_by_one first last states asked terminator start_text (b ∷ before) after are asks low low' = refl
told_by_one first last states asked terminator end_text before [] are asks low low' = refl
told_by_one first last states asked terminator end_text before (c ∷ after) are asks low low' = refl
told_by_one first last states asked terminator start_line [] after are asks low low' = sym (ap (λ b. starts_line (cond b Edge (Byte false false))) (asked_any states asked start_line are asks))
told_by_one first last states asked terminator start_line (b ∷ before) after are asks low low' = sym (ap (λ w. w && (b == terminator)) (asked_lines states asked start_line are refl asks))
told_by_one first last states asked terminator end_line before [] are asks low low' = refl
told_by_one first last states asked terminator end_line before (c ∷ after) are asks low low' = refl
told_by_one first last states asked terminator word_boundary before after are asks low low' =
    let words = asked_words states asked word_boundary are refl asks in
    let was = before_word last asked terminator before (asked_any states asked word_boundary are asks) words low in
    let is = after_word first asked after words low' in
    ap₂ (λ x y. not (is_same x y)) was.0 is.0
told_by_one first last states asked terminator no_word_boundary before after are asks low low' =
    let words = asked_words states asked no_word_boundary are refl asks in
    let was = before_word last asked terminator before (asked_any states asked no_word_boundary are asks) words low in
    let is = after_word first asked after words low' in
    unbroken (is_broken (side_before (take 1 before))) (is_broken (side_after (take 1 after))) (is_same (has_word is_word_char (side_before (take 1 before))) (has_word is_word_char (side_after (take 1 after)))) was.1 is.1
    ∙ ap₂ (λ x y. is_same x y) was.0 is.0

-- the assertions that one byte on each side decides hold
pub looks_told : OneByteTells → FirstCharacterStands → LastCharacterStands → (states : List State) (asked : AskedLooks) (terminator : ℕ) (l : walks.Look) (before after : List ℕ) → AreAskedBy states asked → Asks states l → quits asked (slice_get before 0) ≡ false
    → quits asked (slice_get after 0) ≡ false → holds_between is_word_char terminator l before after ≡ is_among (looks_of terminator (behind_of asked terminator (slice_get before 0)) (slice_get after 0)) l
looks_told one first last states asked terminator l before after are asks low low' =
    sym (one is_word_char terminator l before after (λ kind. (before_ascii asked before (asked_words states asked l are kind asks) low, before_ascii asked after (asked_words states asked l are kind asks) low')))
    ∙ told_by_one first last states asked terminator l before after are asks low low'
