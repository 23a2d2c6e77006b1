-- What opens a group, and a setting, have one reading.
use Rattle.std.proofs.Common.{◌≡◌, ℕ, ◌≤◌, ◌<◌, encode_utf8_all, ◌==◌, ◌||◌, Bool, true, false, List, [], ◌∷◌, ◌++◌, length, map, Some, refl, sym, ap, ap₂, subst, ◌∙◌, arith}
use Rattle.std.proofs.lemmas.Bool.{eqb-false, or_left}
use Rattle.std.proofs.lemmas.Bool.Decides.{nat_tests}
use Rattle.std.proofs.lemmas.Str.{encode_ascii}
use Rattle.std.specs.List.{AllByRecursion}
use Rattle.rx_grammar.specs.declared.flags.Flag.{Flag}
use Rattle.rx_grammar.specs.declared.flags.Flag.TheVariants.{CaseInsensitive, MultiLine, DotMatchesNewLine, SwapGreed}
use Rattle.rx_grammar.specs.Settings.{Settings, letter_of}
use Rattle.rx_grammar.specs.Trees.{Name}
use Rattle.rx_grammar.specs.Input.{Begins}
use Rattle.rx_grammar.specs.Readers.{passes}
use Rattle.rx_grammar.specs.declared.input.CharacterTest.TheVariants.{NameCharacter}
use Rattle.rx_grammar.specs.Groups.{is_flag_letter, FlagLetters, Flags, turning_on, turning_off, flagged, Setting, setting, is_name_character, IsName, Capture, numbered, Opening, plain, without_number, with_name, with_short_name, changing}
use Rattle.rx_grammar.proofs.InputLemmas.{first_is, rest_is, apart, told_apart, Begins-from, fronts}

pub letter_of-passes : (flag : Flag) → is_flag_letter (letter_of flag) ≡ true
letter_of-passes CaseInsensitive = refl
letter_of-passes MultiLine = refl
letter_of-passes DotMatchesNewLine = refl
letter_of-passes SwapGreed = refl

pub letter_of-unique : (f g : Flag) → letter_of f ≡ letter_of g → f ≡ g
letter_of-unique CaseInsensitive CaseInsensitive e = refl
letter_of-unique CaseInsensitive MultiLine e = absurd (eqb-false (letter_of CaseInsensitive) (letter_of MultiLine) refl e)
letter_of-unique CaseInsensitive DotMatchesNewLine e = absurd (eqb-false (letter_of CaseInsensitive) (letter_of DotMatchesNewLine) refl e)
letter_of-unique CaseInsensitive SwapGreed e = absurd (eqb-false (letter_of CaseInsensitive) (letter_of SwapGreed) refl e)
letter_of-unique MultiLine CaseInsensitive e = absurd (eqb-false (letter_of MultiLine) (letter_of CaseInsensitive) refl e)
letter_of-unique MultiLine MultiLine e = refl
letter_of-unique MultiLine DotMatchesNewLine e = absurd (eqb-false (letter_of MultiLine) (letter_of DotMatchesNewLine) refl e)
letter_of-unique MultiLine SwapGreed e = absurd (eqb-false (letter_of MultiLine) (letter_of SwapGreed) refl e)
letter_of-unique DotMatchesNewLine CaseInsensitive e = absurd (eqb-false (letter_of DotMatchesNewLine) (letter_of CaseInsensitive) refl e)
letter_of-unique DotMatchesNewLine MultiLine e = absurd (eqb-false (letter_of DotMatchesNewLine) (letter_of MultiLine) refl e)
letter_of-unique DotMatchesNewLine DotMatchesNewLine e = refl
letter_of-unique DotMatchesNewLine SwapGreed e = absurd (eqb-false (letter_of DotMatchesNewLine) (letter_of SwapGreed) refl e)
letter_of-unique SwapGreed CaseInsensitive e = absurd (eqb-false (letter_of SwapGreed) (letter_of CaseInsensitive) refl e)
letter_of-unique SwapGreed MultiLine e = absurd (eqb-false (letter_of SwapGreed) (letter_of MultiLine) refl e)
letter_of-unique SwapGreed DotMatchesNewLine e = absurd (eqb-false (letter_of SwapGreed) (letter_of DotMatchesNewLine) refl e)
letter_of-unique SwapGreed SwapGreed e = refl

letters_pass : (flags : List Flag) → AllByRecursion (λ c. is_flag_letter c ≡ true) (map letter_of flags)
letters_pass [] = tt
letters_pass (flag ∷ flags) = (letter_of-passes flag, letters_pass flags)

map-letter_of-unique : (fs gs : List Flag) → map letter_of fs ≡ map letter_of gs → fs ≡ gs
map-letter_of-unique [] [] e = refl
map-letter_of-unique [] (g ∷ gs) e = absurd (cc)
map-letter_of-unique (f ∷ fs) [] e = absurd (cc)
map-letter_of-unique (f ∷ fs) (g ∷ gs) e =
    ap₂ (λ a l. a ∷ l) (letter_of-unique f g (first_is refl e)) (map-letter_of-unique fs gs (rest_is refl e))

pub letters_unique : {t u u' : List ℕ} {fs gs : List Flag} → FlagLetters t fs u → FlagLetters t gs u' → (fs ≡ gs) × (u ≡ u')
letters_unique {u = u} {u' = u'} {fs = fs} {gs = gs} a b =
    let parts = fronts is_flag_letter (map letter_of fs) (map letter_of gs) u u' (letters_pass fs) (letters_pass gs) a.ends b.ends (sym a.whole ∙ b.whole) in
    (map-letter_of-unique fs gs parts.0, parts.1)

pub letters_along : {t t' u : List ℕ} {fs : List Flag} → t ≡ t' → FlagLetters t' fs u → FlagLetters t fs u
letters_along {u = u} {fs = fs} e letters = subst (λ x. FlagLetters x fs u) (sym e) letters

pub flags_unique : {t u u' : List ℕ} {on on' off off' : List Flag} → Flags t on off u → Flags t on' off' u' → (on ≡ on') × (off ≡ off') × (u ≡ u')
flags_unique (turning_on letters some stop once) (turning_on letters' some' stop' once') =
    let same = letters_unique letters letters' in (same.0, refl, same.1)
flags_unique (turning_on letters some stop once) (turning_off letters' minus off some' once') =
    let same = letters_unique letters letters' in absurd (stop (Begins-from (same.1 ∙ minus)))
flags_unique (turning_off letters minus off some once) (turning_on letters' some' stop once') =
    let same = letters_unique letters letters' in absurd (stop (Begins-from (sym same.1 ∙ minus)))
flags_unique (turning_off letters minus off some once) (turning_off letters' minus' off' some' once') =
    let same = letters_unique letters letters' in
    let same' = letters_unique off (letters_along (rest_is minus (same.1 ∙ minus')) off') in
    (same.0, same'.0, same'.1)

pub flags_along : {t t' u : List ℕ} {on off : List Flag} → t ≡ t' → Flags t' on off u → Flags t on off u
flags_along {u = u} {on = on} {off = off} e flags = subst (λ x. Flags x on off u) (sym e) flags

-- what flags begin with
abbrev pub is_flag_start : ℕ → Bool
is_flag_start c = is_flag_letter c || (c == 45)

pub letters_begin : {t u v : List ℕ} {b : ℕ} (flags : List Flag) → FlagLetters t flags u → 1 ≤ length flags → t ≡ b ∷ v → is_flag_start b ≡ false → ⊥
letters_begin [] letters some e fails = absurd (omega arith)
letters_begin (flag ∷ flags) letters some e fails = told_apart is_flag_start letters.whole e (or_left _ _ (letter_of-passes flag)) fails

letters_or_minus : {t u v w : List ℕ} {b : ℕ} (flags : List Flag) → FlagLetters t flags u → u ≡ 45 ∷ w → t ≡ b ∷ v → is_flag_start b ≡ false → ⊥
letters_or_minus [] letters minus e fails = told_apart is_flag_start (letters.whole ∙ minus) e refl fails
letters_or_minus (flag ∷ flags) letters minus e fails = told_apart is_flag_start letters.whole e (or_left _ _ (letter_of-passes flag)) fails

pub flags_begin : {t u v : List ℕ} {on off : List Flag} {b : ℕ} → Flags t on off u → t ≡ b ∷ v → is_flag_start b ≡ false → ⊥
flags_begin {on = on} (turning_on letters some stop once) e fails = letters_begin on letters some e fails
flags_begin {on = on} (turning_off letters minus off some once) e fails = letters_or_minus on letters minus e fails

-- the text after `(?`
pub behind : {t u v : List ℕ} → t ≡ 40 ∷ 63 ∷ u → t ≡ 40 ∷ 63 ∷ v → u ≡ v
behind e f = rest_is refl (rest_is e f)

pub setting_unique : {s s' s'' : Settings} {t u u' : List ℕ} → Setting s t s' u → Setting s t s'' u' → (s' ≡ s'') × (u ≡ u')
setting_unique {s = s} (setting e flags close) (setting e' flags' close') =
    let same = flags_unique flags (flags_along (behind e e') flags') in
    (ap₂ (λ a b. flagged s a b) same.0 same.1, rest_is close (same.2 ∙ close'))

pub IsName-passes : (name : Name) → IsName name → AllByRecursion (λ c. passes NameCharacter c ≡ true) name
IsName-passes [] is = absurd is
IsName-passes (c ∷ cs) is = is.1

names_unique : {t u u' : List ℕ} (name name' : Name) → t ≡ name ++ 62 ∷ u → IsName name → t ≡ name' ++ 62 ∷ u' → IsName name' → (name ≡ name') × (u ≡ u')
names_unique name name' e is e' is' =
    let parts = fronts (passes NameCharacter) name name' _ _ (IsName-passes name is) (IsName-passes name' is') refl refl (sym e ∙ e') in
    (parts.0, rest_is refl parts.1)

same_name : {name name' : Name} → name ≡ name' → numbered (Some name) ≡ numbered (Some name')
same_name e = ap (λ n. numbered (Some n)) e

pub opening_unique : {s s' s'' : Settings} {t u u' : List ℕ} {k k' : Capture} → Opening s t s' k u → Opening s t s'' k' u' → (s' ≡ s'') × (k ≡ k') × (u ≡ u')
opening_unique (plain e stop) (plain e' stop') = (refl, refl, rest_is e e')
opening_unique (plain e stop) (without_number e') = absurd (stop (Begins-from (rest_is e e')))
opening_unique (plain e stop) (with_name e' close' is') = absurd (stop (Begins-from (rest_is e e')))
opening_unique (plain e stop) (with_short_name e' close' is') = absurd (stop (Begins-from (rest_is e e')))
opening_unique (plain e stop) (changing e' flags' close') = absurd (stop (Begins-from (rest_is e e')))
opening_unique (without_number e) (plain e' stop') = absurd (stop' (Begins-from (rest_is e' e)))
opening_unique (without_number e) (without_number e') = (refl, refl, rest_is refl (behind e e'))
opening_unique (without_number e) (with_name e' close' is') = absurd (apart (behind e e') refl refl)
opening_unique (without_number e) (with_short_name e' close' is') = absurd (apart (behind e e') refl refl)
opening_unique (without_number e) (changing e' flags' close') = absurd (flags_begin flags' (behind e' e) refl)
opening_unique (with_name e close is) (plain e' stop') = absurd (stop' (Begins-from (rest_is e' e)))
opening_unique (with_name e close is) (without_number e') = absurd (apart (behind e e') refl refl)
opening_unique (with_name e close is) (with_name e' close' is') =
    let after = rest_is refl (rest_is refl (behind e e')) in
    let same = names_unique _ _ close is (after ∙ close') is' in
    (refl, same_name same.0, same.1)
opening_unique (with_name e close is) (with_short_name e' close' is') = absurd (apart (behind e e') refl refl)
opening_unique (with_name e close is) (changing e' flags' close') = absurd (flags_begin flags' (behind e' e) refl)
opening_unique (with_short_name e close is) (plain e' stop') = absurd (stop' (Begins-from (rest_is e' e)))
opening_unique (with_short_name e close is) (without_number e') = absurd (apart (behind e e') refl refl)
opening_unique (with_short_name e close is) (with_name e' close' is') = absurd (apart (behind e e') refl refl)
opening_unique (with_short_name e close is) (with_short_name e' close' is') =
    let after = rest_is refl (behind e e') in
    let same = names_unique _ _ close is (after ∙ close') is' in
    (refl, same_name same.0, same.1)
opening_unique (with_short_name e close is) (changing e' flags' close') = absurd (flags_begin flags' (behind e' e) refl)
opening_unique (changing e flags close) (plain e' stop') = absurd (stop' (Begins-from (rest_is e' e)))
opening_unique (changing e flags close) (without_number e') = absurd (flags_begin flags (behind e e') refl)
opening_unique (changing e flags close) (with_name e' close' is') = absurd (flags_begin flags (behind e e') refl)
opening_unique (changing e flags close) (with_short_name e' close' is') = absurd (flags_begin flags (behind e e') refl)
opening_unique {s = s} (changing e flags close) (changing e' flags' close') =
    let same = flags_unique flags (flags_along (behind e e') flags') in
    (ap₂ (λ a b. flagged s a b) same.0 same.1, refl, rest_is close (same.2 ∙ close'))

-- a setting opens no group
pub setting_or_opening : {s s' s'' : Settings} {t u u' : List ℕ} {k : Capture} → Setting s t s' u → Opening s t s'' k u' → ⊥
setting_or_opening (setting e flags close) (plain e' stop) = stop (Begins-from (rest_is e' e))
setting_or_opening (setting e flags close) (without_number e') = flags_begin flags (behind e e') refl
setting_or_opening (setting e flags close) (with_name e' close' is) = flags_begin flags (behind e e') refl
setting_or_opening (setting e flags close) (with_short_name e' close' is) = flags_begin flags (behind e e') refl
setting_or_opening (setting e flags close) (changing e' flags' close') =
    let same = flags_unique flags (flags_along (behind e e') flags') in apart close (same.2 ∙ close') refl

-- both begin with (
pub setting_begins : {s s' : Settings} {t u : List ℕ} → Setting s t s' u → Begins 40 t
setting_begins (setting e flags close) = Begins-from e

pub opening_begins : {s s' : Settings} {t u : List ℕ} {k : Capture} → Opening s t s' k u → Begins 40 t
opening_begins (plain e stop) = Begins-from e
opening_begins (without_number e) = Begins-from e
opening_begins (with_name e close is) = Begins-from e
opening_begins (with_short_name e close is) = Begins-from e
opening_begins (changing e flags close) = Begins-from e

-- the characters of a name are ASCII
name_character-ascii : (c : ℕ) → is_name_character c ≡ true → c < 128
name_character-ascii c is = grind (arith, nat_tests)

characters_bytes : (cs : List ℕ) → AllByRecursion (λ c. is_name_character c ≡ true) cs → encode_utf8_all cs ≡ cs
characters_bytes [] all = refl
characters_bytes (c ∷ cs) all = ap₂ (λ x y. x ++ y) (encode_ascii c (name_character-ascii c all.0)) (characters_bytes cs all.1)

pub name_bytes : (name : Name) → IsName name → encode_utf8_all name ≡ name
name_bytes [] is = absurd is
name_bytes (c ∷ cs) is = characters_bytes (c ∷ cs) is.1
