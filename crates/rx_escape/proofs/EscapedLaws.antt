-- The tree of an escaped text.
use Rattle.std.proofs.Common.{◌≡◌, ◌≢◌, ℕ, ◌+◌, ◌*◌, ◌≤◌, Bool, true, false, List, [], ◌∷◌, ◌++◌, append-nil, length-append, append_assoc, map, length, not, encode_utf8_all, AllPairs, refl, sym, ap, subst, ◌∙◌, arith, inl, inr, if◌then◌else◌}
use Rattle.std.specs.Str.{all_scalars}
use Rattle.std.specs.Char.{encode_utf8}
use Rattle.std.specs.Str.{IsUtf8, chars}
use Rattle.std.proofs.Math.Utf8.{scalar, scalar_cases}
use Rattle.std.proofs.lemmas.Bool.{and_parts, cases_Bool}
use Rattle.std.proofs.lemmas.Bool.Decides.{nat_tests}
use Rattle.std.proofs.lemmas.Grind.{flat_map-append}
use Rattle.std.proofs.lemmas.Str.{encodes-append, encodes-chars, scalars-chars, chars_from_encodes}
use Rattle.rx_sets.specs.Sets.{IsScalar, Range, ordinal, in_ranges, IsSetOf, FoldedIf}
use Rattle.rx_sets.proofs.FoldLemmas.{ordinal-unique}
use Rattle.rx_sets.proofs.SetLemmas.{ordinal_below}
use Rattle.rx_grammar.specs.Settings.{Settings, default_settings}
use Rattle.rx_grammar.specs.Sets.{Folded}
use Rattle.rx_grammar.specs.Input.{Stops}
use Rattle.rx_grammar.specs.Trees.{Name, names_of, all_names_of, in_a_row}
use Rattle.rx_grammar.specs.Escapes.{itself, is_escapable}
use Rattle.rx_grammar.specs.Repetitions.{Postfixes, is_postfix_start}
use Rattle.rx_grammar.specs.Repetitions as repetitions
use Rattle.rx_grammar.specs.Grammar.{is_literal, character, PlainAtom, literal, escape, plain_atom, Items, ended, item, last, Spells}
use Rattle.rx_grammar.specs.Weights.{weight_of, all_weights_of}
use Rattle.rx_grammar.proofs.GrammarLaws.{Spells-unique}
use Rattle.rx_escape.specs.Escaped.{SpellsText, escaped, escaped_bytes, escaped_character, is_meta, character_tree, text_tree}
use Rattle.rx_escape.specs.Laws.{SpellsItsText, WeighsLittle}

-- ---- characters

pub scalar_value : (c : ℕ) → scalar c ≡ true → IsScalar c
scalar_value c is = elim (scalar_cases c is) [
  | inl below ↦ inl (omega arith)
  | inr above ↦ inr (omega arith, omega arith)
]

literal_starts_none : (c : ℕ) → is_literal c ≡ true → is_postfix_start c ≡ false
literal_starts_none c is = grind (arith, nat_tests)

meta_is_escapable : (c : ℕ) → is_literal c ≡ false → is_escapable c ≡ true
meta_is_escapable c is = grind (arith, nat_tests)

abbrev pub single : ℕ → List Range
single c = (ordinal c, ordinal c) ∷ []

-- the only ordinal in the range
pub only_ordinal : (n m : ℕ) → in_ranges ((n, n) ∷ []) m ≡ true → m ≡ n
only_ordinal n m is = grind (arith, nat_tests)

pub own_ordinal : (n m : ℕ) → m ≡ n → in_ranges ((n, n) ∷ []) m ≡ true
own_ordinal n m is = grind (arith, nat_tests)

single_is : (c : ℕ) → IsScalar c → IsSetOf (single c) (λ d. d ≡ c)
single_is c scalar = record {
  canonical = (omega arith, omega arith, ordinal_below c scalar, tt);
  members = λ d other. (
    λ holds. ordinal-unique d c other scalar (only_ordinal (ordinal c) (ordinal d) holds),
    λ same. own_ordinal (ordinal c) (ordinal d) (ap ordinal same),
  );
}

single_folded : (c : ℕ) (settings : Settings) → IsScalar c → settings.case_insensitive ≡ false → IsSetOf (single c) (Folded settings (λ d. d ≡ c))
single_folded c settings scalar off =
    subst (λ (b : Bool). IsSetOf (single c) (FoldedIf b (λ d. d ≡ c))) (sym off) (single_is c scalar)

-- ---- escaped texts

escaped-literal : (c : ℕ) (text : List ℕ) → is_literal c ≡ true → escaped (c ∷ text) ≡ c ∷ escaped text
escaped-literal c text is = ap (λ (b : Bool). (if b then c ∷ [] else 92 ∷ c ∷ []) ++ escaped text) is

escaped-meta : (c : ℕ) (text : List ℕ) → is_literal c ≡ false → escaped (c ∷ text) ≡ 92 ∷ c ∷ escaped text
escaped-meta c text is = ap (λ (b : Bool). (if b then c ∷ [] else 92 ∷ c ∷ []) ++ escaped text) is

-- no postfix is at the start of an escaped text
starts_none : (text : List ℕ) → Stops is_postfix_start (escaped text)
starts_none [] = tt
starts_none (c ∷ text) = elim (cases_Bool (is_literal c)) [
  | inl is ↦ subst (Stops is_postfix_start) (sym (escaped-literal c text is)) (literal_starts_none c is)
  | inr is ↦ subst (Stops is_postfix_start) (sym (escaped-meta c text is)) refl
]

module _ (settings : Settings) (off : settings.case_insensitive ≡ false) where
  atom : (c : ℕ) (text : List ℕ) → IsScalar c → PlainAtom settings (escaped (c ∷ text)) (character_tree c) (escaped text)
  atom c text scalar = elim (cases_Bool (is_literal c)) [
    | inl is ↦ literal (escaped-literal c text is) is (single_folded c settings scalar off)
    | inr is ↦ escape (escaped-meta c text is) (character (itself refl (meta_is_escapable c is)) (single_folded c settings scalar off))
  ]

  items : (text : List ℕ) → all_scalars text ≡ true → Items settings 0 (escaped text) (map character_tree text) 0 settings 0 []
  items [] all = ended tt
  items (c ∷ text) all =
      let parts = and_parts _ _ all in
      item (plain_atom (atom c text (scalar_value c parts.0))) (repetitions.ended (starts_none text)) (items text parts.1)

-- ---- the tree of a text has no name

row_names : (c d : ℕ) (text : List ℕ) → all_names_of (in_a_row (character_tree c) (character_tree d) (map character_tree text)) ≡ []
row_names c d [] = refl
row_names c d (e ∷ text) = row_names d e text

text_names : (text : List ℕ) → names_of (text_tree text) ≡ []
text_names [] = refl
text_names (c ∷ []) = refl
text_names (c ∷ d ∷ text) = row_names c d text

pub spells_its_text : (text : List ℕ) (settings : Settings) → SpellsItsText text settings
spells_its_text text settings all off fits = record {
  first = text_tree text;
  others = [];
  depth = 0;
  groups = 0;
  settings_after = settings;
  whole = last (items settings off text all) tt;
  tree_is = refl;
  nesting = omega arith;
  names = subst (λ (names : List Name). AllPairs (λ a b. a ≢ b) names) (sym (text_names text)) (λ i j d below inside. absurd (omega (arith, inside)));
  size = fits;
}

-- ---- bytes

one_more : (text : List ℕ) (c : ℕ) (bytes spelled : List ℕ) → bytes ≡ encode_utf8_all (escaped text) → encode_utf8_all (escaped (c ∷ [])) ≡ spelled → bytes ++ spelled ≡ encode_utf8_all (escaped (text ++ c ∷ []))
one_more text c bytes spelled before is =
    let parts : encode_utf8_all (escaped (text ++ c ∷ [])) ≡ encode_utf8_all (escaped text) ++ encode_utf8_all (escaped (c ∷ [])) =
    ap encode_utf8_all (flat_map-append escaped_character text (c ∷ [])) ∙ encodes-append (escaped text) (escaped (c ∷ [])) in
    ap (λ b. b ++ spelled) before ∙ ap (λ b. encode_utf8_all (escaped text) ++ b) (sym is) ∙ sym parts

-- an escaped text with one more character
pub one_more-literal : (text : List ℕ) (c : ℕ) (bytes : List ℕ) → is_meta c ≡ false → bytes ≡ encode_utf8_all (escaped text) → bytes ++ encode_utf8 c ≡ encode_utf8_all (escaped (text ++ c ∷ []))
one_more-literal text c bytes plain before =
    one_more text c bytes (encode_utf8 c) before (ap encode_utf8_all (escaped-literal c [] (no_meta (is_literal c) plain)) ∙ append-nil (encode_utf8 c))
  where
    no_meta : (b : Bool) → not b ≡ false → b ≡ true
    no_meta b e = grind arith

pub one_more-meta : (text : List ℕ) (c : ℕ) (bytes middle : List ℕ) → is_meta c ≡ true → bytes ≡ encode_utf8_all (escaped text) → middle ≡ bytes ++ encode_utf8 92 → middle ++ encode_utf8 c ≡ encode_utf8_all (escaped (text ++ c ∷ []))
one_more-meta text c bytes middle meta before behind =
    let both : encode_utf8_all (escaped (c ∷ [])) ≡ encode_utf8 92 ++ encode_utf8 c =
    ap encode_utf8_all (escaped-meta c [] (no_literal (is_literal c) meta)) ∙ ap (λ b. encode_utf8 92 ++ b) (append-nil (encode_utf8 c)) in
    ap (λ b. b ++ encode_utf8 c) behind ∙ append_assoc bytes (encode_utf8 92) (encode_utf8 c) ∙ one_more text c bytes (encode_utf8 92 ++ encode_utf8 c) before both
  where
    no_literal : (b : Bool) → not b ≡ true → b ≡ false
    no_literal b e = grind arith

-- no text is shorter when it is escaped
no_shorter : (text : List ℕ) → length (encode_utf8_all text) ≤ length (encode_utf8_all (escaped text))
no_shorter [] = omega arith
no_shorter (c ∷ text) = elim (cases_Bool (is_literal c)) [
  | inl is ↦ (let whole = ap (λ t. length (encode_utf8_all t)) (escaped-literal c text is) in
      omega (arith, whole, length-append (encode_utf8 c) (encode_utf8_all text), length-append (encode_utf8 c) (encode_utf8_all (escaped text)), no_shorter text))
  | inr is ↦ (let whole = ap (λ t. length (encode_utf8_all t)) (escaped-meta c text is) in
      let more : length (encode_utf8_all (92 ∷ c ∷ escaped text)) ≡ length (encode_utf8 92) + length (encode_utf8_all (c ∷ escaped text)) = length-append (encode_utf8 92) (encode_utf8_all (c ∷ escaped text)) in
      omega (arith, whole, more, length-append (encode_utf8 c) (encode_utf8_all text), length-append (encode_utf8 c) (encode_utf8_all (escaped text)), no_shorter text))
]

pub bytes_no_shorter : (text : List ℕ) → IsUtf8 text → length text ≤ length (escaped_bytes text)
bytes_no_shorter text utf8 = omega (arith, ap length (encodes-chars text utf8), no_shorter (chars text))

-- what a pattern spells that is an escaped text, by their bytes
pub spells_text : (pattern text : List ℕ) → IsUtf8 pattern → IsUtf8 text → pattern ≡ escaped_bytes text → length pattern ≤ 65536 → SpellsText pattern text
spells_text pattern text utf8 utf8' is fits =
    let characters : escaped (chars text) ≡ chars pattern = chars_from_encodes (escaped (chars text)) pattern utf8 (sym is) in
    subst (λ t. Spells t default_settings (text_tree (chars text))) characters
    (spells_its_text (chars text) default_settings (scalars-chars text utf8') refl (omega (arith, ap length is, fits)))

-- ---- weight

row_weight : (c d : ℕ) (text : List ℕ) → all_weights_of (in_a_row (character_tree c) (character_tree d) (map character_tree text)) ≡ 2 * length (c ∷ d ∷ text)
row_weight c d [] = refl
row_weight c d (e ∷ text) = omega (arith, row_weight d e text)

text_weight : (text : List ℕ) → weight_of (text_tree text) ≤ 2 * length text + 1
text_weight [] = omega arith
text_weight (c ∷ []) = omega arith
text_weight (c ∷ d ∷ text) = omega (arith, row_weight c d text)

pub weighs_little : (text : List ℕ) → WeighsLittle text
weighs_little text tree all spells =
    let same : text_tree text ≡ tree = Spells-unique (escaped text) default_settings (text_tree text) tree (spells_its_text text default_settings all refl spells.size) spells in
    omega (arith, ap weight_of same, text_weight text)
