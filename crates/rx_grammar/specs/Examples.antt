-- The trees of small texts, by the cases of the grammar.
use Rattle.std.specs.Prelude.{◌≡◌, ℕ, ◌+◌, ◌-◌, ◌^◌, true, false, [], ◌∷◌, Some, None, codes, refl}
use Rattle.std.proofs.lemmas.Bool.{eqb-false}
use Rattle.rx_grammar.specs.declared.hir.Look.TheVariants.{Start, EndLine}
use Rattle.rx_grammar.specs.Settings.{Settings, default_settings}
use Rattle.rx_grammar.specs.Sets.{ordinal}
use Rattle.rx_grammar.specs.Trees.{Tree, empty, one_of, look_at, group, concat_of, concat, alternation, repeated, two, more}
use Rattle.rx_grammar.specs.Weights.{may_be_empty, weight_of, pattern_weight, held}
use Rattle.rx_grammar.specs.Escapes.{EscapedCharacter, control, itself, escaped_by}
use Rattle.rx_grammar.specs.Repetitions.{star, plus, Postfix, alone, marked, repetition}
use Rattle.rx_grammar.specs.Grammar.{PlainAtom, caret, dollar, Items, ended, is_literal}

-- the last scalar value before the surrogates and the first after them are neighbours
neighbours : ordinal 0xE000 ≡ ordinal 0xD7FF + 1
neighbours = refl

-- \v is U+000B, \- is a hyphen, and \< is no escape
vertical_tab : EscapedCharacter (codes "vx") 0x0B (codes "x")
vertical_tab = control 118 refl refl

hyphen : EscapedCharacter (codes "-") 45 []
hyphen = itself refl refl

no_word_bracket : escaped_by 60 ≡ None
no_word_bracket = refl

-- ] and } are literals, and { isn't
brackets : is_literal 93 ≡ true
brackets = refl

brace : is_literal 123 ≡ false
brace = refl

-- `*` is greedy, and `*?` lazy; `U` swaps them
greedy : Postfix false (codes "*a") (repetition 0 None true) (codes "a")
greedy = alone (star refl) (eqb-false 97 63 refl)

lazy : Postfix false (codes "*?") (repetition 0 None false) []
lazy = marked (star refl) refl

swapped : Postfix true (codes "+?") (repetition 1 None true) []
swapped = marked (plus refl) refl

-- ^ is the start of the text; with `m`, $ is the end of a line
start_of_text : PlainAtom default_settings (codes "^a") (look_at Start) (codes "a")
start_of_text = caret refl

abbrev lines : Settings
lines = record default_settings { multi_line = true }

end_of_line : PlainAtom lines (codes "$") (look_at EndLine) []
end_of_line = dollar refl

-- the empty pattern has no item
nothing : Items default_settings 0 [] [] 0 default_settings 0 []
nothing = ended tt

-- no item, one and two
concats : concat_of (empty ∷ look_at Start ∷ []) ≡ concat (two empty (look_at Start))
concats = refl

-- a, [a-c] and .
abbrev letter : Tree
letter = one_of ((97, 97) ∷ [])

abbrev letters : Tree
letters = one_of ((97, 99) ∷ [])

abbrev dot : Tree
dot = one_of ((0, 9) ∷ (11, 0x10_F7FF) ∷ [])

abbrev times : ℕ → Tree → Tree
times n tree = repeated (repetition n (Some n) true) tree

abbrev loop : Tree → Tree
loop tree = repeated (repetition 0 None true) tree

-- (a)|b
weight_of_branches : pattern_weight (alternation (two (group 1 None letter) letter)) ≡ 10
weight_of_branches = refl

-- [a-c]{2,4}
weight_of_copies : pattern_weight (repeated (repetition 2 (Some 4) true) letters) ≡ 13
weight_of_copies = refl

-- (?:a*)*: the inner loop may be empty, so the outer one is an optional loop
weight_of_loops : pattern_weight (loop (loop letter)) ≡ 8
weight_of_loops = refl

-- . without flags has two ranges
weight_of_dot : pattern_weight dot ≡ 6
weight_of_dot = refl

-- a+ and a{3,} go back to the last copy
weight_of_plus : weight_of (repeated (repetition 1 None true) letter) ≡ 3
weight_of_plus = refl

weight_of_at_least : weight_of (repeated (repetition 3 None true) letter) ≡ 7
weight_of_at_least = refl

-- ^a{65535}a{65535}
weight_at_the_limit : pattern_weight (concat (more (look_at Start) (two (times 65535 letter) (times 65535 letter)))) ≡ 262144
weight_at_the_limit = refl

-- a{65535}{65535}{0} weighs as much as the empty pattern; a{65535}{65535}{65535}{65535} exceeds the
-- greatest weight stored
weight_of_none : pattern_weight (times 0 (times 65535 (times 65535 letter))) ≡ 4
weight_of_none = refl

weight_held : held (weight_of (times 65535 (times 65535 (times 65535 (times 65535 letter))))) ≡ 2 ^ 64 - 1
weight_held = refl

-- ^*|a may be empty, (?:a|)a may not, a{0} may
look_may_be_empty : may_be_empty (alternation (two (loop (look_at Start)) letter)) ≡ true
look_may_be_empty = refl

letter_is_not_empty : may_be_empty (concat (two (alternation (two letter empty)) letter)) ≡ false
letter_is_not_empty = refl

none_is_empty : may_be_empty (times 0 letter) ≡ true
none_is_empty = refl
