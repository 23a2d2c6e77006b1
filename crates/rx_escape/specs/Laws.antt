-- Laws of escaped texts.
use Rattle.std.specs.Prelude.{◌≡◌, ℕ, ◌+◌, ◌*◌, ◌≤◌, false, true, List, [], ◌∷◌, length, encode_utf8_all}
use Rattle.std.specs.Str.{all_scalars}
use Rattle.rx_grammar.specs.Grammar.{Spells}
use Rattle.rx_grammar.specs.Settings.{Settings, default_settings}
use Rattle.rx_grammar.specs.Trees.{Tree}
use Rattle.rx_grammar.specs.Weights.{pattern_weight}
use Rattle.rx_literals.specs.Literals.{MatchesOnly}
use Rattle.rx_program.specs.Code.{program_of}
use Rattle.rx_escape.specs.Escaped.{escaped, text_tree}

-- the escaped text is a pattern, whose tree is that of the text, unless it is too long, or the
-- setting `i` makes each character match others too
abbrev pub SpellsItsText : List ℕ → Settings → Type 0
SpellsItsText text settings = all_scalars text ≡ true → settings.case_insensitive ≡ false
    → length (encode_utf8_all (escaped text)) ≤ 65536
    → Spells (escaped text) settings (text_tree text)

-- what the escaped text spells matches the bytes of the text, and nothing else
abbrev pub MatchesItsText : List ℕ → Type 0
MatchesItsText text = (tree : Tree) (terminator : ℕ) → all_scalars text ≡ true
    → Spells (escaped text) default_settings tree
    → MatchesOnly (encode_utf8_all text) (program_of (tree ∷ []) terminator)

-- what it spells weighs at most 2 for each character, and 4 more
abbrev pub WeighsLittle : List ℕ → Type 0
WeighsLittle text = (tree : Tree) → all_scalars text ≡ true
    → Spells (escaped text) default_settings tree → pattern_weight tree ≤ 2 * length text + 4
