-- Texts escaped for patterns.
use Rattle.std.specs.Prelude.{ℕ, Bool, not, List, [], ◌∷◌, map, chars, encode_utf8_all, if◌then◌else◌}
use Rattle.std.specs.List.{flat_map}
use Rattle.rx_grammar.specs.Grammar.{is_literal, Spells}
use Rattle.rx_grammar.specs.Settings.{default_settings}
use Rattle.rx_grammar.specs.Sets.{ordinal}
use Rattle.rx_grammar.specs.Trees.{Tree, one_of, concat_of}

-- the character isn't a literal: it has a meaning of its own
abbrev pub is_meta : ℕ → Bool
is_meta c = not (is_literal c)

-- a character as an escaped text has it: with a backslash before it, unless it is a literal
abbrev pub escaped_character : ℕ → List ℕ
escaped_character c = if is_literal c then c ∷ [] else 92 ∷ c ∷ []

-- the escaped text
abbrev pub escaped : List ℕ → List ℕ
escaped text = flat_map escaped_character text

-- the bytes of the escaped text, by those of the text
abbrev pub escaped_bytes : List ℕ → List ℕ
escaped_bytes text = encode_utf8_all (escaped (chars text))

-- the tree of a single character
abbrev pub character_tree : ℕ → Tree
character_tree c = one_of ((ordinal c, ordinal c) ∷ [])

-- the tree of a text: the concatenation of its characters
abbrev pub text_tree : List ℕ → Tree
text_tree text = concat_of (map character_tree text)

-- the pattern's tree is that of the text; both are given as bytes
abbrev pub SpellsText : List ℕ → List ℕ → Type 0
SpellsText pattern text = Spells (chars pattern) default_settings (text_tree (chars text))
