-- The grammar of patterns: the tree of a text.
use Rattle.std.specs.Prelude.{◌≡◌, ◌≢◌, ℕ, ◌+◌, ◌≤◌, ◌<◌, Bool, true, false, not, ◌==◌, ◌||◌, List, [], ◌∷◌, Some, max, AllPairs, length, encode_utf8_all, if◌then◌else◌}
use Rattle.rx_sets.specs.declared.items.ClassPerlKind.{ClassPerlKind}
use Rattle.rx_grammar.specs.declared.hir.Look.{Look}
use Rattle.rx_grammar.specs.declared.hir.Look.TheVariants.{Start, End, StartLine, EndLine}
use Rattle.rx_grammar.specs.Settings.{Settings}
use Rattle.rx_grammar.specs.Sets.{Range, IsSetOf, Folded, InPerl}
use Rattle.rx_grammar.specs.Trees.{Tree, one_of, look_at, concat_of, alternation_of, names_of}
use Rattle.rx_grammar.specs.Input.{Stops}
use Rattle.rx_grammar.specs.Escapes.{EscapedCharacter, perl_letter, look_of}
use Rattle.rx_sets.specs.declared.items.ClassItem.{ClassItem}
use Rattle.rx_grammar.specs.Classes.{Class, InClass}
use Rattle.rx_grammar.specs.Repetitions.{Postfixes}
use Rattle.rx_grammar.specs.Groups.{Setting, Capture, Opening, opened, grouped}

-- any character but \ . + * ? ( ) | [ { ^ $ is a literal
abbrev pub is_literal : ℕ → Bool
is_literal c = not ((c == 92) || (c == 46) || (c == 43) || (c == 42) || (c == 63) || (c == 40) || (c == 41) || (c == 124) || (c == 91) || (c == 123) || (c == 94) || (c == 36))

-- the characters of `.`: any but the line terminator, and with `s` any
abbrev pub InDot : Settings → ℕ → Type 0
InDot settings c = elim settings.dot_matches_new_line [ true ↦ Unit {0} | false ↦ c ≢ settings.line_terminator ]

-- `.` is allowed with `s`, or if the line terminator is an ASCII byte
abbrev pub IsDotAllowed : Settings → Type 0
IsDotAllowed settings = elim settings.dot_matches_new_line [ true ↦ Unit {0} | false ↦ settings.line_terminator < 128 ]

-- an escape after its backslash: its tree, and u after it
pub data Escape : Settings → List ℕ → Tree → List ℕ → Type 0 where
  character : {s : Settings} {t u : List ℕ} {c : ℕ} {ranges : List Range} → EscapedCharacter t c u → IsSetOf ranges (Folded s (λ d. d ≡ c)) → Escape s t (one_of ranges) u
  -- \d \D \s \S \w \W
  letter_class : {s : Settings} {t u : List ℕ} {ranges : List Range} (kind : ClassPerlKind) (negated : Bool) → t ≡ perl_letter kind negated ∷ u → IsSetOf ranges (InPerl kind negated) → Escape s t (one_of ranges) u
  -- \A \z \b \B
  look : {s : Settings} {t u : List ℕ} {asked : Look} (letter : ℕ) → t ≡ letter ∷ u → look_of letter ≡ Some asked → Escape s t (look_at asked) u

-- an atom other than a group: its tree, and u after it
pub data PlainAtom : Settings → List ℕ → Tree → List ℕ → Type 0 where
  literal : {s : Settings} {t u : List ℕ} {c : ℕ} {ranges : List Range} → t ≡ c ∷ u → is_literal c ≡ true → IsSetOf ranges (Folded s (λ d. d ≡ c)) → PlainAtom s t (one_of ranges) u
  dot : {s : Settings} {t u : List ℕ} {ranges : List Range} → t ≡ 46 ∷ u → IsDotAllowed s → IsSetOf ranges (InDot s) → PlainAtom s t (one_of ranges) u
  caret : {s : Settings} {t u : List ℕ} → t ≡ 94 ∷ u → PlainAtom s t (look_at (if s.multi_line then StartLine else Start)) u
  dollar : {s : Settings} {t u : List ℕ} → t ≡ 36 ∷ u → PlainAtom s t (look_at (if s.multi_line then EndLine else End)) u
  escape : {s : Settings} {t u v : List ℕ} {h : Tree} → t ≡ 92 ∷ v → Escape s v h u → PlainAtom s t h u
  class : {s : Settings} {t u v : List ℕ} {negated : Bool} {items : List ClassItem} {ranges : List Range} → t ≡ 91 ∷ v → Class v negated items u → IsSetOf ranges (InClass s negated items) → PlainAtom s t (one_of ranges) u

-- a concatenation ends before | or ), or at the end of the text
abbrev pub goes_on : ℕ → Bool
goes_on c = not ((c == 124) || (c == 41))

abbrev pub goes_on_in_branches : ℕ → Bool
goes_on_in_branches c = not (c == 41)

mutual
  -- an atom: the settings, the number of groups opened before it, and a text; its tree, its depth,
  -- the number of groups opened after it, and the rest of the text
  pub data Atom : Settings → ℕ → List ℕ → Tree → ℕ → ℕ → List ℕ → Type 0 where
    plain_atom : {s : Settings} {m : ℕ} {t u : List ℕ} {h : Tree} → PlainAtom s t h u → Atom s m t h 0 m u
    group : {s s' s'' : Settings} {m n d : ℕ} {t u v w : List ℕ} {h : Tree} {hs : List Tree} {k : Capture} → Opening s t s' k v
        → Branches s' (opened m k) v h hs d s'' n w → w ≡ 41 ∷ u → Atom s m t (grouped m k (alternation_of h hs)) (d + 1) n u

  -- a concatenation, like an atom, with its trees and the settings after it
  pub data Items : Settings → ℕ → List ℕ → List Tree → ℕ → Settings → ℕ → List ℕ → Type 0 where
    ended : {s : Settings} {m : ℕ} {t : List ℕ} → Stops goes_on t → Items s m t [] 0 s m t
    setting : {s s' s'' : Settings} {m n d : ℕ} {t u v : List ℕ} {hs : List Tree} → Setting s t s' v → Items s' m v hs d s'' n u → Items s m t hs d s'' n u
    item : {s s' : Settings} {m n k d e f : ℕ} {t u v w : List ℕ} {h g : Tree} {hs : List Tree} → Atom s m t h d k v
        → Postfixes s.swap_greed h d v g e w → Items s k w hs f s' n u → Items s m t (g ∷ hs) (max e f) s' n u

  -- the branches of an alternation, at least one
  pub data Branches : Settings → ℕ → List ℕ → Tree → List Tree → ℕ → Settings → ℕ → List ℕ → Type 0 where
    last : {s s' : Settings} {m n d : ℕ} {t u : List ℕ} {hs : List Tree} → Items s m t hs d s' n u → Stops goes_on_in_branches u → Branches s m t (concat_of hs) [] d s' n u
    bar : {s s' s'' : Settings} {m n k d e : ℕ} {t u v w : List ℕ} {g : Tree} {hs gs : List Tree} → Items s m t hs d s' k v → v ≡ 124 ∷ w
        → Branches s' k w g gs e s'' n u → Branches s m t (concat_of hs) (g ∷ gs) (max d e) s'' n u

-- with these settings the text, of at most 65,536 bytes of UTF-8, has this tree
pub record Spells (text : List ℕ) (settings : Settings) (tree : Tree) : Type 0 where
  pub first : Tree
  pub others : List Tree
  pub depth : ℕ
  pub groups : ℕ
  pub settings_after : Settings
  pub whole : Branches settings 0 text first others depth settings_after groups []
  pub tree_is : tree ≡ alternation_of first others
  pub nesting : depth ≤ settings.nest_limit
  pub names : AllPairs (λ a b. a ≢ b) (names_of tree)
  pub size : length (encode_utf8_all text) ≤ 65536

-- the text has no tree
abbrev pub SpellsNothing : List ℕ → Settings → Type 0
SpellsNothing text settings = (tree : Tree) → Spells text settings tree → ⊥

-- the same settings with another nest limit
abbrev pub with_limit : ℕ → Settings → Settings
with_limit limit settings = record settings { nest_limit = limit }

-- the text has no tree with any nest limit
abbrev pub NeverSpells : List ℕ → Settings → Type 0
NeverSpells text settings = (limit : ℕ) → SpellsNothing text (with_limit limit settings)

-- the text has no tree, but has one with a greater nest limit
pub record IsTooDeep (text : List ℕ) (settings : Settings) : Type 0 where
  pub nothing : SpellsNothing text settings
  pub limit : ℕ
  pub tree : Tree
  pub spells : Spells text (with_limit limit settings) tree
