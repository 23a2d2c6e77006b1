-- Classes in brackets.
use Rattle.std.specs.Prelude.{◌≡◌, ℕ, ◌≤◌, Bool, true, false, not, ◌==◌, ◌||◌, List, [], ◌∷◌}
use Rattle.rx_sets.specs.declared.items.ClassPerlKind.{ClassPerlKind}
use Rattle.rx_sets.specs.declared.items.ClassItem.{ClassItem}
use Rattle.rx_sets.specs.declared.items.ClassItem.TheVariants.{Span, Perl}
use Rattle.rx_grammar.specs.Settings.{Settings}
use Rattle.rx_sets.specs.Items as named
use Rattle.rx_grammar.specs.Input.{Begins}
use Rattle.rx_grammar.specs.Escapes.{EscapedCharacter, perl_letter}

-- a literal anywhere in a class: any character but \ [ ] and -
abbrev pub is_class_literal : ℕ → Bool
is_class_literal c = not ((c == 92) || (c == 91) || (c == 93) || (c == 45))

-- a class refuses && -- and ~~
abbrev pub doubles : ℕ → Bool
doubles c = (c == 38) || (c == 45) || (c == 126)

-- these characters don't start with a second c that would make && -- or ~~ of it
abbrev pub NotDoubled : ℕ → List ℕ → Type 0
NotDoubled c u = doubles c ≡ true → Begins c u → ⊥

-- one character of a class: a literal or an escape
pub data ClassCharacter : List ℕ → ℕ → List ℕ → Type 0 where
  itself : {t u : List ℕ} {c : ℕ} → t ≡ c ∷ u → is_class_literal c ≡ true → NotDoubled c u → ClassCharacter t c u
  escaped : {t u v : List ℕ} {c : ℕ} → t ≡ 92 ∷ v → EscapedCharacter v c u → ClassCharacter t c u

-- a - here is between two ends of a range, unless ] follows
abbrev pub GoesOnAsRange : List ℕ → Type 0
GoesOnAsRange [] = ⊥
GoesOnAsRange (c ∷ u) = (c ≡ 45) × (Begins 93 u → ⊥)

-- one item, and u after it
pub data OneItem : List ℕ → ClassItem → List ℕ → Type 0 where
  character : {t u : List ℕ} {c : ℕ} → ClassCharacter t c u → (GoesOnAsRange u → ⊥) → OneItem t (Span c c) u
  range : {t u v w : List ℕ} {low high : ℕ} → ClassCharacter t low v → v ≡ 45 ∷ w → ClassCharacter w high u → low ≤ high → OneItem t (Span low high) u
  letter_class : {t u : List ℕ} (kind : ClassPerlKind) (negated : Bool) → t ≡ 92 ∷ perl_letter kind negated ∷ u → OneItem t (Perl kind negated) u

-- the items up to the closing ], and u after it
pub data ClassItems : List ℕ → List ClassItem → List ℕ → Type 0 where
  closed : {t u : List ℕ} → t ≡ 93 ∷ u → ClassItems t [] u
  -- a last - is a literal
  last_hyphen : {t u v : List ℕ} → t ≡ 45 ∷ v → v ≡ 93 ∷ u → ClassItems t (Span 45 45 ∷ []) u
  further : {t u v : List ℕ} {item : ClassItem} {items : List ClassItem} → OneItem t item v → ClassItems v items u → ClassItems t (item ∷ items) u

-- a first ] or - is a literal; then no second - follows, and ] starts no range
pub data ClassBody : List ℕ → List ClassItem → List ℕ → Type 0 where
  bracket_first : {t u v : List ℕ} {items : List ClassItem} → t ≡ 93 ∷ v → ClassItems v items u → ClassBody t (Span 93 93 ∷ items) u
  hyphen_first : {t u v : List ℕ} {items : List ClassItem} → t ≡ 45 ∷ v → (Begins 45 v → ⊥) → ClassItems v items u → ClassBody t (Span 45 45 ∷ items) u
  other_first : {t u : List ℕ} {items : List ClassItem} → (Begins 93 t → ⊥) → (Begins 45 t → ⊥) → ClassItems t items u → ClassBody t items u

-- a class, after its [: whether ^ negates it, its items, and u after its ]
pub data Class : List ℕ → Bool → List ClassItem → List ℕ → Type 0 where
  plain : {t u : List ℕ} {items : List ClassItem} → (Begins 94 t → ⊥) → ClassBody t items u → Class t false items u
  negation : {t u v : List ℕ} {items : List ClassItem} → t ≡ 94 ∷ v → ClassBody v items u → Class t true items u

-- the characters of a class: with `i` it is closed under folding before it is negated
abbrev pub InClass : Settings → Bool → List ClassItem → ℕ → Type 0
InClass settings negated items c = named.InClass settings.case_insensitive negated items c
