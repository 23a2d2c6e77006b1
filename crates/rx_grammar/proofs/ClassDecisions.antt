-- The contents of brackets are decidable.
use Rattle.std.proofs.Common.{◌≡◌, ◌⊎◌, inl, inr, ℕ, zero, suc, ◌≤◌, Bool, true, false, List, [], ◌∷◌, length, refl, sym, ap, subst, ◌∙◌, arith, true≢false}
use Rattle.std.proofs.lemmas.Bool.{cases_eq, cases_Bool}
use Rattle.rx_sets.specs.declared.items.ClassPerlKind.{ClassPerlKind}
use Rattle.rx_sets.specs.declared.items.ClassPerlKind.TheVariants.{Digit, Space, Word}
use Rattle.rx_sets.specs.declared.items.ClassItem.{ClassItem}
use Rattle.rx_sets.specs.declared.items.ClassItem.TheVariants.{Span, Perl}
use Rattle.rx_sets.proofs.Decisions.{decided_le}
use Rattle.rx_grammar.specs.Input.{Begins}
use Rattle.rx_grammar.specs.Escapes.{perl_letter}
use Rattle.rx_grammar.specs.Classes.{is_class_literal, doubles, ClassCharacter, itself, escaped, GoesOnAsRange, OneItem, character, range, letter_class, ClassItems, closed, last_hyphen, further, ClassBody, bracket_first, hyphen_first, other_first, Class, plain, negation}
use Rattle.rx_grammar.specs.Readers.{RangeGoesOn, IsNoClassLetter, NoClassCharacter, NoLetterClass, NoItem, NoItems, NoClassBody, NoClass}
use Rattle.rx_grammar.proofs.InputLemmas.{first_is, rest_is, apart, told_apart, Begins-from}
use Rattle.rx_grammar.proofs.ClassLaws.{class_character_unique, escaped_read, range_read, item_shorter, ReadsUpTo-none, ReadsUpTo-more, ends_read, no_bracket_body, no_hyphen_body, no_other_body, no_negated, no_plain}
use Rattle.rx_grammar.proofs.InputDecisions.{begins_or_not}
use Rattle.rx_grammar.proofs.EscapeDecisions.{character_or_none}

-- a character that isn't an item of a class by itself
no_literal : {b c : ℕ} {v u : List ℕ} → is_class_literal b ≡ false → (b ≡ 92 → ⊥) → ClassCharacter (b ∷ v) c u → ⊥
no_literal fails no_escape (itself e literal single) = told_apart is_class_literal e refl literal fails
no_literal fails no_escape (escaped e one) = no_escape (first_is refl e)

no_double : {b c : ℕ} {v u : List ℕ} → doubles b ≡ true → Begins b v → (b ≡ 92 → ⊥) → ClassCharacter (b ∷ v) c u → ⊥
no_double {b = b} {u = u} doubled again no_escape (itself e literal single) =
    let same = first_is refl e in
    single (subst (λ x. doubles x ≡ true) same doubled) (subst (λ x. Begins x u) same (subst (Begins b) (rest_is refl e) again))
no_double doubled again no_escape (escaped e one) = no_escape (first_is refl e)

no_character : {c : ℕ} {u : List ℕ} → ClassCharacter [] c u → ⊥
no_character (itself e literal single) = absurd (cc)
no_character (escaped e one) = absurd (cc)

class_character_or_none : (t : List ℕ) → ((c : ℕ) × (u : List ℕ) × ClassCharacter t c u) ⊎ NoClassCharacter t
class_character_or_none [] = inr (λ c u one. no_character one)
class_character_or_none (b ∷ v) = elim (cases_eq b 92) [
  | inl e ↦ elim (character_or_none v) [
    | inr none ↦ inr (λ c u one. none c u (escaped_read (ap (λ x. x ∷ v) e) one))
    | inl found ↦ inl (found.0, found.1, escaped (ap (λ x. x ∷ v) e) found.2)
  ]
  | inr no_escape ↦ elim (cases_Bool (is_class_literal b)) [
    | inr fails ↦ inr (λ c u one. no_literal fails no_escape one)
    | inl literal ↦ elim (cases_Bool (doubles b)) [
      | inr single ↦ inl (b, v, itself refl literal (λ doubled begins. true≢false (sym doubled ∙ single)))
      | inl doubled ↦ elim (begins_or_not b v) [
        | inr alone ↦ inl (b, v, itself refl literal (λ _ begins. alone begins))
        | inl again ↦ inr (λ c u one. no_double doubled (Begins-from again.1) no_escape one)
      ]
    ]
  ]
]

pub class_letter_or_none : (letter : ℕ) → ((kind : ClassPerlKind) × (negated : Bool) × (letter ≡ perl_letter kind negated)) ⊎ IsNoClassLetter letter
class_letter_or_none letter = elim (cases_eq letter 100) [
  | inl e ↦ inl (Digit, false, e)
  | inr no_d ↦ elim (cases_eq letter 68) [
    | inl e ↦ inl (Digit, true, e)
    | inr no_D ↦ elim (cases_eq letter 115) [
      | inl e ↦ inl (Space, false, e)
      | inr no_s ↦ elim (cases_eq letter 83) [
        | inl e ↦ inl (Space, true, e)
        | inr no_S ↦ elim (cases_eq letter 119) [
          | inl e ↦ inl (Word, false, e)
          | inr no_w ↦ elim (cases_eq letter 87) [
            | inl e ↦ inl (Word, true, e)
            | inr no_W ↦ inr (none no_d no_D no_s no_S no_w no_W)
          ]
        ]
      ]
    ]
  ]
]
  where
    none : {letter : ℕ} → (letter ≡ 100 → ⊥) → (letter ≡ 68 → ⊥) → (letter ≡ 115 → ⊥) → (letter ≡ 83 → ⊥) → (letter ≡ 119 → ⊥) → (letter ≡ 87 → ⊥) → IsNoClassLetter letter
    none no_d no_D no_s no_S no_w no_W Digit false e = no_d e
    none no_d no_D no_s no_S no_w no_W Digit true e = no_D e
    none no_d no_D no_s no_S no_w no_W Space false e = no_s e
    none no_d no_D no_s no_S no_w no_W Space true e = no_S e
    none no_d no_D no_s no_S no_w no_W Word false e = no_w e
    none no_d no_D no_s no_S no_w no_W Word true e = no_W e

letter_class_or_none : (t : List ℕ) → ((kind : ClassPerlKind) × (negated : Bool) × (u : List ℕ) × (t ≡ 92 ∷ perl_letter kind negated ∷ u)) ⊎ NoLetterClass t
letter_class_or_none [] = inr (λ kind negated u e. absurd (cc))
letter_class_or_none (b ∷ []) = inr (λ kind negated u e. let same : [] ≡ perl_letter kind negated ∷ u = rest_is refl e in absurd (cc))
letter_class_or_none (b ∷ letter ∷ u) = elim (cases_eq b 92) [
  | inr other ↦ inr (λ kind negated v e. other (first_is refl e))
  | inl backslash ↦ elim (class_letter_or_none letter) [
    | inr none ↦ inr (λ kind negated v e. none kind negated (first_is refl (rest_is refl e)))
    | inl named ↦ inl (named.0, named.1, u, ap (λ x. x ∷ letter ∷ u) backslash ∙ ap (λ x. 92 ∷ x ∷ u) named.2)
  ]
]

range_goes_on_or_not : (t : List ℕ) → ((u : List ℕ) × RangeGoesOn t u) ⊎ (GoesOnAsRange t → ⊥)
range_goes_on_or_not [] = inr (λ goes. goes)
range_goes_on_or_not (c ∷ u) = elim (cases_eq c 45) [
  | inr other ↦ inr (λ goes. other goes.0)
  | inl e ↦ elim (begins_or_not 93 u) [
    | inl closes ↦ inr (λ goes. goes.1 (Begins-from closes.1))
    | inr unclosed ↦ inl (u, record { hyphen = ap (λ x. x ∷ u) e; open_end = unclosed })
  ]
]

no_item : {t u : List ℕ} {item : ClassItem} → NoLetterClass t → NoClassCharacter t → OneItem t item u → ⊥
no_item no_letter none (character one alone) = none _ _ one
no_item no_letter none (range one e high order) = none _ _ one
no_item no_letter none (letter_class kind negated e) = no_letter kind negated _ e

item_or_none : (t : List ℕ) → ((item : ClassItem) × (u : List ℕ) × OneItem t item u) ⊎ NoItem t
item_or_none t = elim (letter_class_or_none t) [
  | inl found ↦ inl (Perl found.0 found.1, found.2, letter_class found.0 found.1 found.3)
  | inr no_letter ↦ elim (class_character_or_none t) [
    | inr none ↦ inr (λ item u one. no_item no_letter none one)
    | inl low ↦ elim (range_goes_on_or_not low.1) [
      | inr alone ↦ inl (Span low.0 low.0, low.1, character low.2 alone)
      | inl on ↦ elim (class_character_or_none on.0) [
        | inr none ↦ inr (λ item u one. let read = range_read no_letter low.2 on.1 one in none read.0 u read.1)
        | inl high ↦ elim (decided_le low.0 high.0) [
          | inl order ↦ inl (Span low.0 high.0, high.1, range low.2 on.1.hyphen high.2 order)
          | inr none ↦ inr (λ item u one.
              let read = range_read no_letter low.2 on.1 one in
              none (subst (λ x. low.0 ≤ x) (class_character_unique read.1 high.2).0 read.2))
        ]
      ]
    ]
  ]
]

-- without an item, the class closes or isn't one
end_or_none : (t : List ℕ) → NoItem t → ((items : List ClassItem) × (u : List ℕ) × ClassItems t items u) ⊎ NoItems t
end_or_none t none = elim (begins_or_not 93 t) [
  | inl here ↦ inl ([], here.0, closed here.1)
  | inr unclosed ↦ elim (begins_or_not 45 t) [
    | inr no_hyphen ↦ inr (ends_read none unclosed (λ v u e f. no_hyphen (Begins-from e)))
    | inl hyphen ↦ elim (begins_or_not 93 hyphen.0) [
      | inl here ↦ inl (Span 45 45 ∷ [], here.0, last_hyphen hyphen.1 here.1)
      | inr no_end ↦ inr (ends_read none unclosed (λ v u e f. no_end (Begins-from (rest_is hyphen.1 e ∙ f))))
    ]
  ]
]

items_or_none : (fuel : ℕ) (t : List ℕ) → length t ≤ fuel → ((items : List ClassItem) × (u : List ℕ) × ClassItems t items u) ⊎ NoItems t
items_or_none zero t long = elim (item_or_none t) [
  | inl one ↦ absurd (omega (arith, long, item_shorter one.2))
  | inr none ↦ end_or_none t none
]
items_or_none (suc fuel) t long = elim (item_or_none t) [
  | inr none ↦ end_or_none t none
  | inl one ↦ elim (items_or_none fuel one.1 (omega (arith, long, item_shorter one.2))) [
    | inl others ↦ inl (one.0 ∷ others.0, others.1, further one.2 others.2)
    | inr none ↦ inr ((ReadsUpTo-more (ReadsUpTo-none [] t) one.2 refl).refutes none)
  ]
]

no_two_hyphens : {t v u : List ℕ} {items : List ClassItem} → t ≡ 45 ∷ v → Begins 45 v → ClassBody t items u → ⊥
no_two_hyphens e again (bracket_first e' rest) = apart e e' refl
no_two_hyphens e again (hyphen_first e' single rest) = single (subst (Begins 45) (rest_is e e') again)
no_two_hyphens e again (other_first no_bracket no_hyphen rest) = no_hyphen (Begins-from e)

class_body_or_none : (t : List ℕ) → ((items : List ClassItem) × (u : List ℕ) × ClassBody t items u) ⊎ NoClassBody t
class_body_or_none t = elim (begins_or_not 93 t) [
  | inl bracket ↦ elim (items_or_none (length bracket.0) bracket.0 (omega arith)) [
    | inr none ↦ inr (no_bracket_body bracket.1 none)
    | inl found ↦ inl (Span 93 93 ∷ found.0, found.1, bracket_first bracket.1 found.2)
  ]
  | inr no_bracket ↦ elim (begins_or_not 45 t) [
    | inl hyphen ↦ elim (begins_or_not 45 hyphen.0) [
      | inl again ↦ inr (λ items u body. no_two_hyphens hyphen.1 (Begins-from again.1) body)
      | inr single ↦ elim (items_or_none (length hyphen.0) hyphen.0 (omega arith)) [
        | inr none ↦ inr (no_hyphen_body hyphen.1 none)
        | inl found ↦ inl (Span 45 45 ∷ found.0, found.1, hyphen_first hyphen.1 single found.2)
      ]
    ]
    | inr no_hyphen ↦ elim (items_or_none (length t) t (omega arith)) [
      | inr none ↦ inr (no_other_body no_bracket no_hyphen none)
      | inl found ↦ inl (found.0, found.1, other_first no_bracket no_hyphen found.2)
    ]
  ]
]

-- after a [ a text spells a class, or none
pub class_or_none : (t : List ℕ) → ((negated : Bool) × (items : List ClassItem) × (u : List ℕ) × Class t negated items u) ⊎ NoClass t
class_or_none t = elim (begins_or_not 94 t) [
  | inl caret ↦ elim (class_body_or_none caret.0) [
    | inr none ↦ inr (no_negated caret.1 none)
    | inl found ↦ inl (true, found.0, found.1, negation caret.1 found.2)
  ]
  | inr no_caret ↦ elim (class_body_or_none t) [
    | inr none ↦ inr (no_plain no_caret none)
    | inl found ↦ inl (false, found.0, found.1, plain no_caret found.2)
  ]
]
