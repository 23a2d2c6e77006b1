-- An atom that is no group is decided.
use Rattle.std.proofs.Common.{◌≡◌, ◌⊎◌, inl, inr, ℕ, suc, ◌<◌, Bool, true, false, List, [], ◌∷◌, Option, Some, None, if◌then◌else◌, refl, ap, ◌∙◌, arith}
use Rattle.std.proofs.lemmas.Bool.{cases_eq, cases_Bool}
use Rattle.rx_sets.proofs.Decisions.{Decided, decided_le, decided_not}
use Rattle.rx_sets.proofs.SetDecisions.{decided_folded, decided_perl, decided_class, set_of}
use Rattle.rx_grammar.specs.declared.hir.Look.{Look}
use Rattle.rx_grammar.specs.declared.hir.Look.TheVariants.{Start, End, StartLine, EndLine}
use Rattle.rx_grammar.specs.Settings.{Settings}
use Rattle.rx_grammar.specs.Sets.{Range, IsSetOf, Folded, InPerl}
use Rattle.rx_grammar.specs.Trees.{Tree, one_of, look_at}
use Rattle.rx_grammar.specs.Escapes.{look_of}
use Rattle.rx_grammar.specs.Classes.{InClass}
use Rattle.rx_grammar.specs.Readers.{SpellsNoCharacter, IsNoClassLetter}
use Rattle.rx_grammar.specs.Grammar.{is_literal, InDot, IsDotAllowed, Escape, character, letter_class, look, PlainAtom, literal, dot, caret, dollar, escape, class}
use Rattle.rx_grammar.specs.Atoms.{NoEscape, NoPlainAtom}
use Rattle.rx_grammar.proofs.InputLemmas.{first_is, apart, told_apart}
use Rattle.rx_grammar.proofs.AtomLaws.{no_escape_atom, no_class_atom}
use Rattle.rx_grammar.proofs.ShorterLaws.{plain_shorter}
use Rattle.rx_grammar.proofs.EscapeDecisions.{character_or_none}
use Rattle.rx_grammar.proofs.ClassDecisions.{class_letter_or_none, class_or_none}

-- the sets of atoms
set_of_character : (s : Settings) (c : ℕ) → (ranges : List Range) × IsSetOf ranges (Folded s (λ d. d ≡ c))
set_of_character s c = set_of (Folded s (λ d. d ≡ c)) (decided_folded s.case_insensitive (λ d. d ≡ c) (λ d. cases_eq d c))

set_of_dot : (s : Settings) → (ranges : List Range) × IsSetOf ranges (InDot s)
set_of_dot s = set_of (InDot s) (by_flag s.dot_matches_new_line)
  where
    by_flag : (any : Bool) (c : ℕ) → Decided (elim any as (λ x. Type 0) [ true ↦ Unit {0} | false ↦ c ≡ s.line_terminator → ⊥ ])
    by_flag true c = inl tt
    by_flag false c = decided_not (c ≡ s.line_terminator) (cases_eq c s.line_terminator)

decided_dot : (s : Settings) → Decided (IsDotAllowed s)
decided_dot s = by_flag s.dot_matches_new_line
  where
    by_flag : (any : Bool) → Decided (elim any as (λ x. Type 0) [ true ↦ Unit {0} | false ↦ s.line_terminator < 128 ])
    by_flag true = inl tt
    by_flag false = decided_le (suc s.line_terminator) 128

no_escape : {s : Settings} {letter : ℕ} {v u : List ℕ} {h : Tree} → SpellsNoCharacter (letter ∷ v) → IsNoClassLetter letter → look_of letter ≡ None → Escape s (letter ∷ v) h u → ⊥
no_escape none no_letter no_look (character one is) = none _ _ one
no_escape none no_letter no_look (letter_class kind negated e is) = no_letter kind negated (first_is refl e)
no_escape {letter = letter} none no_letter no_look (look {asked = asked} letter' e f) =
    let both : look_of letter ≡ Some asked = ap look_of (first_is refl e) ∙ f in
    absurd (cc)

no_escape_at_end : {s : Settings} {u : List ℕ} {h : Tree} → SpellsNoCharacter [] → Escape s [] h u → ⊥
no_escape_at_end none (character one is) = none _ _ one
no_escape_at_end none (letter_class kind negated e is) = absurd (cc)
no_escape_at_end none (look letter e f) = absurd (cc)

escape_or_none : (s : Settings) (t : List ℕ) → ((h : Tree) × (u : List ℕ) × Escape s t h u) ⊎ NoEscape s t
escape_or_none s t = elim (character_or_none t) [
  | inl found ↦ let set = set_of_character s found.0 in inl (one_of set.0, found.1, character found.2 set.1)
  | inr none ↦ by_letter s t none
]
  where
    by_look : (s : Settings) (letter : ℕ) (v : List ℕ) → SpellsNoCharacter (letter ∷ v) → IsNoClassLetter letter → (asked : Option Look) → look_of letter ≡ asked
        → ((h : Tree) × (u : List ℕ) × Escape s (letter ∷ v) h u) ⊎ NoEscape s (letter ∷ v)
    by_look s letter v none no_letter None is = inr (λ h u one. no_escape none no_letter is one)
    by_look s letter v none no_letter (Some asked) is = inl (look_at asked, v, look letter refl is)

    by_letter : (s : Settings) (t : List ℕ) → SpellsNoCharacter t → ((h : Tree) × (u : List ℕ) × Escape s t h u) ⊎ NoEscape s t
    by_letter s [] none = inr (λ h u one. no_escape_at_end none one)
    by_letter s (letter ∷ v) none = elim (class_letter_or_none letter) [
      | inr no_letter ↦ by_look s letter v none no_letter (look_of letter) refl
      | inl named ↦
          let set = set_of (InPerl named.0 named.1) (decided_perl named.0 named.1) in
          inl (one_of set.0, v, letter_class named.0 named.1 (ap (λ x. x ∷ v) named.2) set.1)
    ]

no_dot : {s : Settings} {c : ℕ} {v u : List ℕ} {h : Tree} → c ≡ 46 → (IsDotAllowed s → ⊥) → PlainAtom s (c ∷ v) h u → ⊥
no_dot {v = v} is none (literal e is_one set) = told_apart is_literal e (ap (λ x. x ∷ v) is) is_one refl
no_dot {v = v} is none (dot e allowed set) = none allowed
no_dot {v = v} is none (caret e) = apart e (ap (λ x. x ∷ v) is) refl
no_dot {v = v} is none (dollar e) = apart e (ap (λ x. x ∷ v) is) refl
no_dot {v = v} is none (escape e one) = apart e (ap (λ x. x ∷ v) is) refl
no_dot {v = v} is none (class e one set) = apart e (ap (λ x. x ∷ v) is) refl

no_other_atom : {s : Settings} {c : ℕ} {v u : List ℕ} {h : Tree} → (c ≡ 46 → ⊥) → (c ≡ 94 → ⊥) → (c ≡ 36 → ⊥) → (c ≡ 92 → ⊥) → (c ≡ 91 → ⊥) → is_literal c ≡ false → PlainAtom s (c ∷ v) h u → ⊥
no_other_atom no_dot no_caret no_dollar no_backslash no_bracket fails (literal e is_one set) = told_apart is_literal e refl is_one fails
no_other_atom no_dot no_caret no_dollar no_backslash no_bracket fails (dot e allowed set) = no_dot (first_is refl e)
no_other_atom no_dot no_caret no_dollar no_backslash no_bracket fails (caret e) = no_caret (first_is refl e)
no_other_atom no_dot no_caret no_dollar no_backslash no_bracket fails (dollar e) = no_dollar (first_is refl e)
no_other_atom no_dot no_caret no_dollar no_backslash no_bracket fails (escape e one) = no_backslash (first_is refl e)
no_other_atom no_dot no_caret no_dollar no_backslash no_bracket fails (class e one set) = no_bracket (first_is refl e)

-- a text begins with an atom that is no group, or doesn't
pub plain_or_none : (s : Settings) (t : List ℕ) → ((h : Tree) × (u : List ℕ) × PlainAtom s t h u) ⊎ NoPlainAtom s t
plain_or_none s [] = inr (λ h u one. absurd (omega (arith, plain_shorter one)))
plain_or_none s (c ∷ v) = elim (cases_eq c 46) [
  | inl e ↦ elim (decided_dot s) [
    | inr none ↦ inr (λ h u one. no_dot e none one)
    | inl allowed ↦ let set = set_of_dot s in inl (one_of set.0, v, dot (ap (λ x. x ∷ v) e) allowed set.1)
  ]
  | inr no_dot ↦ elim (cases_eq c 94) [
    | inl e ↦ inl (look_at (if s.multi_line then StartLine else Start), v, caret (ap (λ x. x ∷ v) e))
    | inr no_caret ↦ elim (cases_eq c 36) [
      | inl e ↦ inl (look_at (if s.multi_line then EndLine else End), v, dollar (ap (λ x. x ∷ v) e))
      | inr no_dollar ↦ elim (cases_eq c 92) [
        | inl e ↦ elim (escape_or_none s v) [
          | inr none ↦ inr (no_escape_atom (ap (λ x. x ∷ v) e) none)
          | inl found ↦ inl (found.0, found.1, escape (ap (λ x. x ∷ v) e) found.2)
        ]
        | inr no_backslash ↦ elim (cases_eq c 91) [
          | inl e ↦ elim (class_or_none v) [
            | inr none ↦ inr (no_class_atom (ap (λ x. x ∷ v) e) none)
            | inl found ↦
                let set = set_of (InClass s found.0 found.1) (decided_class s.case_insensitive found.0 found.1) in
                inl (one_of set.0, found.2, class (ap (λ x. x ∷ v) e) found.3 set.1)
          ]
          | inr no_bracket ↦ elim (cases_Bool (is_literal c)) [
            | inr fails ↦ inr (λ h u one. no_other_atom no_dot no_caret no_dollar no_backslash no_bracket fails one)
            | inl is ↦ let set = set_of_character s c in inl (one_of set.0, v, literal refl is set.1)
          ]
        ]
      ]
    ]
  ]
]
