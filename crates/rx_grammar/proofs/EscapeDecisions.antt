-- What a backslash spells with the characters after it is decidable.
use Rattle.std.proofs.Common.{◌≡◌, ◌⊎◌, inl, inr, ℕ, ◌≤◌, List, [], ◌∷◌, ◌++◌, length, take, drop, Option, Some, None, refl, sym, ap, subst, ◌∙◌, arith, take-append-drop}
use Rattle.std.proofs.lemmas.Bool.{cases_eq, cases_lt}
use Rattle.std.proofs.lemmas.List.{length-take-le}
use Rattle.std.specs.Char.{is_ascii_hexdigit}
use Rattle.rx_sets.proofs.Decisions.{decided_le, decided_both}
use Rattle.rx_sets.proofs.SetDecisions.{decided_scalar}
use Rattle.rx_grammar.specs.declared.input.CharacterTest.TheVariants.{HexDigit}
use Rattle.rx_grammar.specs.Sets.{IsScalar}
use Rattle.rx_grammar.specs.Escapes.{hex_after, SpellsScalar, NumberOfLength, NumberInBraces, NumberAfter, unbraced, braced, EscapedCharacter, two_digits, four_digits, escaped_by}
use Rattle.rx_grammar.specs.Readers.{SplitsFront, SpellsNoCharacter, NoNumberOfLength, NoNumberInBraces, NoNumberAfter}
use Rattle.rx_grammar.proofs.InputLemmas.{Begins-from}
use Rattle.rx_grammar.proofs.ReaderLemmas.{braces_read, length_read, braced_read, unbraced_read, x_read, u_read, other_read, escaped_by-reads}
use Rattle.rx_grammar.proofs.ClassLaws.{escape_shorter}
use Rattle.rx_grammar.proofs.InputDecisions.{begins_or_not, decided_all, front_of}

scalar_or_none : (digits : List ℕ) → ((c : ℕ) × SpellsScalar digits c) ⊎ ((c : ℕ) → SpellsScalar digits c → ⊥)
scalar_or_none digits = elim (decided_all is_ascii_hexdigit digits) [
  | inr none ↦ inr (λ c spells. none spells.hex)
  | inl hex ↦ elim (decided_scalar (hex_after 0 digits)) [
    | inr none ↦ inr (λ c spells. none (subst IsScalar (sym spells.value) spells.scalar))
    | inl scalar ↦ inl (hex_after 0 digits, record { hex = hex; value = refl; scalar = scalar })
  ]
]

number_of_length_or_none : (count : ℕ) (t : List ℕ) → ((c : ℕ) × (u : List ℕ) × NumberOfLength count t c u) ⊎ NoNumberOfLength count t
number_of_length_or_none count t = elim (cases_lt (length t) count) [
  | inl short ↦ inr (λ c u number. absurd (omega (arith, (length_read number).0)))
  | inr long ↦ elim (scalar_or_none (take count t)) [
    | inr none ↦ inr (λ c u number. none c (length_read number).2)
    | inl found ↦ inl (
      found.0,
      drop count t,
      record { digits = take count t; whole = sym (take-append-drop count t); long = length-take-le count t long; spells = found.1 },
    )
  ]
]

number_in_braces_or_none : (t : List ℕ) → ((c : ℕ) × (u : List ℕ) × NumberInBraces t c u) ⊎ NoNumberInBraces t
number_in_braces_or_none t = by_front (front_of HexDigit t)
  where
    by_front : (front : List ℕ) × (rest : List ℕ) × SplitsFront HexDigit t front rest → ((c : ℕ) × (u : List ℕ) × NumberInBraces t c u) ⊎ NoNumberInBraces t
    by_front split = elim (begins_or_not 125 split.1) [
      | inr unclosed ↦ inr (λ c u number. unclosed (Begins-from (braces_read split.2 number).0))
      | inl closed ↦ elim (decided_both (1 ≤ length split.0) (length split.0 ≤ 8) (decided_le 1 (length split.0)) (decided_le (length split.0) 8)) [
        | inr unfit ↦ inr (λ c u number. let read = braces_read split.2 number in unfit (read.1, read.2))
        | inl fits ↦ elim (scalar_or_none split.0) [
          | inr none ↦ inr (λ c u number. none c (braces_read split.2 number).3)
          | inl found ↦ inl (
            found.0,
            closed.0,
            record { digits = split.0; whole = split.2.whole ∙ ap (λ x. split.0 ++ x) closed.1; some = fits.0; few = fits.1; spells = found.1 },
          )
        ]
      ]
    ]

number_after_or_none : (count : ℕ) (t : List ℕ) → 1 ≤ count → ((c : ℕ) × (u : List ℕ) × NumberAfter count t c u) ⊎ NoNumberAfter count t
number_after_or_none count t some = elim (begins_or_not 123 t) [
  | inl brace ↦ elim (number_in_braces_or_none brace.0) [
    | inr none ↦ inr (λ c u number. none c u (braced_read some brace.1 number))
    | inl found ↦ inl (found.0, found.1, braced brace.1 found.2)
  ]
  | inr closed ↦ elim (number_of_length_or_none count t) [
    | inr none ↦ inr (λ c u number. none c u (unbraced_read closed number))
    | inl found ↦ inl (found.0, found.1, unbraced found.2)
  ]
]

-- after a backslash a text spells a character, or none
pub character_or_none : (t : List ℕ) → ((c : ℕ) × (u : List ℕ) × EscapedCharacter t c u) ⊎ SpellsNoCharacter t
character_or_none [] = inr (λ c u one. absurd (omega (arith, escape_shorter one)))
character_or_none (letter ∷ v) = elim (cases_eq letter 120) [
  | inl x ↦ elim (number_after_or_none 2 v (omega arith)) [
    | inr none ↦ inr (λ c u one. none c u (x_read (ap (λ y. y ∷ v) x) one))
    | inl found ↦ inl (found.0, found.1, two_digits (ap (λ y. y ∷ v) x) found.2)
  ]
  | inr no_x ↦ elim (cases_eq letter 117) [
    | inl x ↦ elim (number_after_or_none 4 v (omega arith)) [
      | inr none ↦ inr (λ c u one. none c u (u_read (ap (λ y. y ∷ v) x) one))
      | inl found ↦ inl (found.0, found.1, four_digits (ap (λ y. y ∷ v) x) found.2)
    ]
    | inr no_u ↦ by_letter no_x no_u (escaped_by letter) refl
  ]
]
  where
    by_letter : {letter : ℕ} {v : List ℕ} → (letter ≡ 120 → ⊥) → (letter ≡ 117 → ⊥) → (named : Option ℕ) → escaped_by letter ≡ named
        → ((c : ℕ) × (u : List ℕ) × EscapedCharacter (letter ∷ v) c u) ⊎ SpellsNoCharacter (letter ∷ v)
    by_letter {letter = letter} {v = v} no_x no_u None is = inr (λ c u one. let e : escaped_by letter ≡ Some c = other_read refl no_x no_u one in absurd (cc))
    by_letter {letter = letter} {v = v} no_x no_u (Some c) is = inl (c, v, escaped_by-reads letter refl is)
