-- What follows an atom is decidable.
use Rattle.std.proofs.Common.{◌≡◌, ◌⊎◌, inl, inr, ℕ, zero, suc, ◌+◌, ◌≤◌, Bool, not, List, [], ◌∷◌, length, Option, Some, None, refl, sym, ap, subst, arith}
use Rattle.std.proofs.lemmas.Bool.{cases_eq}
use Rattle.rx_sets.proofs.Decisions.{decided_le, decided_both}
use Rattle.rx_grammar.specs.declared.input.CharacterTest.TheVariants.{Digit}
use Rattle.rx_grammar.specs.declared.hir.Repetition.{Repetition}
use Rattle.rx_grammar.specs.Trees.{Tree, repeated}
use Rattle.rx_grammar.specs.Input.{Begins, Stops}
use Rattle.rx_grammar.specs.Readers.{SplitsFront, NoNumber, NoCountInBraces, NoCount, NoPostfix}
use Rattle.rx_grammar.specs.Repetitions.{decimal_after, Number, CountInBraces, exactly, at_least, between, Count, star, plus, question, in_braces, repetition, Postfix, alone, marked, is_postfix_start, Postfixes, ended, further}
use Rattle.rx_grammar.specs.Stacks.{NoPostfixes}
use Rattle.rx_grammar.proofs.InputLemmas.{first_is}
use Rattle.rx_grammar.proofs.ReaderLemmas.{number_read}
use Rattle.rx_grammar.proofs.RepetitionLaws.{number_unique, postfix_unique, postfixes_along, no_count, no_end, second_number, braces_read, no_postfix}
use Rattle.rx_grammar.proofs.ShorterLaws.{postfix_shorter}
use Rattle.rx_grammar.proofs.InputDecisions.{begins_or_not, decided_stops, front_of}

number_or_none : (t : List ℕ) → ((n : ℕ) × (u : List ℕ) × Number t n u) ⊎ NoNumber t
number_or_none t = by_front (front_of Digit t)
  where
    by_front : (front : List ℕ) × (rest : List ℕ) × SplitsFront Digit t front rest → ((n : ℕ) × (u : List ℕ) × Number t n u) ⊎ NoNumber t
    by_front split = elim (decided_both (1 ≤ length split.0) (decimal_after 0 split.0 ≤ 65535) (decided_le 1 (length split.0)) (decided_le (decimal_after 0 split.0) 65535)) [
      | inr unfit ↦ inr (λ n u number.
          let read = number_read split.2 number in
          unfit (read.1, subst (λ x. x ≤ 65535) (sym read.2) read.3))
      | inl fits ↦ inl (
        decimal_after 0 split.0,
        split.1,
        record { digits = split.0; whole = split.2.whole; decimal = split.2.all; some = fits.0; ends = split.2.ends; value = refl; fits = fits.1 },
      )
    ]

count_in_braces_or_none : (t : List ℕ) → ((n : ℕ) × (m : Option ℕ) × (u : List ℕ) × CountInBraces t n m u) ⊎ NoCountInBraces t
count_in_braces_or_none t = elim (number_or_none t) [
  | inr none ↦ inr (λ n m u count. no_count none count)
  | inl least ↦ elim (begins_or_not 125 least.1) [
    | inl close ↦ inl (least.0, Some least.0, close.0, exactly least.2 close.1)
    | inr no_close ↦ elim (begins_or_not 44 least.1) [
      | inr no_comma ↦ inr (λ n m u count. no_end least.2 no_close no_comma count)
      | inl comma ↦ elim (begins_or_not 125 comma.0) [
        | inl close ↦ inl (least.0, None, close.0, at_least least.2 comma.1 close.1)
        | inr unclosed ↦ elim (number_or_none comma.0) [
          | inr none ↦ inr (λ n m u count. let second = second_number least.2 comma.1 unclosed count in none second.0 second.1 second.2)
          | inl most ↦ elim (begins_or_not 125 most.1) [
            | inr still_open ↦ inr (λ n m u count.
                let second = second_number least.2 comma.1 unclosed count in
                still_open (subst (Begins 125) (number_unique second.2 most.2).1 second.3))
            | inl close ↦ elim (decided_le least.0 most.0) [
              | inr none ↦ inr (λ n m u count.
                  let second = second_number least.2 comma.1 unclosed count in
                  none (subst (λ x. least.0 ≤ x) (number_unique second.2 most.2).0 second.4))
              | inl order ↦ inl (least.0, Some most.0, close.0, between least.2 comma.1 most.2 close.1 order)
            ]
          ]
        ]
      ]
    ]
  ]
]

no_count_at_end : {u : List ℕ} {n : ℕ} {m : Option ℕ} → Count [] n m u → ⊥
no_count_at_end (star e) = absurd (cc)
no_count_at_end (plus e) = absurd (cc)
no_count_at_end (question e) = absurd (cc)
no_count_at_end (in_braces e inside) = absurd (cc)

no_other_count : {c n : ℕ} {m : Option ℕ} {v u : List ℕ} → (c ≡ 42 → ⊥) → (c ≡ 43 → ⊥) → (c ≡ 63 → ⊥) → (c ≡ 123 → ⊥) → Count (c ∷ v) n m u → ⊥
no_other_count no_star no_plus no_question no_brace (star e) = no_star (first_is refl e)
no_other_count no_star no_plus no_question no_brace (plus e) = no_plus (first_is refl e)
no_other_count no_star no_plus no_question no_brace (question e) = no_question (first_is refl e)
no_other_count no_star no_plus no_question no_brace (in_braces e inside) = no_brace (first_is refl e)

count_or_none : (t : List ℕ) → ((n : ℕ) × (m : Option ℕ) × (u : List ℕ) × Count t n m u) ⊎ NoCount t
count_or_none [] = inr (λ n m u count. no_count_at_end count)
count_or_none (c ∷ v) = elim (cases_eq c 42) [
  | inl e ↦ inl (0, None, v, star (ap (λ x. x ∷ v) e))
  | inr no_star ↦ elim (cases_eq c 43) [
    | inl e ↦ inl (1, None, v, plus (ap (λ x. x ∷ v) e))
    | inr no_plus ↦ elim (cases_eq c 63) [
      | inl e ↦ inl (0, Some 1, v, question (ap (λ x. x ∷ v) e))
      | inr no_question ↦ elim (cases_eq c 123) [
        | inr no_brace ↦ inr (λ n m u count. no_other_count no_star no_plus no_question no_brace count)
        | inl e ↦ elim (count_in_braces_or_none v) [
          | inr none ↦ inr (λ n m u count. none n m u (braces_read (ap (λ x. x ∷ v) e) count))
          | inl found ↦ inl (found.0, found.1, found.2, in_braces (ap (λ x. x ∷ v) e) found.3)
        ]
      ]
    ]
  ]
]

postfix_or_none : (swap : Bool) (t : List ℕ) → ((r : Repetition) × (u : List ℕ) × Postfix swap t r u) ⊎ NoPostfix swap t
postfix_or_none swap t = elim (count_or_none t) [
  | inr none ↦ inr (λ r u postfix. no_postfix none postfix)
  | inl found ↦ elim (begins_or_not 63 found.2) [
    | inl mark ↦ inl (repetition found.0 found.1 swap, mark.0, marked found.3 mark.1)
    | inr none ↦ inl (repetition found.0 found.1 (not swap), found.2, alone found.3 none)
  ]
]

no_first_postfix : {swap : Bool} {h g : Tree} {d e : ℕ} {t u : List ℕ} → (Stops is_postfix_start t → ⊥) → NoPostfix swap t → Postfixes swap h d t g e u → ⊥
no_first_postfix goes_on none (ended stops) = goes_on stops
no_first_postfix goes_on none (further one others) = none _ _ one

no_later_postfix : {swap : Bool} {h g : Tree} {d e : ℕ} {t u v : List ℕ} {r : Repetition} → (Stops is_postfix_start t → ⊥) → Postfix swap t r v
    → NoPostfixes swap (repeated r h) (d + 1) v → Postfixes swap h d t g e u → ⊥
no_later_postfix goes_on one none (ended stops) = goes_on stops
no_later_postfix {h = h} goes_on one none (further one' others) =
    let same = postfix_unique one one' in
    none _ _ _ (postfixes_along (ap (λ r. repeated r h) same.0) refl same.1 others)

-- after a tree a text has postfixes, perhaps none, or something that should be one and isn't
pub postfixes_or_none : (fuel : ℕ) (swap : Bool) (h : Tree) (d : ℕ) (t : List ℕ) → length t ≤ fuel
    → ((g : Tree) × (e : ℕ) × (u : List ℕ) × Postfixes swap h d t g e u) ⊎ NoPostfixes swap h d t
postfixes_or_none zero swap h d [] long = inl (h, d, [], ended tt)
postfixes_or_none zero swap h d (c ∷ v) long = absurd (omega (arith, long))
postfixes_or_none (suc fuel) swap h d t long = elim (decided_stops is_postfix_start t) [
  | inl stops ↦ inl (h, d, t, ended stops)
  | inr goes_on ↦ elim (postfix_or_none swap t) [
    | inr none ↦ inr (λ g e u postfixes. no_first_postfix goes_on none postfixes)
    | inl one ↦ elim (postfixes_or_none fuel swap (repeated one.0 h) (d + 1) one.1 (omega (arith, long, postfix_shorter one.2))) [
      | inr none ↦ inr (λ g e u postfixes. no_later_postfix goes_on one.2 none postfixes)
      | inl found ↦ inl (found.0, found.1, found.2, further one.2 found.3)
    ]
  ]
]
