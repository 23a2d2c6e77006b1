-- Whether a setting or a group opens a text is decided.
use Rattle.std.proofs.Common.{◌≡◌, ◌≢◌, ◌⊎◌, inl, inr, ℕ, ◌≤◌, false, List, [], ◌∷◌, ◌++◌, length, Some, None, AllPairs, refl, sym, ap, ap₂, subst, ◌∙◌, arith, ⊎_elim}
use Rattle.std.proofs.lemmas.Bool.{cases_eq, cases_Bool}
use Rattle.std.proofs.lemmas.Bool.Decides.{nat_tests}
use Rattle.rx_sets.proofs.Decisions.{Decided, decided_le}
use Rattle.rx_grammar.specs.declared.flags.Flag.{Flag}
use Rattle.rx_grammar.specs.declared.flags.Flag.TheVariants.{CaseInsensitive, MultiLine, DotMatchesNewLine, SwapGreed}
use Rattle.rx_grammar.specs.declared.input.CharacterTest.TheVariants.{NameCharacter}
use Rattle.rx_grammar.specs.Settings.{Settings, letter_of}
use Rattle.rx_grammar.specs.Trees.{Name}
use Rattle.rx_grammar.specs.Input.{Begins}
use Rattle.rx_grammar.specs.Readers.{SplitsFront}
use Rattle.rx_grammar.specs.Groups.{is_flag_letter, FlagLetters, Flags, turning_on, turning_off, flagged, Setting, is_name_start, IsName, Capture, numbered, unnumbered, Opening}
use Rattle.rx_grammar.specs.Heads.{NoFlags, NoName, NameOpening, NoNameOpening, NoHead}
use Rattle.rx_grammar.proofs.InputLemmas.{rest_is, Begins-from}
use Rattle.rx_grammar.proofs.GroupLaws.{letter_of-unique, letters_unique, letters_along, flags_unique}
use Rattle.rx_grammar.proofs.HeadLaws.{no_empty_name, no_other_name, no_open_name, name_is, colon_head, name_head, no_name_head, setting_head, changing_head, no_flagged_head, no_marked_head, plain_head}
use Rattle.rx_grammar.proofs.InputDecisions.{begins_or_not, front_of, decided_once}

flag_or_none : (c : ℕ) → ((flag : Flag) × (c ≡ letter_of flag)) ⊎ (is_flag_letter c ≡ false)
flag_or_none c = elim (cases_eq c 105) [
  | inl e ↦ inl (CaseInsensitive, e)
  | inr no_i ↦ elim (cases_eq c 109) [
    | inl e ↦ inl (MultiLine, e)
    | inr no_m ↦ elim (cases_eq c 115) [
      | inl e ↦ inl (DotMatchesNewLine, e)
      | inr no_s ↦ elim (cases_eq c 85) [
        | inl e ↦ inl (SwapGreed, e)
        | inr no_U ↦ inr (no_letter c no_i no_m no_s no_U)
      ]
    ]
  ]
]
  where
    no_letter : (c : ℕ) → c ≢ 105 → c ≢ 109 → c ≢ 115 → c ≢ 85 → is_flag_letter c ≡ false
    no_letter c no_i no_m no_s no_U = grind (arith, nat_tests)

-- the letters of flags that a text begins with, perhaps none
letters_of : (t : List ℕ) → (flags : List Flag) × (u : List ℕ) × FlagLetters t flags u
letters_of [] = ([], [], record { whole = refl; ends = tt })
letters_of (c ∷ u) = elim (flag_or_none c) [
  | inr none ↦ ([], c ∷ u, record { whole = refl; ends = none })
  | inl one ↦
      let more = letters_of u in
      (one.0 ∷ more.0, more.1, record { whole = ap₂ (λ x xs. x ∷ xs) one.1 more.2.whole; ends = more.2.ends })
]

decided_flag : (f g : Flag) → Decided (f ≡ g)
decided_flag f g = elim (cases_eq (letter_of f) (letter_of g)) [
  | inl e ↦ inl (letter_of-unique f g e)
  | inr other ↦ inr (λ e. other (ap letter_of e))
]

abbrev StandOnce : List Flag → Type 0
StandOnce flags = AllPairs (λ a b. a ≢ b) flags

-- flags without a part that is turned off
only_on : {t u v : List ℕ} {flags on off : List Flag} → FlagLetters t flags u → (Begins 45 u → ⊥) → Flags t on off v → (1 ≤ length flags) × StandOnce flags
only_on letters stop (turning_on letters' some stop' once) =
    let same = letters_unique letters letters' in
    (subst (λ l. 1 ≤ length l) (sym same.0) some, subst (λ l. StandOnce l) (sym same.0) once)
only_on letters stop (turning_off letters' minus off some once) =
    absurd (stop (Begins-from ((letters_unique letters letters').1 ∙ minus)))

-- and flags that others follow
on_and_off : {t u v w x : List ℕ} {flags others on off : List Flag} → FlagLetters t flags u → u ≡ 45 ∷ w → FlagLetters w others x → Flags t on off v
    → (1 ≤ length others) × StandOnce (flags ++ others)
on_and_off letters minus letters' (turning_on on some stop once) =
    absurd (stop (Begins-from (sym (letters_unique letters on).1 ∙ minus)))
on_and_off letters minus letters' (turning_off on minus' off some once) =
    let same = letters_unique letters on in
    let same' = letters_unique letters' (letters_along (rest_is minus (same.1 ∙ minus')) off) in
    (subst (λ l. 1 ≤ length l) (sym same'.0) some, subst (λ l. StandOnce l) (sym (ap₂ (λ l m. l ++ m) same.0 same'.0)) once)

flags_or_none : (t : List ℕ) → ((on : List Flag) × (off : List Flag) × (u : List ℕ) × Flags t on off u) ⊎ NoFlags t
flags_or_none t = by_letters (letters_of t)
  where
    by_others : {u : List ℕ} {flags : List Flag} {w : List ℕ} → FlagLetters t flags u → u ≡ 45 ∷ w → (others : List Flag) × (x : List ℕ) × FlagLetters w others x
        → ((on : List Flag) × (off : List Flag) × (u : List ℕ) × Flags t on off u) ⊎ NoFlags t
    by_others {flags = flags} letters minus found = elim (decided_le 1 (length found.0)) [
      | inr none ↦ inr (λ on off u one. none (on_and_off letters minus found.2 one).0)
      | inl some ↦ elim (decided_once Flag decided_flag (flags ++ found.0)) [
        | inr twice ↦ inr (λ on off u one. twice (on_and_off letters minus found.2 one).1)
        | inl once ↦ inl (flags, found.0, found.1, turning_off letters minus found.2 some once)
      ]
    ]

    by_letters : (flags : List Flag) × (u : List ℕ) × FlagLetters t flags u → ((on : List Flag) × (off : List Flag) × (u : List ℕ) × Flags t on off u) ⊎ NoFlags t
    by_letters found = elim (begins_or_not 45 found.1) [
      | inl minus ↦ by_others found.2 minus.1 (letters_of minus.0)
      | inr stop ↦ elim (decided_le 1 (length found.0)) [
        | inr none ↦ inr (λ on off u one. none (only_on found.2 stop one).0)
        | inl some ↦ elim (decided_once Flag decided_flag found.0) [
          | inr twice ↦ inr (λ on off u one. twice (only_on found.2 stop one).1)
          | inl once ↦ inl (found.0, [], found.1, turning_on found.2 some stop once)
        ]
      ]
    ]

name_or_none : (t : List ℕ) → ((name : Name) × (u : List ℕ) × (t ≡ name ++ 62 ∷ u) × IsName name) ⊎ NoName t
name_or_none t = by_front (front_of NameCharacter t)
  where
    by_first : {front rest : List ℕ} → SplitsFront NameCharacter t front rest → (cs : List ℕ) → front ≡ cs → ((name : Name) × (u : List ℕ) × (t ≡ name ++ 62 ∷ u) × IsName name) ⊎ NoName t
    by_first split [] e = inr (no_empty_name split e)
    by_first {front = front} {rest = rest} split (c ∷ cs) e = elim (cases_Bool (is_name_start c)) [
      | inr fails ↦ inr (no_other_name split e fails)
      | inl starts ↦ elim (begins_or_not 62 rest) [
        | inr none ↦ inr (no_open_name split none)
        | inl close ↦ let is = name_is split e starts close.1 in inl (front, close.0, is.1, is.0)
      ]
    ]

    by_front : (front : List ℕ) × (rest : List ℕ) × SplitsFront NameCharacter t front rest → ((name : Name) × (u : List ℕ) × (t ≡ name ++ 62 ∷ u) × IsName name) ⊎ NoName t
    by_front split = by_first split.2 split.0 refl

name_opening_or_none : (t : List ℕ) → ((u : List ℕ) × NameOpening t u) ⊎ NoNameOpening t
name_opening_or_none t = elim (begins_or_not 60 t) [
  | inl short ↦ inl (short.0, inr short.1)
  | inr no_short ↦ elim (begins_or_not 80 t) [
    | inr no_P ↦ inr (λ u opening. ⊎_elim (λ e. no_P (Begins-from e)) (λ e. no_short (Begins-from e)) opening)
    | inl long ↦ elim (begins_or_not 60 long.0) [
      | inl bracket ↦ inl (bracket.0, inl (long.1 ∙ ap (λ x. 80 ∷ x) bracket.1))
      | inr none ↦ inr (λ u opening. ⊎_elim (λ e. none (Begins-from (rest_is long.1 e))) (λ e. no_short (Begins-from e)) opening)
    ]
  ]
]

-- a text begins with a setting, or with the head of a group, or with neither
abbrev pub HeadOrNone : Settings → List ℕ → Type 0
HeadOrNone s t = ((s' : Settings) × (u : List ℕ) × Setting s t s' u) ⊎ (((s' : Settings) × (k : Capture) × (u : List ℕ) × Opening s t s' k u) ⊎ NoHead s t)

flagged_or_none : (s : Settings) (v : List ℕ) → (Begins 58 v → ⊥) → NoNameOpening v → HeadOrNone s (40 ∷ 63 ∷ v)
flagged_or_none s v no_colon no_name = elim (flags_or_none v) [
  | inr none ↦ inr (inr (no_flagged_head s no_colon no_name (λ on off w u flags close. none on off w flags)))
  | inl found ↦ elim (begins_or_not 41 found.2) [
    | inl close ↦ inl (flagged s found.0 found.1, close.0, setting_head (record { on = found.0; off = found.1; reads = found.3; is = refl }) close.1)
    | inr unclosed ↦ elim (begins_or_not 58 found.2) [
      | inl colon ↦ inr (inl (flagged s found.0 found.1, unnumbered, colon.0, changing_head (record { on = found.0; off = found.1; reads = found.3; is = refl }) colon.1))
      | inr none ↦ inr (inr (no_flagged_head s no_colon no_name (λ on off w u flags close.
          let same = flags_unique flags found.3 in
          ⊎_elim (λ e. unclosed (subst (Begins 41) same.2 (Begins-from e))) (λ e. none (subst (Begins 58) same.2 (Begins-from e))) close)))
    ]
  ]
]

marked_or_none : (s : Settings) (v : List ℕ) → HeadOrNone s (40 ∷ 63 ∷ v)
marked_or_none s v = elim (begins_or_not 58 v) [
  | inl colon ↦ inr (inl (s, unnumbered, colon.0, colon_head s colon.1))
  | inr no_colon ↦ elim (name_opening_or_none v) [
    | inr no_name ↦ flagged_or_none s v no_colon no_name
    | inl opens ↦ elim (name_or_none opens.0) [
      | inr none ↦ inr (inr (no_name_head s opens.1 none))
      | inl name ↦ inr (inl (s, numbered (Some name.0), name.1, name_head s opens.1 name.3 name.2))
    ]
  ]
]

pub head_or_none : (s : Settings) (t : List ℕ) → HeadOrNone s t
head_or_none s t = elim (begins_or_not 40 t) [
  | inr none ↦ inr (inr (no_marked_head s none))
  | inl paren ↦ elim (begins_or_not 63 paren.0) [
    | inr plain ↦ inr (inl (s, numbered None, paren.0, plain_head s paren.1 plain))
    | inl mark ↦ subst (HeadOrNone s) (sym (paren.1 ∙ ap (λ x. 40 ∷ x) mark.1)) (marked_or_none s mark.0)
  ]
]
