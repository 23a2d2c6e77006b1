-- Numbers after spaces: bytes spell one list of them, or none.
use Rattle.std.proofs.Common.{◌≡◌, ◌≢◌, ℕ, zero, suc, ◌*◌, ◌^◌, ◌≤◌, ◌⊎◌, List, [], ◌∷◌, ◌++◌, length, refl, sym, ap, ◌∙◌, subst, inl, inr, length-append, arith}
use Rattle.std.specs.List.{AllByRecursion}
use Rattle.std.proofs.lemmas.Bool.{cases_lt, cases_eq}
use Rattle.rope_search.specs.Reads.{digits_after, IsNumber, AreSpelled, HasNoLf}
use Rattle.rope_search.specs.Header.{HasNoSpace, EndsNumber}

-- ---- one number

-- each of these bytes is a decimal digit
abbrev pub AreDigits : List ℕ → Type 0
AreDigits digits = AllByRecursion (λ digit. (48 ≤ digit) × (digit ≤ 57)) digits

-- bytes are decimal digits or not
pub digits_choice : (digits : List ℕ) → AreDigits digits ⊎ (¬ (AreDigits digits))
digits_choice [] = inl tt
digits_choice (d ∷ ds) = elim (cases_lt d 48) [
  | inl low ↦ inr (λ h. omega (arith, h.0))
  | inr high ↦ elim (cases_lt 57 d) [
    | inl over ↦ inr (λ h. omega (arith, h.0))
    | inr within ↦ elim (digits_choice ds) [ inl others ↦ inl ((high, within), others) | inr not_all ↦ inr (λ h. not_all h.1) ]
  ]
]

-- bytes spell a number or none
pub number_choice : (digits : List ℕ) → ((n : ℕ) × IsNumber digits n) ⊎ ((n : ℕ) → IsNumber digits n → ⊥)
number_choice digits = elim (cases_lt 0 (length digits)) [
  | inr none ↦ inr (λ n h. omega (arith, h.some))
  | inl some ↦ elim (cases_lt 20 (length digits)) [
    | inl many ↦ inr (λ n h. omega (arith, h.few))
    | inr few ↦ elim (digits_choice digits) [
      | inr not_all ↦ inr (λ n h. not_all h.decimal)
      | inl decimal ↦ elim (cases_lt (digits_after 0 digits) (2 ^ 64)) [
        | inr large ↦ inr (λ n h. omega (arith, h.value, h.fits))
        | inl fits ↦ inl (digits_after 0 digits, record { some = some; few = few; decimal = decimal; value = refl; fits = fits })
      ]
    ]
  ]
]

-- digits spell one number
pub IsNumber-one : (digits : List ℕ) (m n : ℕ) → IsNumber digits m → IsNumber digits n → m ≡ n
IsNumber-one digits m n one other = sym one.value ∙ other.value

-- ---- where a number ends

pub HasNoSpace-digits : (digits : List ℕ) → AreDigits digits → HasNoSpace digits
HasNoSpace-digits [] h = tt
HasNoSpace-digits (d ∷ ds) h = ((λ e. omega (arith, h.0)), HasNoSpace-digits ds h.1)

pub HasNoSpace-number : (digits : List ℕ) (n : ℕ) → IsNumber digits n → HasNoSpace digits
HasNoSpace-number digits n h = HasNoSpace-digits digits h.decimal

-- the bytes before the first space are determined, and so is what follows
pub space_one : (a b x y : List ℕ) → HasNoSpace a → HasNoSpace b → EndsNumber x → EndsNumber y → a ++ x ≡ b ++ y → (a ≡ b) × (x ≡ y)
space_one [] [] x y clean clean' ends ends' whole = (refl, whole)
space_one [] (c ∷ b) x y clean clean' (inl none) ends' whole = let e : [] ≡ c ∷ (b ++ y) = sym none ∙ whole in absurd (cc)
space_one [] (c ∷ b) x y clean clean' (inr more) ends' whole =
    let e : 32 ∷ more.0 ≡ c ∷ (b ++ y) = sym more.1 ∙ whole in
    let head : c ≡ 32 = cc in
    absurd (clean'.0 head)
space_one (c ∷ a) [] x y clean clean' ends (inl none) whole = let e : c ∷ (a ++ x) ≡ [] = whole ∙ none in absurd (cc)
space_one (c ∷ a) [] x y clean clean' ends (inr more) whole =
    let e : c ∷ (a ++ x) ≡ 32 ∷ more.0 = whole ∙ more.1 in
    let head : c ≡ 32 = cc in
    absurd (clean.0 head)
space_one (c ∷ a) (d ∷ b) x y clean clean' ends ends' whole =
    let tails : a ++ x ≡ b ++ y = cc in
    let others = space_one a b x y clean.1 clean'.1 ends ends' tails in
    let same : a ≡ b = others.0 in
    ((cc), others.1)

-- bytes split before the first space
pub record CutAtSpace (bytes : List ℕ) : Type 0 where
  pub front : List ℕ
  pub back : List ℕ
  pub clean : HasNoSpace front
  pub ends : EndsNumber back
  pub whole : bytes ≡ front ++ back

pub cut_at_space : (bytes : List ℕ) → CutAtSpace bytes
cut_at_space [] = record { front = []; back = []; clean = tt; ends = inl refl; whole = refl }
cut_at_space (b ∷ bytes) = elim (cases_eq b 32) [
  | inl space ↦ record { front = []; back = b ∷ bytes; clean = tt; ends = inr (bytes, ap (λ c. c ∷ bytes) space); whole = refl }
  | inr other ↦
      let cut = cut_at_space bytes in
      record { front = b ∷ cut.front; back = cut.back; clean = (other, cut.clean); ends = cut.ends; whole = ap (λ l. b ∷ l) cut.whole }
]

-- ---- lists of numbers

pub AreSpelled-ends : (ns bytes : List ℕ) → AreSpelled ns bytes → EndsNumber bytes
AreSpelled-ends [] bytes h = inl h
AreSpelled-ends (n ∷ ns) bytes h = inr (h.0 ++ h.1, h.4)

-- the first of some numbers, if it is known which bytes are before the next space
pub AreSpelled-first : (n : ℕ) (ns digits others bytes : List ℕ) → HasNoSpace digits → EndsNumber others → bytes ≡ 32 ∷ digits ++ others
    → AreSpelled (n ∷ ns) bytes → IsNumber digits n × AreSpelled ns others
AreSpelled-first n ns digits others bytes clean ends whole h =
    let both : 32 ∷ h.0 ++ h.1 ≡ 32 ∷ digits ++ others = sym h.4 ∙ whole in
    let tails : h.0 ++ h.1 ≡ digits ++ others = cc in
    let cut = space_one h.0 digits h.1 others (HasNoSpace-number h.0 n h.2) clean (AreSpelled-ends ns h.1 h.3) ends tails in
    (subst (λ ds. IsNumber ds n) cut.0 h.2, subst (AreSpelled ns) cut.1 h.3)

-- bytes spell one list of numbers
pub AreSpelled-one : (ms ns bytes : List ℕ) → AreSpelled ms bytes → AreSpelled ns bytes → ms ≡ ns
AreSpelled-one [] [] bytes one other = refl
AreSpelled-one [] (n ∷ ns) bytes one other = let e : [] ≡ 32 ∷ other.0 ++ other.1 = sym one ∙ other.4 in absurd (cc)
AreSpelled-one (m ∷ ms) [] bytes one other = let e : [] ≡ 32 ∷ one.0 ++ one.1 = sym other ∙ one.4 in absurd (cc)
AreSpelled-one (m ∷ ms) (n ∷ ns) bytes one other =
    let rest = AreSpelled-first n ns one.0 one.1 bytes (HasNoSpace-number one.0 m one.2) (AreSpelled-ends ms one.1 one.3) one.4 other in
    let head : m ≡ n = IsNumber-one one.0 m n one.2 rest.0 in
    let tail : ms ≡ ns = AreSpelled-one ms ns one.1 one.3 rest.1 in
    cc

-- bytes that don't begin with a space spell no number
pub no_space_first : (b : ℕ) (bytes ns : List ℕ) → b ≢ 32 → AreSpelled ns (b ∷ bytes) → ⊥
no_space_first b bytes [] other h = cc
no_space_first b bytes (n ∷ ns) other h = let e : b ∷ bytes ≡ 32 ∷ h.0 ++ h.1 = h.4 in let head : b ≡ 32 = cc in other head

spelled_within : (k : ℕ) (bytes : List ℕ) → length bytes ≤ k → ((ns : List ℕ) × AreSpelled ns bytes) ⊎ ((ns : List ℕ) → AreSpelled ns bytes → ⊥)
spelled_within k [] few = inl ([], refl)
spelled_within zero (b ∷ bytes) few = absurd (omega arith)
spelled_within (suc k) (b ∷ bytes) few = elim (cases_eq b 32) [
  | inr other ↦ inr (λ ns h. no_space_first b bytes ns other h)
  | inl space ↦
      let cut = cut_at_space bytes in
      let whole : b ∷ bytes ≡ 32 ∷ cut.front ++ cut.back = ap (λ c. c ∷ bytes) space ∙ ap (λ l. 32 ∷ l) cut.whole in
      let fewer : length cut.back ≤ k = omega (arith, few, ap length cut.whole, length-append cut.front cut.back) in
      elim (number_choice cut.front) [
        | inr none ↦ inr (λ ns h. no_number b bytes ns cut.front cut.back cut.clean cut.ends whole none h)
        | inl number ↦ elim (spelled_within k cut.back fewer) [
          | inl others ↦ inl (number.0 ∷ others.0, (cut.front, cut.back, number.1, others.1, whole))
          | inr none ↦ inr (λ ns h. no_others b bytes ns cut.front cut.back cut.clean cut.ends whole none h)
        ]
      ]
]
  where
    no_number : (b : ℕ) (bytes ns digits others : List ℕ) → HasNoSpace digits → EndsNumber others → b ∷ bytes ≡ 32 ∷ digits ++ others
        → ((n : ℕ) → IsNumber digits n → ⊥) → AreSpelled ns (b ∷ bytes) → ⊥
    no_number b bytes [] digits others clean ends whole none h = cc
    no_number b bytes (n ∷ ns) digits others clean ends whole none h = none n (AreSpelled-first n ns digits others (b ∷ bytes) clean ends whole h).0

    no_others : (b : ℕ) (bytes ns digits others : List ℕ) → HasNoSpace digits → EndsNumber others → b ∷ bytes ≡ 32 ∷ digits ++ others
        → ((ns : List ℕ) → AreSpelled ns others → ⊥) → AreSpelled ns (b ∷ bytes) → ⊥
    no_others b bytes [] digits others clean ends whole none h = cc
    no_others b bytes (n ∷ ns) digits others clean ends whole none h = none ns (AreSpelled-first n ns digits others (b ∷ bytes) clean ends whole h).1

-- bytes spell some numbers or none
pub spelled_choice : (bytes : List ℕ) → ((ns : List ℕ) × AreSpelled ns bytes) ⊎ ((ns : List ℕ) → AreSpelled ns bytes → ⊥)
spelled_choice bytes = spelled_within (length bytes) bytes (omega arith)

-- ---- numbers have no LF, and few bytes

pub HasNoLf-append : (a b : List ℕ) → HasNoLf a → HasNoLf b → HasNoLf (a ++ b)
HasNoLf-append [] b first second = second
HasNoLf-append (x ∷ a) b first second = (first.0, HasNoLf-append a b first.1 second)

pub HasNoLf-digits : (digits : List ℕ) → AreDigits digits → HasNoLf digits
HasNoLf-digits [] h = tt
HasNoLf-digits (d ∷ ds) h = ((λ e. omega (arith, h.0)), HasNoLf-digits ds h.1)

pub HasNoLf-spelled : (ns bytes : List ℕ) → AreSpelled ns bytes → HasNoLf bytes
HasNoLf-spelled [] bytes h = subst HasNoLf (sym h) tt
HasNoLf-spelled (n ∷ ns) bytes h =
    subst HasNoLf (sym h.4) ((λ e. cc), HasNoLf-append h.0 h.1 (HasNoLf-digits h.0 h.2.decimal) (HasNoLf-spelled ns h.1 h.3))

pub length-spelled_le : (ns bytes : List ℕ) → AreSpelled ns bytes → length bytes ≤ 21 * length ns
length-spelled_le [] bytes h = omega (arith, ap length h)
length-spelled_le (n ∷ ns) bytes h =
    omega (arith, ap length h.4, length-append h.0 h.1, h.2.few, length-spelled_le ns h.1 h.3)
