-- What follows an atom has one reading.
use Rattle.std.proofs.Common.{◌≡◌, ℕ, ◌≤◌, Bool, true, false, not, List, [], ◌∷◌, ◌++◌, length, Option, Some, refl, sym, ap, ap₂, subst, ◌∙◌, arith}
use Rattle.std.specs.List.{AllByRecursion}
use Rattle.rx_grammar.specs.declared.hir.Repetition.{Repetition}
use Rattle.rx_grammar.specs.Trees.{Tree, repeated}
use Rattle.rx_grammar.specs.Input.{Begins, Stops}
use Rattle.std.specs.Char.{is_ascii_digit}
use Rattle.rx_grammar.specs.Repetitions.{decimal_after, Number, CountInBraces, exactly, at_least, between, Count, star, plus, question, in_braces, repetition, Postfix, alone, marked, is_postfix_start, Postfixes, ended, further}
use Rattle.rx_grammar.proofs.InputLemmas.{rest_is, apart, told_apart, Stops-not, Begins-from, fronts}

pub number_unique : {t u u' : List ℕ} {n n' : ℕ} → Number t n u → Number t n' u' → (n ≡ n') × (u ≡ u')
number_unique {u = u} {u' = u'} a b =
    let parts = fronts is_ascii_digit a.digits b.digits u u' a.decimal b.decimal a.ends b.ends (sym a.whole ∙ b.whole) in
    (sym a.value ∙ ap (decimal_after 0) parts.0 ∙ b.value, parts.1)

-- a number begins with a digit
number_begins : {t u v : List ℕ} {n b : ℕ} → Number t n u → t ≡ b ∷ v → is_ascii_digit b ≡ false → ⊥
number_begins {t = t} {u = u} a e fails = at a.digits a.whole a.some a.decimal
  where
    at : (digits : List ℕ) → t ≡ digits ++ u → 1 ≤ length digits → AllByRecursion (λ c. is_ascii_digit c ≡ true) digits → ⊥
    at [] whole some decimal = absurd (omega arith)
    at (digit ∷ digits) whole some decimal = told_apart is_ascii_digit whole e decimal.0 fails

number_along : {t t' u : List ℕ} {n : ℕ} → t ≡ t' → Number t' n u → Number t n u
number_along {u = u} {n = n} e number = subst (λ x. Number x n u) (sym e) number

in_braces_unique : {t u u' : List ℕ} {n n' : ℕ} {m m' : Option ℕ} → CountInBraces t n m u → CountInBraces t n' m' u' → (n ≡ n') × (m ≡ m') × (u ≡ u')
in_braces_unique (exactly number close) (exactly number' close') =
    let same = number_unique number number' in
    (same.0, ap (λ k. Some k) same.0, rest_is close (same.1 ∙ close'))
in_braces_unique (exactly number close) (at_least number' comma' close') =
    let same = number_unique number number' in
    absurd (apart close (same.1 ∙ comma') refl)
in_braces_unique (exactly number close) (between number' comma' second' close' order') =
    let same = number_unique number number' in
    absurd (apart close (same.1 ∙ comma') refl)
in_braces_unique (at_least number comma close) (exactly number' close') =
    let same = number_unique number number' in
    absurd (apart comma (same.1 ∙ close') refl)
in_braces_unique (at_least number comma close) (at_least number' comma' close') =
    let same = number_unique number number' in
    (same.0, refl, rest_is close (rest_is comma (same.1 ∙ comma') ∙ close'))
in_braces_unique (at_least number comma close) (between number' comma' second' close' order') =
    let same = number_unique number number' in
    absurd (number_begins second' (rest_is comma' (sym same.1 ∙ comma) ∙ close) refl)
in_braces_unique (between number comma second close order) (exactly number' close') =
    let same = number_unique number number' in
    absurd (apart comma (same.1 ∙ close') refl)
in_braces_unique (between number comma second close order) (at_least number' comma' close') =
    let same = number_unique number number' in
    absurd (number_begins second (rest_is comma (same.1 ∙ comma') ∙ close') refl)
in_braces_unique (between number comma second close order) (between number' comma' second' close' order') =
    let same = number_unique number number' in
    let same' = number_unique second (number_along (rest_is comma (same.1 ∙ comma')) second') in
    (same.0, ap (λ k. Some k) same'.0, rest_is close (same'.1 ∙ close'))

in_braces_along : {t t' u : List ℕ} {n : ℕ} {m : Option ℕ} → t ≡ t' → CountInBraces t' n m u → CountInBraces t n m u
in_braces_along {u = u} {n = n} {m = m} e inside = subst (λ x. CountInBraces x n m u) (sym e) inside

pub count_unique : {t u u' : List ℕ} {n n' : ℕ} {m m' : Option ℕ} → Count t n m u → Count t n' m' u' → (n ≡ n') × (m ≡ m') × (u ≡ u')
count_unique (star e) (star e') = (refl, refl, rest_is e e')
count_unique (star e) (plus e') = absurd (apart e e' refl)
count_unique (star e) (question e') = absurd (apart e e' refl)
count_unique (star e) (in_braces e' inside') = absurd (apart e e' refl)
count_unique (plus e) (star e') = absurd (apart e e' refl)
count_unique (plus e) (plus e') = (refl, refl, rest_is e e')
count_unique (plus e) (question e') = absurd (apart e e' refl)
count_unique (plus e) (in_braces e' inside') = absurd (apart e e' refl)
count_unique (question e) (star e') = absurd (apart e e' refl)
count_unique (question e) (plus e') = absurd (apart e e' refl)
count_unique (question e) (question e') = (refl, refl, rest_is e e')
count_unique (question e) (in_braces e' inside') = absurd (apart e e' refl)
count_unique (in_braces e inside) (star e') = absurd (apart e e' refl)
count_unique (in_braces e inside) (plus e') = absurd (apart e e' refl)
count_unique (in_braces e inside) (question e') = absurd (apart e e' refl)
count_unique (in_braces e inside) (in_braces e' inside') = in_braces_unique inside (in_braces_along (rest_is e e') inside')

pub postfix_unique : {swap : Bool} {t u u' : List ℕ} {r r' : Repetition} → Postfix swap t r u → Postfix swap t r' u' → (r ≡ r') × (u ≡ u')
postfix_unique {swap = swap} (alone count stop) (alone count' stop') =
    let same = count_unique count count' in (ap₂ (λ n m. repetition n m (not swap)) same.0 same.1, same.2)
postfix_unique (alone count stop) (marked count' mark) =
    let same = count_unique count count' in absurd (stop (Begins-from (same.2 ∙ mark)))
postfix_unique (marked count mark) (alone count' stop) =
    let same = count_unique count count' in absurd (stop (Begins-from (sym same.2 ∙ mark)))
postfix_unique {swap = swap} (marked count mark) (marked count' mark') =
    let same = count_unique count count' in
    (ap₂ (λ n m. repetition n m swap) same.0 same.1, rest_is mark (same.2 ∙ mark'))

-- a count begins a postfix
count_starts : {t u : List ℕ} {n : ℕ} {m : Option ℕ} → Count t n m u → Stops is_postfix_start t → ⊥
count_starts (star e) stops = Stops-not is_postfix_start stops e refl
count_starts (plus e) stops = Stops-not is_postfix_start stops e refl
count_starts (question e) stops = Stops-not is_postfix_start stops e refl
count_starts (in_braces e inside) stops = Stops-not is_postfix_start stops e refl

pub postfix_starts : {swap : Bool} {t u : List ℕ} {r : Repetition} → Postfix swap t r u → Stops is_postfix_start t → ⊥
postfix_starts (alone count stop) stops = count_starts count stops
postfix_starts (marked count mark) stops = count_starts count stops

pub postfixes_along : {swap : Bool} {h h' g : Tree} {d d' e : ℕ} {t t' u : List ℕ} → h ≡ h' → d ≡ d' → t ≡ t' → Postfixes swap h' d' t' g e u → Postfixes swap h d t g e u
postfixes_along {swap = swap} {h = h} {g = g} {d = d} {d' = d'} {e = e} {t' = t'} {u = u} eh ed et postfixes =
    let a = subst (λ x. Postfixes swap x d' t' g e u) (sym eh) postfixes in
    let b = subst (λ x. Postfixes swap h x t' g e u) (sym ed) a in
    subst (λ x. Postfixes swap h d x g e u) (sym et) b

pub postfixes_unique : {swap : Bool} {h g g' : Tree} {d e e' : ℕ} {t u u' : List ℕ} → Postfixes swap h d t g e u → Postfixes swap h d t g' e' u' → (g ≡ g') × (e ≡ e') × (u ≡ u')
postfixes_unique (ended stops) (ended stops') = (refl, refl, refl)
postfixes_unique (ended stops) (further postfix others) = absurd (postfix_starts postfix stops)
postfixes_unique (further postfix others) (ended stops) = absurd (postfix_starts postfix stops)
postfixes_unique {h = h} (further postfix others) (further postfix' others') =
    let same = postfix_unique postfix postfix' in
    postfixes_unique others (postfixes_along (ap (λ r. repeated r h) same.0) refl same.1 others')

-- the text in braces starts with a number
pub no_count : {t u : List ℕ} {n : ℕ} {m : Option ℕ} → ((k : ℕ) (v : List ℕ) → Number t k v → ⊥) → CountInBraces t n m u → ⊥
no_count none (exactly number close) = none _ _ number
no_count none (at_least number comma close) = none _ _ number
no_count none (between number comma second close order) = none _ _ number

-- with } or a comma after it
pub no_end : {t u v : List ℕ} {k n : ℕ} {m : Option ℕ} → Number t k v → (Begins 125 v → ⊥) → (Begins 44 v → ⊥) → CountInBraces t n m u → ⊥
no_end here no_close no_comma (exactly number close) = no_close (Begins-from ((number_unique here number).1 ∙ close))
no_end here no_close no_comma (at_least number comma close) = no_comma (Begins-from ((number_unique here number).1 ∙ comma))
no_end here no_close no_comma (between number comma second close order) = no_comma (Begins-from ((number_unique here number).1 ∙ comma))

-- and after the comma } or a second number, no smaller than the first, and then }
pub second_number : {t u v w : List ℕ} {k n : ℕ} {m : Option ℕ} → Number t k v → v ≡ 44 ∷ w → (Begins 125 w → ⊥) → CountInBraces t n m u
    → (j : ℕ) × (x : List ℕ) × Number w j x × Begins 125 x × (k ≤ j)
second_number here e no_close (exactly number close) = absurd (apart e ((number_unique here number).1 ∙ close) refl)
second_number here e no_close (at_least number comma close) =
    absurd (no_close (Begins-from (rest_is e ((number_unique here number).1 ∙ comma) ∙ close)))
second_number {k = k} here e no_close (between {x = x} {m = j} number comma second close order) =
    let same = number_unique here number in
    (j, x, number_along (rest_is e (same.1 ∙ comma)) second, Begins-from close, omega (arith, same.0))

-- a count that begins with { is one in braces
pub braces_read : {t u v : List ℕ} {n : ℕ} {m : Option ℕ} → t ≡ 123 ∷ v → Count t n m u → CountInBraces v n m u
braces_read e (star e') = absurd (apart e e' refl)
braces_read e (plus e') = absurd (apart e e' refl)
braces_read e (question e') = absurd (apart e e' refl)
braces_read e (in_braces e' inside) = in_braces_along (rest_is e e') inside

-- without a count there is no postfix
pub no_postfix : {swap : Bool} {t u : List ℕ} {r : Repetition} → ((n : ℕ) (m : Option ℕ) (v : List ℕ) → Count t n m v → ⊥) → Postfix swap t r u → ⊥
no_postfix none (alone count stop) = none _ _ _ count
no_postfix none (marked count mark) = none _ _ _ count
