-- A class has one list of items.
use Rattle.std.proofs.Common.{◌≡◌, ℕ, ◌≤◌, ◌==◌, ◌||◌, Bool, false, List, [], ◌∷◌, ◌++◌, length, ◌<◌, arith, length-append, refl, sym, ap, ap₂, subst, ◌∙◌}
use Rattle.std.proofs.lemmas.List.{append-nil, append_assoc}
use Rattle.std.proofs.lemmas.Bool.{or_right}
use Rattle.rx_sets.specs.declared.items.ClassPerlKind.{ClassPerlKind}
use Rattle.rx_sets.specs.declared.items.ClassItem.{ClassItem}
use Rattle.rx_sets.specs.declared.items.ClassItem.TheVariants.{Span, Perl}
use Rattle.rx_grammar.specs.Input.{Begins}
use Rattle.rx_grammar.specs.Escapes.{NumberAfter, unbraced, braced, EscapedCharacter, control, itself as escaped_itself, two_digits, four_digits, perl_letter}
use Rattle.rx_grammar.specs.Classes.{is_class_literal, ClassCharacter, itself, escaped, GoesOnAsRange, OneItem, character, range, letter_class, ClassItems, closed, last_hyphen, further, ClassBody, bracket_first, hyphen_first, other_first, Class, plain, negation}
use Rattle.rx_grammar.specs.Readers.{NoLetterClass, NoItem, NoItems, NoClassBody, NoClass, ItemsAfter, RangeGoesOn}
use Rattle.rx_grammar.proofs.InputLemmas.{first_is, rest_is, apart, told_apart, Begins-from}
use Rattle.rx_grammar.proofs.EscapeLaws.{escape_unique, perl_letter-unique, perl_letter-no_character}

-- the second escape, at the text of the first
along : {t t' u : List ℕ} {c : ℕ} → t ≡ t' → EscapedCharacter t' c u → EscapedCharacter t c u
along {u = u} {c = c} e escape = subst (λ x. EscapedCharacter x c u) (sym e) escape

pub class_character_unique : {t u u' : List ℕ} {c c' : ℕ} → ClassCharacter t c u → ClassCharacter t c' u' → (c ≡ c') × (u ≡ u')
class_character_unique (itself e literal single) (itself e' literal' single') = (first_is e e', rest_is e e')
class_character_unique (itself e literal single) (escaped e' escape') = absurd (told_apart is_class_literal e e' literal refl)
class_character_unique (escaped e escape) (itself e' literal' single') = absurd (told_apart is_class_literal e' e literal' refl)
class_character_unique (escaped e escape) (escaped e' escape') = escape_unique escape (along (rest_is e e') escape')

-- what a character of a class begins with
abbrev is_class_start : ℕ → Bool
is_class_start c = (c == 92) || is_class_literal c

class_character_begins : {t u v : List ℕ} {b c : ℕ} → ClassCharacter t c u → t ≡ b ∷ v → is_class_start b ≡ false → ⊥
class_character_begins {c = c} (itself e literal single) e' fails = told_apart is_class_start e e' (or_right (c == 92) _ literal) fails
class_character_begins (escaped e escape) e' fails = told_apart is_class_start e e' refl fails

-- a letter class is no character
pub perl_or_character : {t u v : List ℕ} {c : ℕ} (k : ClassPerlKind) (n : Bool) → t ≡ 92 ∷ perl_letter k n ∷ v → ClassCharacter t c u → ⊥
perl_or_character k n e (itself e' literal single) = told_apart is_class_literal e' e literal refl
perl_or_character k n e (escaped e' escape) = perl_letter-no_character k n (rest_is e' e) escape

-- before the - of a range there is no single character
pub no_lone_character : {t v v' w x : List ℕ} {c low high : ℕ} → ClassCharacter t c v → (GoesOnAsRange v → ⊥) → ClassCharacter t low v' → v' ≡ 45 ∷ w → ClassCharacter w high x → ⊥
no_lone_character {v = v} {w = w} one alone one' e high =
    let same : v ≡ 45 ∷ w = (class_character_unique one one').1 ∙ e in
    let opens : Begins 93 w → ⊥ = not_closed w high in
    alone (subst GoesOnAsRange (sym same) (refl, opens))
  where
    not_closed : {c : ℕ} {x : List ℕ} (w : List ℕ) → ClassCharacter w c x → Begins 93 w → ⊥
    not_closed [] one begins = begins
    not_closed (y ∷ ys) one begins = class_character_begins one (ap (λ z. z ∷ ys) begins) refl

pub items_along : {t t' u : List ℕ} {items : List ClassItem} → t ≡ t' → ClassItems t' items u → ClassItems t items u
items_along {u = u} {items = items} e rest = subst (λ x. ClassItems x items u) (sym e) rest

pub character_along : {t t' u : List ℕ} {c : ℕ} → t ≡ t' → ClassCharacter t' c u → ClassCharacter t c u
character_along {u = u} {c = c} e one = subst (λ x. ClassCharacter x c u) (sym e) one

one_more : {x y : ClassItem} {xs ys : List ClassItem} → x ≡ y → xs ≡ ys → x ∷ xs ≡ y ∷ ys
one_more e f = ap₂ (λ a l. a ∷ l) e f

pub one_item_unique : {t u u' : List ℕ} {item item' : ClassItem} → OneItem t item u → OneItem t item' u' → (item ≡ item') × (u ≡ u')
one_item_unique (character one alone) (character one' alone') =
    let same = class_character_unique one one' in (ap (λ c. Span c c) same.0, same.1)
one_item_unique (character one alone) (range one' e high order) = absurd (no_lone_character one alone one' e high)
one_item_unique (character one alone) (letter_class k n e) = absurd (perl_or_character k n e one)
one_item_unique (range one e high order) (character one' alone') = absurd (no_lone_character one' alone' one e high)
one_item_unique (range one e high order) (range one' e' high' order') =
    let same = class_character_unique one one' in
    let same' = class_character_unique high (character_along (rest_is e (same.1 ∙ e')) high') in
    (ap₂ (λ a b. Span a b) same.0 same'.0, same'.1)
one_item_unique (range one e high order) (letter_class k n e') = absurd (perl_or_character k n e' one)
one_item_unique (letter_class k n e) (character one alone) = absurd (perl_or_character k n e one)
one_item_unique (letter_class k n e) (range one e' high order) = absurd (perl_or_character k n e one)
one_item_unique (letter_class k n e) (letter_class k' n' e') =
    let behind = rest_is e e' in
    let same = perl_letter-unique k k' n n' (first_is refl behind) in
    (ap₂ (λ a b. Perl a b) same.0 same.1, rest_is refl behind)

-- what an item begins with
pub one_item_begins : {t u v : List ℕ} {item : ClassItem} {b : ℕ} → OneItem t item u → t ≡ b ∷ v → is_class_start b ≡ false → ⊥
one_item_begins (character one alone) e fails = class_character_begins one e fails
one_item_begins (range one e' high order) e fails = class_character_begins one e fails
one_item_begins (letter_class k n e') e fails = told_apart is_class_start e' e refl fails

pub class_items_unique : {t u u' : List ℕ} {items items' : List ClassItem} → ClassItems t items u → ClassItems t items' u' → (items ≡ items') × (u ≡ u')
class_items_unique (closed e) (closed e') = (refl, rest_is e e')
class_items_unique (closed e) (last_hyphen e' f') = absurd (apart e e' refl)
class_items_unique (closed e) (further one rest) = absurd (one_item_begins one e refl)
class_items_unique (last_hyphen e f) (closed e') = absurd (apart e e' refl)
class_items_unique (last_hyphen e f) (last_hyphen e' f') = (refl, rest_is f (rest_is e e' ∙ f'))
class_items_unique (last_hyphen e f) (further one rest) = absurd (one_item_begins one e refl)
class_items_unique (further one rest) (closed e) = absurd (one_item_begins one e refl)
class_items_unique (further one rest) (last_hyphen e f) = absurd (one_item_begins one e refl)
class_items_unique (further one rest) (further one' rest') =
    let same = one_item_unique one one' in
    let others = class_items_unique rest (items_along same.1 rest') in
    (one_more same.0 others.0, others.1)

pub class_body_unique : {t u u' : List ℕ} {items items' : List ClassItem} → ClassBody t items u → ClassBody t items' u' → (items ≡ items') × (u ≡ u')
class_body_unique (bracket_first e rest) (bracket_first e' rest') =
    let others = class_items_unique rest (items_along (rest_is e e') rest') in (one_more refl others.0, others.1)
class_body_unique (bracket_first e rest) (hyphen_first e' single rest') = absurd (apart e e' refl)
class_body_unique (bracket_first e rest) (other_first no_bracket no_hyphen rest') = absurd (no_bracket (Begins-from e))
class_body_unique (hyphen_first e single rest) (bracket_first e' rest') = absurd (apart e e' refl)
class_body_unique (hyphen_first e single rest) (hyphen_first e' single' rest') =
    let others = class_items_unique rest (items_along (rest_is e e') rest') in (one_more refl others.0, others.1)
class_body_unique (hyphen_first e single rest) (other_first no_bracket no_hyphen rest') = absurd (no_hyphen (Begins-from e))
class_body_unique (other_first no_bracket no_hyphen rest) (bracket_first e rest') = absurd (no_bracket (Begins-from e))
class_body_unique (other_first no_bracket no_hyphen rest) (hyphen_first e single rest') = absurd (no_hyphen (Begins-from e))
class_body_unique (other_first no_bracket no_hyphen rest) (other_first no_bracket' no_hyphen' rest') = class_items_unique rest rest'

pub body_along : {t t' u : List ℕ} {items : List ClassItem} → t ≡ t' → ClassBody t' items u → ClassBody t items u
body_along {u = u} {items = items} e body = subst (λ x. ClassBody x items u) (sym e) body

pub class_unique : {t u u' : List ℕ} {negated negated' : Bool} {items items' : List ClassItem} → Class t negated items u → Class t negated' items' u' → (negated ≡ negated') × (items ≡ items') × (u ≡ u')
class_unique (plain no_caret body) (plain no_caret' body') = let same = class_body_unique body body' in (refl, same.0, same.1)
class_unique (plain no_caret body) (negation e body') = absurd (no_caret (Begins-from e))
class_unique (negation e body) (plain no_caret body') = absurd (no_caret (Begins-from e))
class_unique (negation e body) (negation e' body') = let same = class_body_unique body (body_along (rest_is e e') body') in (refl, same.0, same.1)

-- a character of a class that begins with a backslash is an escape
pub escaped_read : {t u v : List ℕ} {c : ℕ} → t ≡ 92 ∷ v → ClassCharacter t c u → EscapedCharacter v c u
escaped_read e (itself e' literal single) = absurd (told_apart is_class_literal e' e literal refl)
escaped_read e (escaped e' escape) = along (rest_is e e') escape

-- if a range follows a character, an item is a range
pub range_read : {t u v w : List ℕ} {low : ℕ} {item : ClassItem} → NoLetterClass t → ClassCharacter t low v → RangeGoesOn v w → OneItem t item u
    → (high : ℕ) × ClassCharacter w high u × (low ≤ high)
range_read {w = w} none one goes_on (character one' alone) =
    let same : _ ≡ 45 ∷ w = sym (class_character_unique one one').1 ∙ goes_on.hyphen in
    absurd (alone (subst GoesOnAsRange (sym same) (refl, goes_on.open_end)))
range_read {low = low} none one goes_on (range {high = high} one' e second order) =
    let same = class_character_unique one one' in
    (high, character_along (rest_is goes_on.hyphen (same.1 ∙ e)) second, subst (λ x. x ≤ high) (sym same.0) order)
range_read none one goes_on (letter_class k n e) = absurd (none k n _ e)

-- items that were read from a text up to a rest: what is read there comes after them, and if
-- nothing is read there, nothing is read from the text
pub record ReadsUpTo (before all : List ClassItem) (text rest : List ℕ) : Type 0 where
  pub items : List ClassItem
  pub whole : all ≡ before ++ items
  pub reads : (more : List ClassItem) (u : List ℕ) → ClassItems rest more u → ClassItems text (items ++ more) u
  pub refutes : NoItems rest → NoItems text

pub ReadsUpTo-none : (before : List ClassItem) (text : List ℕ) → ReadsUpTo before before text text
ReadsUpTo-none before text = record {
  items = [];
  whole = sym (append-nil before);
  reads = λ more u rest. rest;
  refutes = λ none. none;
}

-- one more item
pub ReadsUpTo-more : {before all new : List ClassItem} {text rest behind : List ℕ} {item : ClassItem} → ReadsUpTo before all text rest
    → OneItem rest item behind → new ≡ all ++ item ∷ [] → ReadsUpTo before new text behind
ReadsUpTo-more {before = before} {text = text} {item = item} so_far one is = record {
  items = so_far.items ++ item ∷ [];
  whole = is ∙ ap (λ l. l ++ item ∷ []) so_far.whole ∙ append_assoc before so_far.items (item ∷ []);
  reads = λ more u others.
      subst (λ l. ClassItems text l u) (sym (append_assoc so_far.items (item ∷ []) more)) (so_far.reads (item ∷ more) u (further one others));
  refutes = λ none. so_far.refutes (no_items one none);
}
  where
    no_items : {rest behind : List ℕ} {item : ClassItem} → OneItem rest item behind → NoItems behind → NoItems rest
    no_items one none items u (closed e) = one_item_begins one e refl
    no_items one none items u (last_hyphen e f) = one_item_begins one e refl
    no_items one none items u (further one' others) =
        none _ u (items_along (one_item_unique one one').1 others)

-- without an item, the class closes, perhaps after a -
pub ends_read : {text : List ℕ} → NoItem text → (Begins 93 text → ⊥) → ((v u : List ℕ) → text ≡ 45 ∷ v → v ≡ 93 ∷ u → ⊥) → NoItems text
ends_read none no_close no_hyphen items u (closed e) = no_close (Begins-from e)
ends_read none no_close no_hyphen items u (last_hyphen e f) = no_hyphen _ u e f
ends_read none no_close no_hyphen items u (further one others) = none _ _ one

-- the class closes there
pub ReadsUpTo-closed : {before all : List ClassItem} {text rest u : List ℕ} → ReadsUpTo before all text rest → rest ≡ 93 ∷ u → ItemsAfter before all text u
ReadsUpTo-closed {text = text} {u = u} so_far e = record {
  items = so_far.items;
  whole = so_far.whole;
  reads = subst (λ l. ClassItems text l u) (append-nil so_far.items) (so_far.reads [] u (closed e));
}

pub ReadsUpTo-hyphen : {before all new : List ClassItem} {text rest v u : List ℕ} → ReadsUpTo before all text rest → rest ≡ 45 ∷ v → v ≡ 93 ∷ u
    → new ≡ all ++ Span 45 45 ∷ [] → ItemsAfter before new text u
ReadsUpTo-hyphen {before = before} {u = u} so_far e f is = record {
  items = so_far.items ++ Span 45 45 ∷ [];
  whole = is ∙ ap (λ l. l ++ Span 45 45 ∷ []) so_far.whole ∙ append_assoc before so_far.items (Span 45 45 ∷ []);
  reads = so_far.reads (Span 45 45 ∷ []) u (last_hyphen e f);
}

-- an item has some characters
number_shorter : {n c : ℕ} {t u : List ℕ} → NumberAfter n t c u → length u ≤ length t
number_shorter {u = u} (unbraced number) = omega (arith, ap length number.whole, length-append number.digits u)
number_shorter {u = u} (braced e number) = omega (arith, ap length e, ap length number.whole, length-append number.digits (125 ∷ u))

pub escape_shorter : {c : ℕ} {t u : List ℕ} → EscapedCharacter t c u → length u < length t
escape_shorter (control l e f) = omega (arith, ap length e)
escape_shorter (escaped_itself e f) = omega (arith, ap length e)
escape_shorter (two_digits e number) = omega (arith, ap length e, number_shorter number)
escape_shorter (four_digits e number) = omega (arith, ap length e, number_shorter number)

character_shorter : {c : ℕ} {t u : List ℕ} → ClassCharacter t c u → length u < length t
character_shorter (itself e literal single) = omega (arith, ap length e)
character_shorter (escaped e escape) = omega (arith, ap length e, escape_shorter escape)

pub item_shorter : {t u : List ℕ} {item : ClassItem} → OneItem t item u → length u < length t
item_shorter (character one alone) = character_shorter one
item_shorter (range one e high order) = omega (arith, character_shorter one, ap length e, character_shorter high)
item_shorter (letter_class k n e) = omega (arith, ap length e)

-- the bodies of classes by what they begin with
pub bracket_body : {before all : List ClassItem} {t u v : List ℕ} → t ≡ 93 ∷ v → before ≡ Span 93 93 ∷ [] → ItemsAfter before all v u → ClassBody t all u
bracket_body {all = all} {t = t} {u = u} e is after =
    let whole : all ≡ Span 93 93 ∷ after.items = after.whole ∙ ap (λ l. l ++ after.items) is in
    subst (λ l. ClassBody t l u) (sym whole) (bracket_first e after.reads)

pub hyphen_body : {before all : List ClassItem} {t u v : List ℕ} → t ≡ 45 ∷ v → (Begins 45 v → ⊥) → before ≡ Span 45 45 ∷ [] → ItemsAfter before all v u → ClassBody t all u
hyphen_body {all = all} {t = t} {u = u} e single is after =
    let whole : all ≡ Span 45 45 ∷ after.items = after.whole ∙ ap (λ l. l ++ after.items) is in
    subst (λ l. ClassBody t l u) (sym whole) (hyphen_first e single after.reads)

pub other_body : {before all : List ClassItem} {t u : List ℕ} → (Begins 93 t → ⊥) → (Begins 45 t → ⊥) → before ≡ [] → ItemsAfter before all t u → ClassBody t all u
other_body {all = all} {t = t} {u = u} no_bracket no_hyphen is after =
    let whole : all ≡ after.items = after.whole ∙ ap (λ l. l ++ after.items) is in
    subst (λ l. ClassBody t l u) (sym whole) (other_first no_bracket no_hyphen after.reads)

pub no_bracket_body : {t v : List ℕ} → t ≡ 93 ∷ v → NoItems v → NoClassBody t
no_bracket_body e none items u (bracket_first e' rest) = none _ u (items_along (rest_is e e') rest)
no_bracket_body e none items u (hyphen_first e' single rest) = apart e e' refl
no_bracket_body e none items u (other_first no_bracket no_hyphen rest) = no_bracket (Begins-from e)

pub no_hyphen_body : {t v : List ℕ} → t ≡ 45 ∷ v → NoItems v → NoClassBody t
no_hyphen_body e none items u (bracket_first e' rest) = apart e e' refl
no_hyphen_body e none items u (hyphen_first e' single rest) = none _ u (items_along (rest_is e e') rest)
no_hyphen_body e none items u (other_first no_bracket no_hyphen rest) = no_hyphen (Begins-from e)

pub no_other_body : {t : List ℕ} → (Begins 93 t → ⊥) → (Begins 45 t → ⊥) → NoItems t → NoClassBody t
no_other_body no_bracket no_hyphen none items u (bracket_first e rest) = no_bracket (Begins-from e)
no_other_body no_bracket no_hyphen none items u (hyphen_first e single rest) = no_hyphen (Begins-from e)
no_other_body no_bracket no_hyphen none items u (other_first no_bracket' no_hyphen' rest) = none items u rest

pub no_negated : {t v : List ℕ} → t ≡ 94 ∷ v → NoClassBody v → NoClass t
no_negated e none negated items u (plain no_caret body) = no_caret (Begins-from e)
no_negated e none negated items u (negation e' body) = none items u (body_along (rest_is e e') body)

pub no_plain : {t : List ℕ} → (Begins 94 t → ⊥) → NoClassBody t → NoClass t
no_plain no_caret none negated items u (plain no_caret' body) = none items u body
no_plain no_caret none negated items u (negation e body) = no_caret (Begins-from e)
