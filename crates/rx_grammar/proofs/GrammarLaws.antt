-- A text spells one tree under given settings.
use Rattle.std.proofs.Common.{◌≡◌, ℕ, ◌+◌, ◌==◌, ◌||◌, Bool, true, false, List, [], ◌∷◌, Some, is_some, max, refl, sym, ap, ap₂, subst, ◌∙◌, arith, true≢false}
use Rattle.std.proofs.lemmas.Bool.{or_left}
use Rattle.std.proofs.lemmas.Bool.Decides.{nat_tests}
use Rattle.rx_grammar.specs.Settings.{Settings}
use Rattle.rx_grammar.specs.Sets.{Range, IsSetOf, Folded, InPerl}
use Rattle.rx_grammar.specs.Trees.{Tree, one_of, look_at, concat_of, alternation_of}
use Rattle.rx_grammar.specs.Input.{Begins, Stops}
use Rattle.rx_grammar.specs.Escapes.{look_of}
use Rattle.rx_sets.specs.declared.items.ClassItem.{ClassItem}
use Rattle.rx_grammar.specs.Classes.{Class, InClass}
use Rattle.rx_grammar.specs.Groups.{Setting, opened, grouped}
use Rattle.rx_grammar.specs.Grammar.{is_literal, InDot, Escape, character, letter_class, look, PlainAtom, literal, dot, caret, dollar, escape, class, goes_on, goes_on_in_branches, Atom, plain_atom, group, Items, ended, setting, item, Branches, last, bar, Spells}
use Rattle.rx_sets.proofs.SetLaws.{IsSetOf-unique}
use Rattle.rx_grammar.proofs.InputLemmas.{first_is, rest_is, apart, told_apart, Stops-not}
use Rattle.rx_grammar.proofs.EscapeLaws.{escape_unique, perl_letter-unique, perl_letter-no_character, is_look, look-no_character, perl_letter-no_look}
use Rattle.rx_grammar.proofs.ClassLaws.{class_unique}
use Rattle.rx_grammar.proofs.RepetitionLaws.{postfixes_unique, postfixes_along}
use Rattle.rx_grammar.proofs.GroupLaws.{setting_unique, opening_unique, setting_or_opening, setting_begins, opening_begins}

-- the sets of one character are one set
same_characters : (s : Settings) {rs ss : List Range} {c c' : ℕ} → c ≡ c' → IsSetOf rs (Folded s (λ d. d ≡ c)) → IsSetOf ss (Folded s (λ d. d ≡ c')) → one_of rs ≡ one_of ss
same_characters s {rs = rs} {ss = ss} {c = c} e is is' =
    let is'' = subst (λ x. IsSetOf ss (Folded s (λ d. d ≡ x))) (sym e) is' in
    ap (λ r. one_of r) (IsSetOf-unique rs ss (Folded s (λ d. d ≡ c)) is is'')

escape_tree_unique : {s : Settings} {t u u' : List ℕ} {h h' : Tree} → Escape s t h u → Escape s t h' u' → (h ≡ h') × (u ≡ u')
escape_tree_unique {s = s} (character one is) (character one' is') =
    let same = escape_unique one one' in (same_characters s same.0 is is', same.1)
escape_tree_unique (character one is) (letter_class k n e is') = absurd (perl_letter-no_character k n e one)
escape_tree_unique (character one is) (look l e f) = absurd (look-no_character e (ap is_some f) one)
escape_tree_unique (letter_class k n e is) (character one is') = absurd (perl_letter-no_character k n e one)
escape_tree_unique (letter_class {ranges = rs} k n e is) (letter_class {ranges = ss} k' n' e' is') =
    let same = perl_letter-unique k k' n n' (first_is e e') in
    let P : ℕ → Type 0 = InPerl k n in
    let is'' = subst (λ x. IsSetOf ss (InPerl k x)) (sym same.1) (subst (λ x. IsSetOf ss (InPerl x n')) (sym same.0) is') in
    (ap (λ r. one_of r) (IsSetOf-unique rs ss P is is''), rest_is e e')
escape_tree_unique (letter_class k n e is) (look l e' f) = absurd (told_apart is_look e' e (ap is_some f) (perl_letter-no_look k n))
escape_tree_unique (look l e f) (character one is) = absurd (look-no_character e (ap is_some f) one)
escape_tree_unique (look l e f) (letter_class k n e' is) = absurd (told_apart is_look e e' (ap is_some f) (perl_letter-no_look k n))
escape_tree_unique (look {asked = a} l e f) (look {asked = a'} l' e' f') =
    let both : Some a ≡ Some a' = sym f ∙ ap look_of (first_is e e') ∙ f' in
    let same : a ≡ a' = cc in
    (ap (λ x. look_at x) same, rest_is e e')

pub escape_along : {s : Settings} {t t' u : List ℕ} {h : Tree} → t ≡ t' → Escape s t' h u → Escape s t h u
escape_along {s = s} {u = u} {h = h} e one = subst (λ x. Escape s x h u) (sym e) one

pub class_along : {t t' u : List ℕ} {n : Bool} {items : List ClassItem} → t ≡ t' → Class t' n items u → Class t n items u
class_along {u = u} {n = n} {items = items} e one = subst (λ x. Class x n items u) (sym e) one

pub plain_unique : {s : Settings} {t u u' : List ℕ} {h h' : Tree} → PlainAtom s t h u → PlainAtom s t h' u' → (h ≡ h') × (u ≡ u')
plain_unique {s = s} (literal e is_one is) (literal e' is_one' is') = (same_characters s (first_is e e') is is', rest_is e e')
plain_unique (literal e is_one is) (dot e' allowed' is') = absurd (told_apart is_literal e e' is_one refl)
plain_unique (literal e is_one is) (caret e') = absurd (told_apart is_literal e e' is_one refl)
plain_unique (literal e is_one is) (dollar e') = absurd (told_apart is_literal e e' is_one refl)
plain_unique (literal e is_one is) (escape e' one') = absurd (told_apart is_literal e e' is_one refl)
plain_unique (literal e is_one is) (class e' one' is') = absurd (told_apart is_literal e e' is_one refl)
plain_unique (dot e allowed is) (literal e' is_one' is') = absurd (told_apart is_literal e' e is_one' refl)
plain_unique {s = s} (dot {ranges = rs} e allowed is) (dot {ranges = ss} e' allowed' is') = (ap (λ r. one_of r) (IsSetOf-unique rs ss (InDot s) is is'), rest_is e e')
plain_unique (dot e allowed is) (caret e') = absurd (apart e e' refl)
plain_unique (dot e allowed is) (dollar e') = absurd (apart e e' refl)
plain_unique (dot e allowed is) (escape e' one') = absurd (apart e e' refl)
plain_unique (dot e allowed is) (class e' one' is') = absurd (apart e e' refl)
plain_unique (caret e) (literal e' is_one' is') = absurd (told_apart is_literal e' e is_one' refl)
plain_unique (caret e) (dot e' allowed' is') = absurd (apart e e' refl)
plain_unique (caret e) (caret e') = (refl, rest_is e e')
plain_unique (caret e) (dollar e') = absurd (apart e e' refl)
plain_unique (caret e) (escape e' one') = absurd (apart e e' refl)
plain_unique (caret e) (class e' one' is') = absurd (apart e e' refl)
plain_unique (dollar e) (literal e' is_one' is') = absurd (told_apart is_literal e' e is_one' refl)
plain_unique (dollar e) (dot e' allowed' is') = absurd (apart e e' refl)
plain_unique (dollar e) (caret e') = absurd (apart e e' refl)
plain_unique (dollar e) (dollar e') = (refl, rest_is e e')
plain_unique (dollar e) (escape e' one') = absurd (apart e e' refl)
plain_unique (dollar e) (class e' one' is') = absurd (apart e e' refl)
plain_unique (escape e one) (literal e' is_one' is') = absurd (told_apart is_literal e' e is_one' refl)
plain_unique (escape e one) (dot e' allowed' is') = absurd (apart e e' refl)
plain_unique (escape e one) (caret e') = absurd (apart e e' refl)
plain_unique (escape e one) (dollar e') = absurd (apart e e' refl)
plain_unique (escape e one) (escape e' one') = escape_tree_unique one (escape_along (rest_is e e') one')
plain_unique (escape e one) (class e' one' is') = absurd (apart e e' refl)
plain_unique (class e one is) (literal e' is_one' is') = absurd (told_apart is_literal e' e is_one' refl)
plain_unique (class e one is) (dot e' allowed' is') = absurd (apart e e' refl)
plain_unique (class e one is) (caret e') = absurd (apart e e' refl)
plain_unique (class e one is) (dollar e') = absurd (apart e e' refl)
plain_unique (class e one is) (escape e' one') = absurd (apart e e' refl)
plain_unique {s = s} (class {negated = n} {items = items} {ranges = rs} e one is) (class {negated = n'} {items = items'} {ranges = ss} e' one' is') =
    let same = class_unique one (class_along (rest_is e e') one') in
    let P : ℕ → Type 0 = InClass s n items in
    let is'' = subst (λ x. IsSetOf ss (InClass s n x)) (sym same.1) (subst (λ x. IsSetOf ss (InClass s x items')) (sym same.0) is') in
    (ap (λ r. one_of r) (IsSetOf-unique rs ss P is is''), same.2)

-- what an atom that is no group begins with
abbrev pub is_atom_start : ℕ → Bool
is_atom_start c = is_literal c || ((c == 46) || (c == 94) || (c == 36) || (c == 92) || (c == 91))

pub plain_begins : {s : Settings} {t u : List ℕ} {h : Tree} → PlainAtom s t h u → Stops is_atom_start t → ⊥
plain_begins (literal e is_one is) stops = Stops-not is_atom_start stops e (or_left _ _ is_one)
plain_begins (dot e allowed is) stops = Stops-not is_atom_start stops e refl
plain_begins (caret e) stops = Stops-not is_atom_start stops e refl
plain_begins (dollar e) stops = Stops-not is_atom_start stops e refl
plain_begins (escape e one) stops = Stops-not is_atom_start stops e refl
plain_begins (class e one is) stops = Stops-not is_atom_start stops e refl

pub Stops-paren : (t : List ℕ) → Begins 40 t → Stops is_atom_start t
Stops-paren [] begins = tt
Stops-paren (c ∷ cs) begins = subst (λ x. is_atom_start x ≡ false) (sym begins) refl

Stops-end : (t : List ℕ) → Stops goes_on t → Stops is_atom_start t
Stops-end [] stops = tt
Stops-end (c ∷ cs) stops = ends_no_atom c stops
  where
    ends_no_atom : (c : ℕ) → goes_on c ≡ false → is_atom_start c ≡ false
    ends_no_atom c fails = grind (arith, nat_tests)

pub no_paren : (t : List ℕ) → Begins 40 t → Stops goes_on t → ⊥
no_paren [] begins stops = begins
no_paren (c ∷ cs) begins stops = true≢false (sym (subst (λ x. goes_on x ≡ true) (sym begins) refl) ∙ stops)

pub atom_goes_on : {s : Settings} {m n d : ℕ} {t u : List ℕ} {h : Tree} → Atom s m t h d n u → Stops goes_on t → ⊥
atom_goes_on {t = t} (plain_atom one) stops = plain_begins one (Stops-end t stops)
atom_goes_on {t = t} (group opening inside close) stops = no_paren t (opening_begins opening) stops

pub setting_goes_on : {s s' : Settings} {t u : List ℕ} → Setting s t s' u → Stops goes_on t → ⊥
setting_goes_on {t = t} one stops = no_paren t (setting_begins one) stops

pub setting_or_atom : {s s' : Settings} {m n d : ℕ} {t u v : List ℕ} {h : Tree} → Setting s t s' u → Atom s m t h d n v → ⊥
setting_or_atom {t = t} one (plain_atom other) = plain_begins other (Stops-paren t (setting_begins one))
setting_or_atom one (group opening inside close) = setting_or_opening one opening

pub items_along : {s s' z : Settings} {m m' n d : ℕ} {t t' u : List ℕ} {hs : List Tree} → s ≡ s' → m ≡ m' → t ≡ t' → Items s' m' t' hs d z n u → Items s m t hs d z n u
items_along {s = s} {z = z} {m = m} {m' = m'} {n = n} {d = d} {t' = t'} {u = u} {hs = hs} es em et items =
    let a = subst (λ x. Items x m' t' hs d z n u) (sym es) items in
    let b = subst (λ x. Items s x t' hs d z n u) (sym em) a in
    subst (λ x. Items s m x hs d z n u) (sym et) b

pub branches_along : {s s' z : Settings} {m m' n d : ℕ} {t t' u : List ℕ} {h : Tree} {hs : List Tree} → s ≡ s' → m ≡ m' → t ≡ t' → Branches s' m' t' h hs d z n u → Branches s m t h hs d z n u
branches_along {s = s} {z = z} {m = m} {m' = m'} {n = n} {d = d} {t' = t'} {u = u} {h = h} {hs = hs} es em et branches =
    let a = subst (λ x. Branches x m' t' h hs d z n u) (sym es) branches in
    let b = subst (λ x. Branches s x t' h hs d z n u) (sym em) a in
    subst (λ x. Branches s m x h hs d z n u) (sym et) b

-- one more tree in a row
one_more : {x y : Tree} {xs ys : List Tree} → x ≡ y → xs ≡ ys → x ∷ xs ≡ y ∷ ys
one_more e f = ap₂ (λ a l. a ∷ l) e f

mutual
  pub atom_unique : {s : Settings} {m n n' d d' : ℕ} {t u u' : List ℕ} {h h' : Tree} → Atom s m t h d n u → Atom s m t h' d' n' u' → (h ≡ h') × (d ≡ d') × (n ≡ n') × (u ≡ u')
  atom_unique (plain_atom one) (plain_atom one') = let same = plain_unique one one' in (same.0, refl, refl, same.1)
  atom_unique {t = t} (plain_atom one) (group opening inside close) = absurd (plain_begins one (Stops-paren t (opening_begins opening)))
  atom_unique {t = t} (group opening inside close) (plain_atom one) = absurd (plain_begins one (Stops-paren t (opening_begins opening)))
  atom_unique {m = m} (group opening inside close) (group opening' inside' close') =
      let head = opening_unique opening opening' in
      let same = branches_unique inside (branches_along head.0 (ap (opened m) head.1) head.2 inside') in
      (ap₂ (λ k h. grouped m k h) head.1 (ap₂ alternation_of same.0 same.1), ap (λ x. x + 1) same.2, same.4, rest_is close (same.5 ∙ close'))

  items_unique : {s z z' : Settings} {m n n' d d' : ℕ} {t u u' : List ℕ} {hs hs' : List Tree} → Items s m t hs d z n u → Items s m t hs' d' z' n' u' → (hs ≡ hs') × (d ≡ d') × (z ≡ z') × (n ≡ n') × (u ≡ u')
  items_unique (ended stops) (ended stops') = (refl, refl, refl, refl, refl)
  items_unique (ended stops) (setting one others) = absurd (setting_goes_on one stops)
  items_unique (ended stops) (item one postfixes others) = absurd (atom_goes_on one stops)
  items_unique (setting one others) (ended stops) = absurd (setting_goes_on one stops)
  items_unique (setting one others) (setting one' others') =
      let same = setting_unique one one' in items_unique others (items_along same.0 refl same.1 others')
  items_unique (setting one others) (item one' postfixes' others') = absurd (setting_or_atom one one')
  items_unique (item one postfixes others) (ended stops) = absurd (atom_goes_on one stops)
  items_unique (item one postfixes others) (setting one' others') = absurd (setting_or_atom one' one)
  items_unique (item one postfixes others) (item one' postfixes' others') =
      let same = atom_unique one one' in
      let after = postfixes_unique postfixes (postfixes_along same.0 same.1 same.3 postfixes') in
      let rest = items_unique others (items_along refl same.2 after.2 others') in
      (one_more after.0 rest.0, ap₂ max after.1 rest.1, rest.2, rest.3, rest.4)

  branches_unique : {s z z' : Settings} {m n n' d d' : ℕ} {t u u' : List ℕ} {h h' : Tree} {hs hs' : List Tree} → Branches s m t h hs d z n u → Branches s m t h' hs' d' z' n' u' → (h ≡ h') × (hs ≡ hs') × (d ≡ d') × (z ≡ z') × (n ≡ n') × (u ≡ u')
  branches_unique (last items stops) (last items' stops') =
      let same = items_unique items items' in (ap concat_of same.0, refl, same.1, same.2, same.3, same.4)
  branches_unique (last items stops) (bar items' e' others') =
      let same = items_unique items items' in absurd (Stops-not goes_on_in_branches stops (same.4 ∙ e') refl)
  branches_unique (bar items e others) (last items' stops') =
      let same = items_unique items items' in absurd (Stops-not goes_on_in_branches stops' (sym same.4 ∙ e) refl)
  branches_unique (bar items e others) (bar items' e' others') =
      let same = items_unique items items' in
      let rest = branches_unique others (branches_along same.2 same.3 (rest_is e (same.4 ∙ e')) others') in
      (ap concat_of same.0, one_more rest.0 rest.1, ap₂ max same.1 rest.2, rest.3, rest.4, rest.5)

-- a text spells one tree under given settings
pub Spells-unique : (text : List ℕ) (settings : Settings) (h g : Tree) → Spells text settings h → Spells text settings g → h ≡ g
Spells-unique text settings h g spells spells' =
    let same = branches_unique spells.whole spells'.whole in
    spells.tree_is ∙ ap₂ alternation_of same.0 same.1 ∙ sym spells'.tree_is
